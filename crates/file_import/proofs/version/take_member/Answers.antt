-- A name, a colon and a value, in their order.
use Rattle.std.proofs.Common.{◌∙◌, arith, rules}
use Rattle.file_import.proofs.Passing.{from_later, no_name_there, no_quote, no_colon_there, other_mark, the_member, later_on, still_fits, is_quoted}
use Rattle.file_import.proofs.version.take_member.Goals as goal

pub returns-then-name-ne-WHOLE : goal.returns-then-name-ne-WHOLE
returns-then-name-ne-WHOLE c = no_name_there _ _ _ _ c.next-name.ensures c.if-name-ne-WHOLE.true

pub returns-then-name-ne34 : goal.returns-then-name-ne34
returns-then-name-ne34 c = no_quote _ _ _ _ c.next-name.ensures c.if-name-ne-WHOLE.false c.if-name-ne34.true

pub returns-then-colon-ne-WHOLE : goal.returns-then-colon-ne-WHOLE
returns-then-colon-ne-WHOLE c = no_colon_there _ _ _ _ c.next-name.ensures c.if-name-ne-WHOLE.false c.if-name-ne34.false _ _ c.next-colon.ensures c.if-colon-ne-WHOLE.true

pub returns-then-colon-ne58 : goal.returns-then-colon-ne58
returns-then-colon-ne58 c = other_mark _ _ _ _ c.next-name.ensures c.if-name-ne-WHOLE.false c.if-name-ne34.false _ _ c.next-colon.ensures c.if-colon-ne-WHOLE.false c.if-colon-ne58.true

pub take_value-requires : goal.take_value-requires
take_value-requires c = still_fits _ _ _ _ c.next-colon.ensures c.if-colon-ne-WHOLE.false

pub returns : goal.returns
returns c =
    from_later _ _ _ c.take_value.result _ _ (later_on _ _ _ _ c.next-name.ensures c.if-name-ne-WHOLE.false c.if-name-ne34.false _ _ c.next-colon.ensures c.if-colon-ne-WHOLE.false)
    (the_member _ _ _ _ c.next-name.ensures c.if-name-ne-WHOLE.false c.if-name-ne34.false _ _ c.next-colon.ensures c.if-colon-ne-WHOLE.false c.if-colon-ne58.false _
    (c.is_word-is_version.ensures ∙ is_quoted _ _ _ _ c.next-name.ensures c.if-name-ne-WHOLE.false c.if-name-ne34.false))
    c.take_value.ensures
