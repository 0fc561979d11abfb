-- Past the end there is none.
use mathlib.Core.Path.{sym}
use borrow.Author.Rules.{rules}
use lib.ListN.{get_or-eq_default}
use Rattle.file_records.specs.Decoded.{head_of}
use Rattle.file_records.proofs.value.head_of.Statement.{statement}
use Rattle.file_records.proofs.value.head_of.Tie as tie

returns_2 : tie.Need-returns
unfolding head_of
returns_2 c = rw (← c.place_of-place.ensures) (sym (get_or-eq_default c.args.bytes.now 0 c.if-place-bytes.false))

pub head_of_spec : {M : Type 1} → statement M
unfolding head_of
head_of_spec =
    tie.close
    (tie.spec
    (λ c κs. search rules)
    (λ c. search rules)
    (λ c. rw (← c.place_of-place.ensures))
    returns_2)
