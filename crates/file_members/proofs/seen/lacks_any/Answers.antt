-- The flag of the slice is that of all, and there are no more members than flags.
use Rattle.std.proofs.Common.{◌≡◌, ◌+◌, ◌<◌, Bool, true, false, not, ◌&&◌, List, get_or, length, take, eqb, sym, ap, ◌∙◌, arith, rules}
use Rattle.std.proofs.lemmas.List.{get_or-take, length-take}
use Rattle.file_members.specs.Names.{first_of, count_of}
use Rattle.file_members.specs.Standings.{standing_at}
use Rattle.file_members.specs.Flags.{lacking, lacks_at}
use Rattle.file_members.proofs.Lacking.{count_room, first_room, lacks_first, lacks_here, lacks_further, lacks_none}
use Rattle.file_members.proofs.seen.lacks_any.Goals as goal

pub shared_ref_as_front-was_seen-items : goal.shared_ref_as_front-was_seen-items
shared_ref_as_front-was_seen-items c = omega (arith, count_room c.args.kind, c.count_of.ensures)

pub overflow_add-first : goal.overflow_add-first
overflow_add-first c = omega (arith, first_room c.args.kind, count_room c.args.kind, c.count_of.ensures, c.first_of-first.ensures, length-take c.count_of.result c.args.seen.now)

pub loop-i-init : goal.loop-i-init
loop-i-init c = lacks_first _ _ _ _

-- the call's answer of this member, by its number and its own flag
told : (version first kind_first count i : _) (flags : List Bool) {said : Bool} → first ≡ kind_first → i < count → said ≡ eqb (standing_at version (first + i)) 2 && not (get_or (take count flags) i false) → lacks_at version kind_first i flags ≡ said
told version first kind_first count i flags f b e = sym (rw (f, get_or-take count flags i false b) at e)

pub returns-then-is_lacking : goal.returns-then-is_lacking
returns-then-is_lacking c =
    let b : c.loop-i.i < count_of c.args.kind = omega (arith, c.count_of.ensures, length-take c.count_of.result c.args.seen.now) in
    sym (c.loop-i.invariant ∙ lacks_here _ _ _ _ _ b (told _ _ _ c.count_of.result _ _ c.first_of-first.ensures (omega (arith, c.count_of.ensures)) c.is_lacking.ensures ∙ c.if-is_lacking.true))

pub loop-i-preserved : goal.loop-i-preserved
loop-i-preserved c =
    let b : c.loop-i.i < count_of c.args.kind = omega (arith, c.count_of.ensures, length-take c.count_of.result c.args.seen.now) in
    c.loop-i.invariant ∙ lacks_further _ _ _ _ _ b (told _ _ _ c.count_of.result _ _ c.first_of-first.ensures (omega (arith, c.count_of.ensures)) c.is_lacking.ensures ∙ c.if-is_lacking.false)

pub returns : goal.returns
returns c =
    let room = count_room c.args.kind in
    sym (c.loop-i.invariant ∙ lacks_none _ _ _ _ _ (omega (arith, room, c.count_of.ensures, length-take c.count_of.result c.args.seen.now)))
