-- Refs alone stand under names of their own.
use mathlib.Core.Path.{refl, sym, ap}
use mathlib.Core.List.{[], ◌∷◌}
use Rattle.file_cells.specs.Wants.{kind_at, row_at, shape_of, named_in, named_at}
use Rattle.file_members.proofs.Numbers.{else_at, one_key, shape_past}
use Rattle.file_members.proofs.want.named_of.Statement.{statement}
use Rattle.file_members.proofs.want.named_of.Tie as tie

returns_2 : tie.Need-returns
unfolding named_at shape_of row_at kind_at
returns_2 c =
    let want = c.args.want in
    sym (else_at named_at 0 113 ((20 ∷ []) ∷ []) refl (λ x h. ap named_in (shape_past x h)) want (one_key 20 want c.if-want-eq-REFS.false))

pub named_of_spec : {M : Type 1} → statement M
unfolding named_at shape_of row_at kind_at
named_of_spec = tie.close (tie.spec (λ c. rw c.if-want-eq-REFS.true) returns_2)
