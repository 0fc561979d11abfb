-- Two members are.
use mathlib.Core.Path.{refl, sym}
use mathlib.Core.List.{[], ◌∷◌}
use borrow.Author.Tests.{le-ltb}
use Rattle.json_members.proofs.Cases.{no_arm, only_keys}
use Rattle.file_cells.specs.Wants.{row_at, stands_at_schema}
use Rattle.file_members.proofs.want.is_at_schema.Statement.{statement}
use Rattle.file_members.proofs.want.is_at_schema.Tie as tie

returns_3 : tie.Need-returns-in_default
unfolding stands_at_schema row_at
returns_3 c =
    let want = c.args.want in
    sym (only_keys stands_at_schema 100 ((38 ∷ []) ∷ (39 ∷ []) ∷ []) refl (λ x h. rw (le-ltb x 100 h)) want (no_arm ((38 ∷ []) ∷ (39 ∷ []) ∷ []) want c.in_default.in_default-own.rest))

pub is_at_schema_spec : {M : Type 1} → statement M
unfolding stands_at_schema row_at
is_at_schema_spec =
    tie.close
    (tie.spec
    (λ c. rw c.in-38.is)
    (λ c. rw c.in-39.is)
    returns_3)
