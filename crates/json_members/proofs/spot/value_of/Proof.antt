-- Three members are passed over.
use mathlib.Core.List.{[], ◌∷◌}
use Rattle.json_members.specs.Spots.{row_at, value_at}
use Rattle.json_members.proofs.Cases.{no_arm}
use Rattle.json_members.proofs.Tables.{value_here}
use Rattle.json_members.proofs.spot.value_of.Statement.{statement}
use Rattle.json_members.proofs.spot.value_of.Tie as tie

pub value_of_spec : {M : Type 1} → statement M
unfolding row_at value_at
value_of_spec =
    tie.close
    (tie.spec
    (λ c. rw c.in-33.is)
    (λ c. rw c.in-34.is)
    (λ c. rw c.in-35.is)
    (λ c. value_here c.args.member (no_arm ((33 ∷ []) ∷ (34 ∷ []) ∷ (35 ∷ []) ∷ []) c.args.member c.in_default.in_default-own.rest)))
