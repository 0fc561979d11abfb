-- Each object has its names, and no other spot has any.
use Prim.Native.Nat.{ℕ}
use mathlib.Core.List.{List, [], ◌∷◌}
use borrow.Author.Rules.{rules}
use Rattle.json_members.specs.Spots.{row_at, member_named}
use Rattle.json_members.proofs.Cases.{no_arm}
use Rattle.json_members.proofs.Tables.{no_members}
use Rattle.json_members.proofs.name.member_of.Statement.{statement}
use Rattle.json_members.proofs.name.member_of.Tie as tie

abbrev arms : List (List ℕ)
arms = (2 ∷ []) ∷ (7 ∷ []) ∷ (15 ∷ []) ∷ (39 ∷ []) ∷ (19 ∷ []) ∷ (46 ∷ []) ∷ (21 ∷ []) ∷ (53 ∷ []) ∷ []

pub member_of_spec : {M : Type 1} → statement M
unfolding row_at member_named
member_of_spec =
    tie.close
    (tie.spec
    (λ c κs. search rules)
    (λ c κs. search rules)
    (λ c κs. search rules)
    (λ c κs. search rules)
    (λ c κs. search rules)
    (λ c κs. search rules)
    (λ c κs. search rules)
    (λ c κs. search rules)
    (λ c. rw c.in-2.is c.update_member.ensures)
    (λ c. rw c.in-7.is c.snapshot_member.ensures)
    (λ c. rw c.in-15.is c.schema_member.ensures)
    (λ c. rw c.in-39.is c.field_member.ensures)
    (λ c. rw c.in-19.is c.order_member.ensures)
    (λ c. rw c.in-46.is c.sort_field_member.ensures)
    (λ c. rw c.in-21.is c.spec_member.ensures)
    (λ c. rw c.in-53.is c.partition_field_member.ensures)
    (λ c. no_members c.args.object _ (no_arm arms c.args.object c.in_default.in_default-own.rest)))
