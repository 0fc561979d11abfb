-- A hyphen at four places, and a digit at every other.
use mathlib.Core.Path.{refl}
use mathlib.Core.List.{[], ◌∷◌}
use borrow.Author.Rules.{rules}
use lib.Dec.{eqb}
use Rattle.json_members.specs.Uuids.{hyphen, hyphens, is_right_at}
use Rattle.json_members.proofs.Cases.{done, ◌&◌, at_keys, no_arm}
use Rattle.json_members.proofs.Uuids.{digit_right}
use Rattle.json_members.proofs.uuid.is_right_at.Statement.{statement}
use Rattle.json_members.proofs.uuid.is_right_at.Tie as tie

pub is_right_at_spec : {M : Type 1} → statement M
unfolding is_right_at
is_right_at_spec =
    tie.close
    (tie.spec
    (λ c κs. search rules)
    (λ c. at_keys (λ i. is_right_at i c.args.byte) (eqb c.args.byte hyphen) hyphens c.args.i c.in-8.is (refl & refl & refl & refl & done))
    (λ c. rw c.hex_of.ensures (digit_right c.args.i c.args.byte (no_arm (hyphens ∷ []) c.args.i c.in_default.in_default-own.rest))))
