-- Schemas and sort orders by their ids: what setting one answers, and the id that an added one gets.
use Rattle.std.specs.Prelude.{ℕ, ◌≡◌, Bool, true, false, cond, not, List, ltb, ℤ, pos, length, get_or}
use Rattle.std.proofs.Math.Option.{Option, none, some}
use Rattle.std.proofs.Math.IntN.{suc_ℤ}
use Rattle.std.specs.Int.Signed.{lt_z}
use Rattle.rules.specs.Words.{eq_z, highest, first_of, some_with}
use Rattle.rules.specs.SchemaUpdates.{chosen, choice_checks, choice_logged}

-- what is answered where an id is set: the rule's number, whether it is the current one, the id that is chosen and the one that is logged
pub record Chosen (id : ℤ) (last : Option ℤ) (current : ℤ) (held : ℤ → Bool) (number : ℕ) (same : Bool) (x logged : ℤ) : Type 0 where
  pub checked : number ≡ first_of (choice_checks id last current held)
  pub unchanged : same ≡ eq_z (chosen id last) current
  pub takes : x ≡ chosen id last
  pub logs : logged ≡ choice_logged (chosen id last) last

-- the id that an added one gets, of the held ids: the one at the place where an equal one stands, else the next, or the highest where it is the largest
pub record FromIds (ids : List ℤ) (place : ℕ) (largest : ℤ) (last : Option ℤ) (found exhausted is_last : Bool) (id : ℤ) : Type 0 where
  pub stands : found ≡ ltb place (length ids)
  pub over : found ≡ false → exhausted ≡ not (lt_z (highest ids) largest)
  pub again : found ≡ true → is_last ≡ some_with (eq_z id) last
  pub gets : id ≡ cond (ltb place (length ids)) (get_or ids place (pos 0)) (cond (lt_z (highest ids) largest) (suc_ℤ (highest ids)) (highest ids))

-- the id that an added one gets: that of the first held one with its fields, which may be the last added, else the next, unless ids are exhausted
pub record Numbered (reused : Option ℤ) (largest : Bool) (next : ℤ) (last : Option ℤ) (found exhausted is_last : Bool) (id : ℤ) : Type 0 where
  pub held : found ≡ true → reused ≡ some id
  pub again : found ≡ true → is_last ≡ some_with (eq_z id) last
  pub new : found ≡ false → reused ≡ none
  pub over : found ≡ false → exhausted ≡ largest
  pub gets : found ≡ false → largest ≡ false → id ≡ next
