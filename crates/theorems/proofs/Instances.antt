-- The theorems on fresh field ids are not empty: three calls that are computed.
use Prim.Native.Nat.{ℕ}
use mathlib.Core.Path.{◌≡◌, refl, sym, ap, ◌∙◌}
use mathlib.Core.Bool.{true, cond}
use mathlib.Core.List.{List, [], ◌∷◌, ◌++◌, map}
use lib.Dec.{eqb}
use lib.IntN.{ℤ, pos}
use Rattle.records.specs.declared.metadata.TableMetadata.{TableMetadata}
use Rattle.rules.specs.Words.{all}
use Rattle.rules.specs.Register.{Metadata, Update}
use Rattle.rules.specs.Register.Update.{RemovePartitionSpecs}
use Rattle.rules.specs.WellFormed.{update_formed}
use Rattle.rules.specs.Run.{started}
use Rattle.rules.specs.Layout.{laid_metadata, read_metadata}
use Rattle.rules.specs.Answer.{laid_outcome}
use Rattle.rules.specs.FieldIds.{fresh_by, fresh_from, held_field_ids, is_reached}
use Rattle.rules.specs.Examples.{terms, dated, by_p, adding_spec}
use Rattle.rules.proofs.Examples.{computed}
use Rattle.rules.proofs.Slots.Reread.{reread_metadata, reread_updates}
use Rattle.theorems.proofs.Run.{Call}
use Rattle.theorems.proofs.Chains.{Chain, end_over}
use Rattle.theorems.proofs.FieldIds.{fresh_in, fresh_over}
use Rattle.theorems.proofs.LaidCalls.{laid_call, outcome, next, Laid, laid}

-- the fresh ids that these updates get in this metadata, where the number is 0
abbrev fresh_at : ℕ → List Update → Metadata → List ℤ
fresh_at number us p = cond (eqb number 0) (fresh_from terms us (started p)) []

fresh_alike : {n n' : ℕ} {us us' : List Update} {p p' : Metadata} → n' ≡ n → us' ≡ us → p' ≡ p → fresh_at n' us' p' ≡ fresh_at n us p
fresh_alike a b c = rw (a, b, c)

-- a call of what is laid out gives out the fresh ids that the rules give
laid_fresh : (p : Metadata) (us : List Update) → Laid 1 p us → all update_formed us ≡ true → fresh_in (laid_call 1 p us) ≡ fresh_at (laid_outcome (laid_metadata p) (outcome 1 p us)).number us p
laid_fresh p us k g = fresh_alike k.number (reread_updates us g) (reread_metadata p)

-- ---- three calls

-- identity(1) is held with 1000, the last partition id
abbrev held : Metadata
held = dated 2 (by_p 1000 1 ∷ []) 1000

-- a spec of identity(1), which reuses 1000, and year(2)
abbrev updates₁ : List Update
updates₁ = adding_spec 0 2 0 ∷ []

-- one of month(2), and one whose field has another column's name
abbrev updates₂ : List Update
updates₂ = adding_spec 4 1 0 ∷ adding_spec 9 1 0 ∷ []

-- the first call's spec goes, and year(2) comes again
abbrev updates₃ : List Update
updates₃ = RemovePartitionSpecs (pos 2 ∷ []) ∷ adding_spec 1 1 0 ∷ []

-- what each leads to
abbrev after₁ : Metadata
after₁ = next 1 held updates₁

abbrev after₂ : Metadata
after₂ = next 1 after₁ updates₂

abbrev after₃ : Metadata
after₃ = next 1 after₂ updates₃

laid₁ : Laid 1 held updates₁
unfolding computed
laid₁ = laid 1 held updates₁ refl refl

laid₂ : Laid 1 after₁ updates₂
unfolding computed
laid₂ = laid 1 after₁ updates₂ refl refl

laid₃ : Laid 1 after₂ updates₃
unfolding computed
laid₃ = laid 1 after₂ updates₃ refl refl

abbrev pub three_start : TableMetadata
three_start = laid_metadata held

abbrev pub three_calls : List Call
three_calls = laid_call 1 held updates₁ ∷ laid_call 1 after₁ updates₂ ∷ laid_call 1 after₂ updates₃ ∷ []

-- each starts from what the one before answered
pub three_calls_lem : Chain three_start three_calls
three_calls_lem = (refl, (laid₁.metadata, (laid₂.metadata, tt)))

-- the second is refused with 31
pub three_calls_numbers : map (λ (c : Call). c.answered.number) three_calls ≡ 0 ∷ 31 ∷ 0 ∷ []
unfolding computed laid_outcome
three_calls_numbers = row laid₁.number laid₂.number laid₃.number
  where
    row : {a b c a' b' c' : ℕ} → a ≡ a' → b ≡ b' → c ≡ c' → a ∷ b ∷ c ∷ [] ≡ a' ∷ b' ∷ c' ∷ []
    row p q r = rw (p, q, r)

-- year(2) gets 1001, and 1002 once its spec is removed; what the refused call would have given out is free again
pub three_calls_fresh : fresh_over three_calls ≡ pos 1001 ∷ pos 1002 ∷ []
unfolding computed laid_outcome fresh_by fresh_from
three_calls_fresh = joined (laid_fresh held updates₁ laid₁ refl) (laid_fresh after₁ updates₂ laid₂ refl) (laid_fresh after₂ updates₃ laid₃ refl)
  where
    joined : {a b c a' b' c' : List ℤ} → a ≡ a' → b ≡ b' → c ≡ c' → a ++ (b ++ (c ++ [])) ≡ a' ++ (b' ++ (c' ++ []))
    joined p q r = rw (p, q, r)

-- the specs that are answered in the end hold the second of them, beside the id from the start
pub three_calls_held : held_field_ids (read_metadata (end_over three_start three_calls)) ≡ pos 1000 ∷ pos 1002 ∷ []
unfolding computed
three_calls_held = ap (λ (m : TableMetadata). held_field_ids (read_metadata m)) (sym laid₃.metadata) ∙ ap held_field_ids (reread_metadata after₃)

-- and the start is such as `run_reached_at_end` and `run_fresh_never_held` ask
pub three_calls_reached : is_reached (read_metadata three_start) ≡ true
unfolding is_reached
three_calls_reached = ap is_reached (reread_metadata held)
