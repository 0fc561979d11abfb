-- What is written of an update by its kind. One that is tidy says what stands at its kind; of one that is not nothing is written.
use Prim.Native.Nat.{ℕ}
use mathlib.Core.Path.{◌≡◌, refl, sym, ap, ◌∙◌}
use mathlib.Core.Bool.{Bool, true, false, cond, not, ◌&&◌, ◌||◌, false≢true}
use mathlib.Core.List.{List, [], ◌∷◌}
use mathlib.Core.Option.{Option, none, some}
use borrow.Author.Tests.{eqb-true}
use lib.Dec.{eqb}
use Rattle.records.specs.declared.update.TableUpdate.{TableUpdate}
use Rattle.rules.specs.Words.{is_some, some_with, all, any}
use Rattle.rules.specs.WellFormed.{update_formed}
use Rattle.rules.specs.Register.{Update}
use Rattle.rules.specs.Register.Update.{NotFormed}
use Rattle.rules.specs.Kinds.{is_tidy_update, kind_weight, at_kind, readings, read_kind, read_update}
use Rattle.rules.proofs.Checks.{by_test, by_either, and_left, and_right}
use Rattle.json_rule.specs.Records.{Sent}
use Rattle.log_rule.specs.LogText.{sent_in, sent_texts, text_if, update_text, is_carried_update}

-- the kinds that have an action
abbrev pub listed : List ℕ
listed = 1 ∷ 2 ∷ 3 ∷ 4 ∷ 6 ∷ 7 ∷ 8 ∷ 9 ∷ 10 ∷ 11 ∷ 12 ∷ 13 ∷ 18 ∷ 19 ∷ 20 ∷ []

none_of : {A : Type 0} (o : Option A) → not (is_some o) ≡ true → o ≡ none
none_of none h = refl
none_of (some x) h = absurd (false≢true h)

module _ (offers : List ℕ) where
  -- a reading of one of these kinds, or one that sends nothing
  abbrev listed_or_not : ℕ × Update → Bool
  listed_or_not x = any (eqb x.0) listed || not (is_some (sent_in offers x.1))

  nothing_at : (k : ℕ) (l : List (ℕ × Update)) → all listed_or_not l ≡ true → any (eqb k) listed ≡ false → sent_in offers (at_kind k l) ≡ none
  unfolding sent_in
  nothing_at k [] h n = refl
  nothing_at k (x ∷ l) h n =
      by_test (λ (y : Update). sent_in offers y ≡ none) (eqb k x.0)
      (λ e. by_either (any (eqb x.0) listed) (not (is_some (sent_in offers x.1)))
      (λ t. absurd (false≢true (sym n ∙ ap (λ (j : ℕ). any (eqb j) listed) (eqb-true k x.0 e) ∙ t)))
      (none_of (sent_in offers x.1))
      (and_left (listed_or_not x) (all listed_or_not l) h))
      (λ e. nothing_at k l (and_right (listed_or_not x) (all listed_or_not l) h) n)

  module _ (u : TableUpdate) where
    silent : any (eqb u.kind) listed ≡ false → sent_in offers (read_kind u) ≡ none
    unfolding sent_in
    silent n = nothing_at u.kind (readings u) refl n

    -- ---- what is written

    pub text_at_lem : (k : ℕ) → u.kind ≡ k → update_text offers (at_kind k (readings u)) ≡ update_text offers (read_kind u)
    text_at_lem k e = sym (ap (λ (j : ℕ). update_text offers (at_kind j (readings u))) e)

    pub no_text_at : any (eqb u.kind) listed ≡ false → [] ≡ update_text offers (read_kind u)
    no_text_at n = sym (ap text_if (silent n))

    pub tidy_text : is_tidy_update u ≡ true → update_text offers (read_kind u) ≡ update_text offers (read_update u)
    unfolding read_update
    tidy_text e = sym (ap (λ (b : Bool). update_text offers (tidied b)) e)
      where
        tidied : Bool → Update
        tidied b = cond b (read_kind u) (NotFormed (kind_weight u.kind))

    pub untidy_text : is_tidy_update u ≡ false → [] ≡ update_text offers (read_update u)
    unfolding read_update sent_in
    untidy_text e = sym (ap (λ (b : Bool). update_text offers (tidied b)) e)
      where
        tidied : Bool → Update
        tidied b = cond b (read_kind u) (NotFormed (kind_weight u.kind))

    -- ---- whether it can be

    pub carried_at : (k : ℕ) → u.kind ≡ k → some_with sent_texts (sent_in offers (at_kind k (readings u))) ≡ some_with sent_texts (sent_in offers (read_kind u))
    carried_at k e = sym (ap (λ (j : ℕ). some_with sent_texts (sent_in offers (at_kind j (readings u)))) e)

    pub not_carried_at : any (eqb u.kind) listed ≡ false → false ≡ some_with sent_texts (sent_in offers (read_kind u))
    not_carried_at n = sym (ap (λ (o : Option Sent). some_with sent_texts o) (silent n))

    -- one that is not tidy is not well formed
    by_tidy : (b : Bool) → is_tidy_update u ≡ b → (update_formed (read_update u) && some_with sent_texts (sent_in offers (read_kind u))) ≡ is_carried_update offers (read_update u)
    unfolding read_update update_formed is_carried_update
    by_tidy true e = rw e
    by_tidy false e = rw e

    pub carried_is : {a b : Bool} → a ≡ update_formed (read_update u) → b ≡ some_with sent_texts (sent_in offers (read_kind u)) → (a && b) ≡ is_carried_update offers (read_update u)
    carried_is {a} {b} p q = ap (λ (x : Bool). x && b) p ∙ ap (λ (x : Bool). update_formed (read_update u) && x) q ∙ by_tidy (is_tidy_update u) refl
