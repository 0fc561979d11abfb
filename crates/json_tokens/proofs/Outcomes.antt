-- One lexeme byte by byte is what the rule reads of it: it ends and breaks where the rule says, and what is kept is of the rule's bytes.
use Prim.Native.Nat.{ℕ, suc, ◌+◌}
use mathlib.Core.Path.{◌≡◌, refl, sym, subst, ◌∙◌}
use mathlib.Core.Bool.{true, false, ◌&&◌}
use mathlib.Core.List.{List, [], ◌∷◌}
use native.Mathlib.Omega.{arith}
use borrow.Table.Steps.{cases}
use lib.Dec.{eqb}
use lib.ListN.{take}
use Rattle.json_rule.specs.Lexemes.{Part, Ends, Breaks, further}
use Rattle.json_machine.specs.Modes.{whole, broken, ended, after_mode, mode_over, may_end}
use Rattle.json_machine.proofs.Bounds.{both, either_left}
use Rattle.json_machine.proofs.Modes.{from_mode, stepped, is_mode, kind_of, is_next, mode_step, mode_end}
use Rattle.json_tokens.specs.Outcomes.{Outcome, outcome_of, outcome, at_end, whole_state, broken_state}

-- a byte that neither ends the lexeme nor breaks it, nor shows that it ended, leads to a mode
on_to_mode : (m k : ℕ) → is_next m k ≡ true → eqb k whole ≡ false → eqb k broken ≡ false → eqb k ended ≡ false → is_mode k ≡ true
unfolding is_next
on_to_mode m k h n1 n2 n3 = (both (is_mode k) (eqb (kind_of k) (kind_of m)) (either_left (is_mode k && eqb (kind_of k) (kind_of m)) (rw (n1, n2, n3) at h))).0

module _ {X : Type 0} (adds : ℕ → ℕ → X → X) (over : ℕ → X → List ℕ → X)
    (over_none : (m : ℕ) (x : X) → over m x [] ≡ x)
    (over_more : (m : ℕ) (x : X) (b : ℕ) (bs : List ℕ) → over m x (b ∷ bs) ≡ over (after_mode m b) (adds m b x) bs) where
  -- what the rule reads from a mode on, against an outcome
  pub data Reads (place m : ℕ) (x : X) (bs : List ℕ) (o : Outcome X) : Part → Type 0 where
    Reaches : (n : ℕ) → o.state ≡ whole_state → o.place ≡ place + n → o.mode ≡ mode_over m (take n bs) → o.held ≡ over m x (take n bs) → Reads place m x bs o (Ends n)
    Stops : (n : ℕ) → o.state ≡ broken_state → o.place ≡ place + n → Reads place m x bs o (Breaks n)

  -- one byte before it
  reads_further : (place m : ℕ) (x : X) (b : ℕ) (bs : List ℕ) (o : Outcome X) (p : Part) → Reads (suc place) (after_mode m b) (adds m b x) bs o p → Reads place m x (b ∷ bs) o (further p)
  unfolding mode_over
  reads_further place m x b bs o _ (Reaches n s p k h) = Reaches (suc n) s (omega (arith, p)) k (h ∙ sym (over_more m x b (take n bs)))
  reads_further place m x b bs o _ (Stops n s p) = Stops (suc n) s (omega (arith, p))

  -- by where the byte leads
  reads_step : (place m : ℕ) (x : X) (b : ℕ) (bs : List ℕ) → is_next m (after_mode m b) ≡ true → (is_mode (after_mode m b) ≡ true → Reads (suc place) (after_mode m b) (adds m b x) bs (outcome adds (suc place) (after_mode m b) (adds m b x) bs) (from_mode (after_mode m b) bs)) → Reads place m x (b ∷ bs) (outcome adds place m x (b ∷ bs)) (stepped (after_mode m b) bs)
  unfolding outcome stepped mode_over
  reads_step place m x b bs next rest =
      let k = after_mode m b in
      cases (eqb k whole) (λ t. rw t (Reaches 1 refl (omega arith) refl (sym (over_more m x b [] ∙ over_none k (adds m b x)))))
      (λ n1. cases (eqb k broken) (λ t. rw (n1, t) (Stops 0 refl (omega arith)))
      (λ n2. cases (eqb k ended) (λ t. rw (n1, n2, t) (Reaches 0 refl (omega arith) refl (sym (over_none m x))))
      (λ n3. rw (n1, n2, n3) (reads_further place m x b bs (outcome adds (suc place) k (adds m b x) bs) (from_mode k bs) (rest (on_to_mode m k next n1 n2 n3))))))

  -- from a mode on
  pub reads : (place m : ℕ) (x : X) (bs : List ℕ) → is_mode m ≡ true → Reads place m x bs (outcome adds place m x bs) (from_mode m bs)
  unfolding outcome mode_over
  reads place m x [] i =
      subst (λ (p : Part). Reads place m x [] (outcome_of (at_end m) place m x) p) (sym (mode_end m i))
      (cases (may_end m) (λ t. rw t (Reaches 0 refl (omega arith) refl (sym (over_none m x)))) (λ f. rw f (Stops 0 refl (omega arith))))
  reads place m x (b ∷ bs) i =
      let g = mode_step m b bs i in
      subst (λ (p : Part). Reads place m x (b ∷ bs) (outcome adds place m x (b ∷ bs)) p) (sym g.read)
      (reads_step place m x b bs g.next (λ j. reads (suc place) (after_mode m b) (adds m b x) bs j))
