-- The row of an update's action: which of its members are required, and that a kind fits its slot.
use Prim.Native.Nat.{ℕ, suc, ◌+◌, ◌-◌, ◌%◌, ◌≤◌, ◌<◌}
use mathlib.Core.Path.{◌≡◌, refl}
use mathlib.Core.Bool.{true, false, true≢false}
use mathlib.Core.List.{List, [], ◌∷◌}
use native.Mathlib.Omega.{arith}
use borrow.Author.Tests.{ltb-true}
use borrow.Table.Steps.{cases}
use lib.Dec.{ltb}
use Rattle.rules.specs.Words.{is_some, all, same_bytes}
use Rattle.rules.proofs.Checks.{and_left, and_right}
use Rattle.json_rule.specs.Shapes.{AnUpdate}
use Rattle.json_members.specs.Words.{Entry, number_of, kinds, action_words}
use Rattle.json_members.specs.Rows.{action_at, span, spans, span_of, through}
use Rattle.json_members.proofs.Cases.{done, ◌&◌, by_keys, beside_other}
use Rattle.json_stands.proofs.Members.{is_member}

-- a kind without an action has the row of none
pub no_span : (kind : ℕ) → is_some (action_at kind) ≡ false → span_of kind ≡ span 3 0 23
unfolding action_at span_of
no_span kind =
    by_keys (λ k. is_some (action_at k) ≡ false → span_of k ≡ span 3 0 23) kinds kind
    ((λ e. absurd (true≢false e)) & (λ e. absurd (true≢false e)) & (λ e. absurd (true≢false e)) & (λ e. absurd (true≢false e)) & (λ e. absurd (true≢false e))
    & (λ e. absurd (true≢false e)) & (λ e. absurd (true≢false e)) & (λ e. absurd (true≢false e)) & (λ e. absurd (true≢false e)) & (λ e. absurd (true≢false e))
    & (λ e. absurd (true≢false e)) & (λ e. absurd (true≢false e)) & (λ e. absurd (true≢false e)) & (λ e. absurd (true≢false e)) & (λ e. absurd (true≢false e)) & done)
    (λ n _. beside_other (span 3 0 23) spans (kinds ∷ []) kind refl (rw n))

-- the spots that a row requires are members of an update
pub span_members : (kind : ℕ) → all (is_member AnUpdate) (through (span_of kind).first (span_of kind).must) ≡ true
unfolding span_of
span_members kind =
    by_keys (λ k. all (is_member AnUpdate) (through (span_of k).first (span_of k).must) ≡ true) kinds kind
    (refl & refl & refl & refl & refl & refl & refl & refl & refl & refl & refl & refl & refl & refl & refl & done)
    (λ n. rw (beside_other (span 3 0 23) spans (kinds ∷ []) kind refl (rw n)))

pub span_below : (kind : ℕ) → (span_of kind).first + (suc (span_of kind).must - (span_of kind).first) ≤ 64
unfolding span_of
span_below kind =
    by_keys (λ k. (span_of k).first + (suc (span_of k).must - (span_of k).first) ≤ 64) kinds kind
    (omega arith & omega arith & omega arith & omega arith & omega arith & omega arith & omega arith & omega arith & omega arith & omega arith & omega arith & omega arith & omega arith & omega arith & omega arith & done)
    (λ n. rw (beside_other (span 3 0 23) spans (kinds ∷ []) kind refl (rw n)) (omega arith))

-- the kind of a word fits its slot
few : (es : List Entry) (text : List ℕ) → all (λ (e : Entry). ltb e.number 256) es ≡ true → number_of 0 es text < 256
unfolding number_of
few [] text a = omega arith
few (e ∷ es) text a =
    cases (same_bytes text e.word)
    (λ t. rw t (ltb-true e.number 256 (and_left (ltb e.number 256) _ a)))
    (λ f. rw f (few es text (and_right (ltb e.number 256) _ a)))

pub kind_fits : (text : List ℕ) → number_of 0 action_words text % 256 ≡ number_of 0 action_words text
kind_fits text = omega (arith, few action_words text refl)
