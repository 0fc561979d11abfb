-- The value that is wanted: whether it may be anything, and where it is refused.
use Prim.Native.Nat.{ℕ, suc, ◌<◌}
use native.Mathlib.Nat.{suc-ne-zero}
use mathlib.Core.Path.{◌≡◌, refl, sym, ap, ◌∙◌}
use mathlib.Core.Bool.{Bool, true, false, cond, not, ◌&&◌, ◌||◌, beq, true≢false}
use mathlib.Core.List.{List, [], ◌∷◌}
use mathlib.Core.Logic.{◌⊎◌, inl, inr}
use native.Mathlib.Omega.{arith}
use borrow.Author.Tests.{eqb-false, ne_eqb, not-true, ltb-true, ltb-false}
use borrow.Table.Steps.{cases}
use lib.Dec.{eqb, ltb}
use Rattle.rules.specs.Words.{any, is_some}
use Rattle.rules.proofs.Checks.{neither}
use Rattle.json_rule.specs.Defects.{listing_of, kind_of, is_anything}
use Rattle.json_judge.specs.Frames.{Frame, schema_around, stands}
use Rattle.json_members.specs.Spots.{row_at, shape_at}
use Rattle.json_members.specs.Opening.{refused_in}
use Rattle.json_members.proofs.Cases.{done, ◌&◌, by_keys, all_below, all_below_lem}
use Rattle.json_stands.proofs.Laid.{Held, State, laid}
use Rattle.json_stands.proofs.Open.{Open, field, schema_fields, Passed, here, list, object, fields, ids, part}
use Rattle.json_stands.proofs.Stands.{wanted_at, parent_of, Waits, anything, within, Frames}

-- a spot where not anything may stand is none of what is passed over
pub some_spot : (v : ℕ) → is_anything (shape_at v) ≡ false → v ≡ 0 → ⊥
unfolding row_at
some_spot v a e = true≢false (sym (ap (λ (x : ℕ). is_anything (shape_at x)) e) ∙ a)

pub any_is : {v w : ℕ} → Waits v w → eqb v 0 ≡ is_anything (shape_at v)
unfolding row_at
any_is anything = refl
any_is {v} (within x a e) = ne_eqb v 0 (some_spot v a) ∙ sym a

-- a value that is wanted somewhere is wanted in what is judged
pub judged_here : {q v : ℕ} {fs js : List Frame} → (v ≡ 0 → ⊥) → (q ≡ 0) ⊎ (v ≡ 0) → Passed q fs js → js ≡ fs
judged_here n i here = refl
judged_here n (inl e) (list {q = q} y) = absurd (suc-ne-zero q e)
judged_here n (inr e) (list y) = absurd (n e)
judged_here n (inl e) (object {q = q} y) = absurd (suc-ne-zero q e)
judged_here n (inr e) (object y) = absurd (n e)

-- it stands in the innermost list or object that is judged
pub record Here (v w : ℕ) : Type 0 where
  pub spot : v ≡ 0 → ⊥
  pub parent : parent_of v ≡ w

pub list_here : {v w : ℕ} → Waits v w → is_some (listing_of (shape_at v)) ≡ true → Here v w
unfolding row_at
list_here anything e = absurd (true≢false (sym e))
list_here {v} (within h a p) e = record { spot = some_spot v a; parent = p }

pub object_here : {v w : ℕ} → Waits v w → is_some (kind_of (shape_at v)) ≡ true → Here v w
unfolding row_at
object_here anything e = absurd (true≢false (sym e))
object_here {v} (within h a p) e = record { spot = some_spot v a; parent = p }

pub none_passed : {q v : ℕ} → (v ≡ 0 → ⊥) → (q ≡ 0) ⊎ (v ≡ 0) → q ≡ 0
none_passed n (inl e) = e
none_passed n (inr e) = absurd (n e)

module _ {v w q : ℕ} {h : Held} {fs js : List Frame} (t : Here v w) (i : (q ≡ 0) ⊎ (v ≡ 0)) (y : Passed q fs js) (o : Open h w js) where
  pub open_here : Open h (parent_of v) fs
  open_here =
      let o' : Open h w fs = rw (judged_here t.spot i y) at o in
      rw t.parent o'

-- ---- where it is refused

-- the type of a field, and whether it is required, at the schema
in_field_lem : {h : Held} {f : Frame} {fs : List Frame} → Open h 39 (f ∷ fs) → schema_around f ≡ h.part
in_field_lem (field schema_fields a m u) = refl
in_field_lem {h = h} (ids {each = each} {us = us} x7 _) = elim x7 [ ]
in_field_lem {h = h} (part {kind = kind} {ps = ps} {us = us} x11 _ _) = elim x11 [ ]
in_field_lem {h = h} (fields {room = room} {each = each} {kind = kind} {ps = ps} {us = us} x16 _ _) = elim x16 [ ]

abbrev of_schema_keys : List ℕ
of_schema_keys = 42 ∷ 43 ∷ []

-- all else where it stands
module _ (v : ℕ) (n : any (eqb v) of_schema_keys ≡ false) where
  no_schema_lem : v < 58 → (row_at v).of_schema ≡ false
  unfolding row_at
  no_schema_lem h = not-true (row_at v).of_schema (rw n at (all_below_lem 58 (λ x. any (eqb x) of_schema_keys || not (row_at x).of_schema) refl v h))

  elsewhere : (s : State) (first : ℕ) → refused_in (laid s) v first ≡ first
  unfolding refused_in
  elsewhere s first =
      let a = neither (eqb v 42) (eqb v 43 || false) n in
      let b = neither (eqb v 43) false a.1 in
      cases (ltb v 42)
      (λ t. rw t)
      (λ t. cases (ltb v 44)
      (λ u. absurd (eqb-false v 43 b.0 (omega (arith, ltb-true v 44 u, ltb-false v 42 t, eqb-false v 42 a.0))))
      (λ u. rw (t, u)))

module _ (s : State) (first : ℕ) {f : Frame} {around : List Frame} where
  -- at the schema
  at_schema : (v : ℕ) → refused_in (laid s) v first ≡ s.held.part → (row_at v).of_schema ≡ true → {w : ℕ} → Open s.held w (f ∷ around) → 39 ≡ w → refused_in (laid s) v first ≡ stands (wanted_at v) f first
  at_schema v e g o p =
      let o' : Open s.held 39 (f ∷ around) = rw (sym p) at o in
      e ∙ (sym (in_field_lem o') ∙ sym (rw g))

  pub stands_is : {v w q : ℕ} {js : List Frame} → Waits v w → Passed q (f ∷ around) js → Open s.held w js → (q ≡ 0) ⊎ (v ≡ 0) → refused_in (laid s) v first ≡ stands (wanted_at v) f first
  unfolding row_at refused_in parent_of
  stands_is anything y o i = refl
  stands_is {v} {w} (within h a p) y o i =
      let o' : Open s.held w (f ∷ around) = rw (judged_here (some_spot v a) i y) at o in
      by_keys (λ x. parent_of x ≡ w → x < 58 → refused_in (laid s) x first ≡ stands (wanted_at x) f first) of_schema_keys v
      ((λ p _. at_schema 42 refl refl o' p) & (λ p _. at_schema 43 refl refl o' p) & done)
      (λ n _ _. elsewhere v n s first ∙ sym (rw (no_schema_lem v n h)))
      p h
