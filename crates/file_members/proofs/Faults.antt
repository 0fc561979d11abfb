-- What is told of a value is what the rule says of it.
use Prim.Native.Nat.{ℕ, zero, suc, ◌^◌, ◌≤◌}
use mathlib.Core.Path.{◌≡◌, refl, sym, ap, ◌∙◌}
use mathlib.Core.Bool.{Bool, true, false, not, cond, ◌&&◌, ◌||◌, true≢false}
use mathlib.Core.List.{List, [], ◌∷◌}
use mathlib.Core.Option.{none}
use native.Mathlib.Omega.{arith}
use borrow.Author.Tests.{eqb-true, ne_eqb, leb-true, leb-false, ltb-false, lt-leb, not-true}
use borrow.Table.Steps.{cases}
use lib.Dec.{eqb, leb, ltb}
use lib.IntN.{pos}
use lib.Signed.{le_z}
use Rattle.rules.proofs.Checks.{and_left, and_right}
use Rattle.json_rule.specs.Lexemes.{Lexeme, minus, is_digit}
use Rattle.json_rule.specs.Values.{negative, whole_number_of}
use Rattle.json_rule.specs.Shapes.{Anything, TextUpTo, OneOf, NumberIn, No, AUuid, ATransform, ListUpTo, ARecord, i64}
use Rattle.json_rule.specs.Defects.{not_published, refused_at, is_number_in, is_anything}
use Rattle.json_machine.proofs.Numbers.{signed_by}
use Rattle.json_members.specs.Kept.{NumberKept, LexemeKept}
use Rattle.json_members.specs.Spots.{row_at, shape_at}
use Rattle.json_members.specs.Faults.{fault_of}
use Rattle.json_members.proofs.Cases.{is_key, all_below_lem, Every, done, ◌&◌, by_keys}
use Rattle.json_members.proofs.Faults.{fault_told, fault_at_lem}
use Rattle.file_rule.specs.Tables.{FileShape, Single, IdOrNull, Several, ByName, OfKind, anything, version_shape}
use Rattle.file_rule.specs.FileDefects.{is_null, single_defects}
use Rattle.file_cells.specs.Wants as wants
use Rattle.file_cells.specs.Wants.{passes_over, shape_of}
use Rattle.file_members.specs.Faults.{single_fault, number_like_at, like_at, version_fault, like_fault, fault_in}
use Rattle.file_members.proofs.Numbers.{or_right, shape_past}

-- ---- the one defect that a value may have

-- what is refused is the number that is told, at the place that is given
pub single_told : (shape : FileShape) (place : ℕ) (t : Lexeme) → single_defects shape place t ≡ cond (eqb (single_fault shape t) 0) [] (refused_at place (single_fault shape t))
unfolding single_fault fault_of
single_told (Single shape) place t = fault_told shape place t
single_told IdOrNull place t = cases (is_null t) (λ n. rw n) (λ n. rw n (fault_told i64 place t))
single_told (Several room each) place t = refl
single_told (ByName room each) place t = refl
single_told (OfKind kind) place t = refl

-- ---- a version

-- one that is whole, by its sign and its magnitude
in_versions : (head v : ℕ) → le_z (pos 1) (signed_by head v) && le_z (signed_by head v) (pos 3) ≡ cond (eqb head minus) false (leb 1 v && leb v 3)
in_versions head v = cases (eqb head minus) (λ t. rw t (below v)) (λ f. rw f)
  where
    below : (v : ℕ) → le_z (pos 1) (negative v) && le_z (negative v) (pos 3) ≡ false
    below zero = refl
    below (suc n) = refl

-- one that is not kept whole is above 3
module _ (integer : Bool) (magnitude : ℕ) (t : Lexeme) (k : NumberKept integer magnitude t) where
  number_version : integer && cond (eqb t.head minus) false (leb 1 magnitude && leb magnitude 3) ≡ is_number_in (pos 1) (pos 3) t
  number_version =
      let told = in_versions t.head k.value in
      cases k.is_whole
      (λ w. cases (ltb k.value (2 ^ 64))
      (λ s. let i : integer ≡ true = k.told ∙ rw (w, s) in rw (i, k.is i, k.number, w) (sym told))
      (λ s. let i : integer ≡ false = k.told ∙ rw (w, s) in rw (i, k.number, w) (sym (told ∙ too_large_lem (ltb-false k.value (2 ^ 64) s)))))
      (λ w. let i : integer ≡ false = k.told ∙ rw w in rw (i, k.number, w))
    where
      none_of : (a b c : Bool) → c ≡ false → cond a false (b && c) ≡ false
      none_of true b c e = refl
      none_of false true c e = e
      none_of false false c e = refl

      too_large_lem : 2 ^ 64 ≤ k.value → cond (eqb t.head minus) false (leb 1 k.value && leb k.value 3) ≡ false
      too_large_lem h = none_of (eqb t.head minus) (leb 1 k.value) (leb k.value 3) (lt-leb k.value 3 (omega arith))

not_minus : (head : ℕ) → is_digit head ≡ true → eqb head minus ≡ false
unfolding is_digit
not_minus head d = ne_eqb head minus (λ e. true≢false (sym d ∙ rw e))

not_numeral : (t : Lexeme) → eqb t.head minus ≡ false → is_digit t.head ≡ false → whole_number_of t ≡ none
unfolding whole_number_of
not_numeral t m d = rw (m, d)

module _ (kept : List ℕ) (len : ℕ) (integer : Bool) (magnitude : ℕ) (t : Lexeme) (k : LexemeKept kept len integer magnitude t) where
  version_right : is_digit t.head && integer && (leb 1 magnitude && leb magnitude 3) ≡ is_number_in (pos 1) (pos 3) t
  version_right =
      cases (is_digit t.head)
      (λ d. let m = not_minus t.head d in rw d (rw m at (number_version integer magnitude t (k.number (rw (m, d))))))
      (λ d. cases (eqb t.head minus)
      (λ m. rw d (none_minus integer ∙ (rw m at (number_version integer magnitude t (k.number (rw m))))))
      (λ m. rw (d, not_numeral t m d)))
    where
      none_minus : (a : Bool) → false ≡ a && false
      none_minus true = refl
      none_minus false = refl

  pub version_told : version_fault t.head integer magnitude ≡ single_fault version_shape t
  unfolding version_fault single_fault
  version_told = rw version_right (cases (is_number_in (pos 1) (pos 3) t) (λ h. rw h) (λ n. rw n))

-- ---- a value that is judged as at a spot

-- a spot of which a value may have a defect, and not the action
abbrev is_judged : ℕ → Bool
is_judged spot = not (is_anything (shape_at spot)) && (not (eqb spot 3) && not (eqb spot 0))

-- the spot has the same shape
record Like (want : ℕ) : Type 0 where
  shape : shape_of want ≡ Single (shape_at (like_at want))
  judged : is_judged (like_at want) ≡ true

abbrev like_keys : List ℕ
like_keys = 2 ∷ 3 ∷ 4 ∷ 5 ∷ 6 ∷ 9 ∷ 12 ∷ 13 ∷ 19 ∷ 23 ∷ 24 ∷ 25 ∷ 26 ∷ 27 ∷ 28 ∷ 29 ∷ 33 ∷ 35 ∷ 36 ∷ 37 ∷ 38 ∷ 39 ∷ 40 ∷ 42 ∷ 43 ∷ 44 ∷ 45 ∷ 46 ∷ 48 ∷ 49 ∷ 50 ∷ 51 ∷ 52 ∷ 53 ∷ 54 ∷ 55 ∷ 56 ∷ 57 ∷ 58 ∷ 59 ∷ 60 ∷ 61 ∷ 62 ∷ 63 ∷ 66 ∷ 67 ∷ 68 ∷ []

like : {want : ℕ} → shape_of want ≡ Single (shape_at (like_at want)) → is_judged (like_at want) ≡ true → Like want
like e j = record { shape = e; judged = j }

alike : Every Like like_keys
unfolding shape_of wants.row_at row_at like_at number_like_at
alike =
    like refl refl & like refl refl & like refl refl & like refl refl & like refl refl & like refl refl & like refl refl & like refl refl &
    like refl refl & like refl refl & like refl refl & like refl refl & like refl refl & like refl refl & like refl refl & like refl refl &
    like refl refl & like refl refl & like refl refl & like refl refl & like refl refl & like refl refl & like refl refl & like refl refl &
    like refl refl & like refl refl & like refl refl & like refl refl & like refl refl & like refl refl & like refl refl & like refl refl &
    like refl refl & like refl refl & like refl refl & like refl refl & like refl refl & like refl refl & like refl refl & like refl refl &
    like refl refl & like refl refl & like refl refl & like refl refl & like refl refl & like refl refl & like refl refl & done

-- lists and objects
abbrev is_nested : FileShape → Bool
is_nested (Single shape) = false
is_nested IdOrNull = false
is_nested (Several room each) = true
is_nested (ByName room each) = true
is_nested (OfKind kind) = true

nested_told : (shape : FileShape) (t : Lexeme) → is_nested shape ≡ true → not_published ≡ single_fault shape t
unfolding single_fault
nested_told (Single shape) t e = absurd (true≢false (sym e))
nested_told IdOrNull t e = absurd (true≢false (sym e))
nested_told (Several room each) t e = refl
nested_told (ByName room each) t e = refl
nested_told (OfKind kind) t e = refl

-- what is left where no spot is
pub passes_is : (shape : FileShape) → passes_over shape ≡ true → shape ≡ anything
passes_is (Single Anything) e = refl
passes_is (Single (TextUpTo room)) e = absurd (true≢false (sym e))
passes_is (Single (OneOf words)) e = absurd (true≢false (sym e))
passes_is (Single (NumberIn least most)) e = absurd (true≢false (sym e))
passes_is (Single No) e = absurd (true≢false (sym e))
passes_is (Single AUuid) e = absurd (true≢false (sym e))
passes_is (Single ATransform) e = absurd (true≢false (sym e))
passes_is (Single (ListUpTo room each)) e = absurd (true≢false (sym e))
passes_is (Single (ARecord kind)) e = absurd (true≢false (sym e))
passes_is IdOrNull e = absurd (true≢false (sym e))
passes_is (Several room each) e = absurd (true≢false (sym e))
passes_is (ByName room each) e = absurd (true≢false (sym e))
passes_is (OfKind kind) e = absurd (true≢false (sym e))

abbrev like_arms : List (List ℕ)
like_arms = (1 ∷ []) ∷ (14 ∷ []) ∷ like_keys ∷ []

others : (want : ℕ) → passes_over (shape_of want) ≡ false → is_key like_arms want ≡ false → is_nested (shape_of want) && eqb (like_at want) 0 ≡ true
unfolding shape_of wants.row_at wants.kind_at like_at number_like_at
others want p m =
    cases (leb 113 want)
    (λ t. absurd (true≢false (sym (ap passes_over (shape_past want (leb-true 113 want t))) ∙ p)))
    (λ f. or_right (passes_over (shape_of want)) _ p
    (or_right (is_key like_arms want) _ m
    (all_below_lem 113 (λ k. is_key like_arms k || (passes_over (shape_of k) || (is_nested (shape_of k) && eqb (like_at k) 0))) refl want (leb-false 113 want f))))

module _ (kept : List ℕ) (len : ℕ) (integer : Bool) (magnitude : ℕ) (t : Lexeme) (k : LexemeKept kept len integer magnitude t) where
  like_told : (spot : ℕ) → is_judged spot ≡ true → like_fault spot kept t.head len integer magnitude ≡ single_fault (Single (shape_at spot)) t
  unfolding like_fault single_fault fault_of
  like_told spot j =
      let rest = and_right (not (is_anything (shape_at spot))) _ j in
      rw (not-true (eqb spot 0) (and_right (not (eqb spot 3)) _ rest))
      (fault_at_lem spot kept len integer magnitude t
      (record { something = not-true _ (and_left (not (is_anything (shape_at spot))) _ j); other = not-true _ (and_left (not (eqb spot 3)) _ rest) }) k)

  -- the current snapshot's
  null_told : cond (eqb t.head 110) 0 (like_fault (like_at 14) kept t.head len integer magnitude) ≡ single_fault (shape_of 14) t
  unfolding shape_of wants.row_at row_at like_at number_like_at single_fault
  null_told = cases (eqb t.head 110) (λ n. rw n) (λ n. rw n (like_told 27 refl))

  abbrev Told : ℕ → Type 0
  Told want = like_fault (like_at want) kept t.head len integer magnitude ≡ single_fault (shape_of want) t

  each_told : (ks : List ℕ) → Every Like ks → Every Told ks
  each_told [] done = done
  each_told (x ∷ ks) (l & ls) = (like_told (like_at x) l.judged ∙ ap (λ s. single_fault s t) (sym l.shape)) & each_told ks ls

  none_told : (want : ℕ) → is_nested (shape_of want) && eqb (like_at want) 0 ≡ true → Told want
  unfolding like_fault
  none_told want o = rw (and_right (is_nested (shape_of want)) _ o) (nested_told (shape_of want) t (and_left (is_nested (shape_of want)) _ o))

  other_told : (want : ℕ) → passes_over (shape_of want) ≡ false → eqb want 1 ≡ false → eqb want 14 ≡ false → Told want
  other_told want p a b = by_keys Told like_keys want (each_told like_keys alike) (λ n. none_told want (others want p (rw (a, b, n))))

  -- what is told is the number of what is wrong with the lexeme
  pub fault_in_lem : (want : ℕ) → fault_in want kept t.head len integer magnitude ≡ single_fault (shape_of want) t
  unfolding fault_in single_fault shape_of wants.row_at
  fault_in_lem want =
      cases (passes_over (shape_of want))
      (λ p. rw p (sym (ap (λ s. single_fault s t) (passes_is (shape_of want) p))))
      (λ p. rw p
      (cases (eqb want 1)
      (λ o. rw o (version_told kept len integer magnitude t k ∙ sym (ap (λ x. single_fault (shape_of x) t) (eqb-true want 1 o))))
      (λ o. rw o
      (cases (eqb want 14)
      (λ n. rw (eqb-true want 14 n) (null_told))
      (λ n. rw n (other_told want p o n))))))
