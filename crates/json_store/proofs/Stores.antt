-- A run of stores: what stands where it was stored, and beside it.
use Prim.Native.Nat.{ℕ, zero, suc, ◌+◌, ◌-◌, ◌≤◌, ◌<◌}
use mathlib.Core.Path.{◌≡◌, refl, sym, ap, ◌∙◌}
use mathlib.Core.List.{List, [], ◌∷◌, ◌++◌, append-nil, append_assoc}
use native.Mathlib.Nat.{add-zero, zero-add, add-suc, suc-add, add_assoc, sub-zero, zero-sub, sub_self, suc-sub-suc}
use native.Mathlib.Numerals.{add-one}
use native.Mathlib.Omega.{arith}
use lib.ListN.{length, get_or, take, drop, set, replicate, length-set, length-drop, length-replicate, drop_of_length-le}
use borrow.Rule.Slice.PartMut.{put_mid}
use lib.Seq.{drop-drop, sets, sets-eq, drop-cons, get_or-set_same, get_or-set_other, length-take-le, get_or-drop, get_or-take, ext_get_or}
use Rattle.rules.specs.Layout.{pad}
use Rattle.json_members.specs.Kept.{front}
use Rattle.json_members.proofs.Fronts.{front_length, front_at}
use Rattle.json_store.specs.Puts.{part}

module _ {A : Type 0} where
  -- ---- one after the other

  pub sets_append : (l : List A) (i : ℕ) (xs ys : List A) → sets l i (xs ++ ys) ≡ sets (sets l i xs) (i + length xs) ys
  sets_append l i [] ys = rw (add-zero i)
  sets_append l i (x ∷ xs) ys = sets_append (set l i x) (suc i) xs ys ∙ rw (suc-add i (length xs), add-suc i (length xs))

  -- the next of what is left
  pub sets_more : (l : List A) (at i : ℕ) (vs : List A) (d b : A) → i < length vs → b ≡ get_or vs i d → sets l (at + i) (drop i vs) ≡ sets (set l (at + i) b) (at + (i + 1)) (drop (i + 1) vs)
  sets_more l at i vs d b h e = rw (drop-cons vs i d h, add-one i, add-suc at i, e)

  pub sets_on : (l : List A) (i : ℕ) (vs : List A) (d b : A) → i < length vs → b ≡ get_or vs i d → sets l i (drop i vs) ≡ sets (set l i b) (i + 1) (drop (i + 1) vs)
  sets_on l i vs d b h e = rw (drop-cons vs i d h, add-one i, e)

  pub sets_done : (l : List A) (at i : ℕ) (vs : List A) → length vs ≤ i → sets l at (drop i vs) ≡ l
  sets_done l at i vs h = rw (drop_of_length-le vs {i = i} h)

  -- from the first of blanks on
  drop_blanks : (k room : ℕ) (b : A) → drop k (replicate room b) ≡ replicate (room - k) b
  drop_blanks zero room b = rw (sub-zero room)
  drop_blanks (suc k) zero b = rw (zero-sub (suc k))
  drop_blanks (suc k) (suc room) b = drop_blanks k room b ∙ rw (suc-sub-suc room k)

  pub sets_pad : (room : ℕ) (b : A) (vs : List A) → length vs ≤ room → sets (replicate room b) 0 vs ≡ pad room b vs
  sets_pad room b vs h =
      sets-eq vs (replicate room b) 0 (omega (arith, length-replicate room b))
      ∙ ap (λ (r : List A). vs ++ r) (ap (λ (n : ℕ). drop n (replicate room b)) (zero-add (length vs)) ∙ drop_blanks (length vs) room b)

  -- all is stored
  pub stored_end : (room : ℕ) (b : A) (vs l : List A) (i : ℕ) → length vs ≤ room → length vs ≤ i → sets (replicate room b) 0 vs ≡ sets l i (drop i vs) → l ≡ pad room b vs
  stored_end room b vs l i h hi e = sym (sym (sets_pad room b vs h) ∙ e ∙ sets_done l i i vs hi)

  pub pad_full : (room : ℕ) (b : A) (vs : List A) → length vs ≡ room → pad room b vs ≡ vs
  pad_full room b vs e = rw (e, sub_self room) (append-nil vs)

  -- ---- element by element: before, behind and where it was stored

  pub before_stored : (l : List A) (at : ℕ) (vs : List A) (i : ℕ) (d : A) → i < at → get_or (sets l at vs) i d ≡ get_or l i d
  before_stored l at [] i d h = refl
  before_stored l at (v ∷ vs) i d h = before_stored (set l at v) (suc at) vs i d (omega arith) ∙ get_or-set_other l at i v d (λ e. omega arith)

  pub behind_stored : (l : List A) (at : ℕ) (vs : List A) (i : ℕ) (d : A) → at + length vs ≤ i → get_or (sets l at vs) i d ≡ get_or l i d
  behind_stored l at [] i d h = refl
  behind_stored l at (v ∷ vs) i d h =
      behind_stored (set l at v) (suc at) vs i d (omega (arith, suc-add at (length vs), add-suc at (length vs))) ∙ get_or-set_other l at i v d (λ e. omega (arith, add-suc at (length vs)))

  pub stored_at : (l : List A) (at : ℕ) (vs : List A) (k : ℕ) (d : A) → at + length vs ≤ length l → k < length vs → get_or (sets l at vs) (at + k) d ≡ get_or vs k d
  stored_at l at [] k d h hk = absurd (omega arith)
  stored_at l at (v ∷ vs) zero d h hk = rw (add-zero at) (before_stored (set l at v) (suc at) vs at d (omega arith) ∙ get_or-set_same l at v d (omega (arith, add-suc at (length vs))))
  stored_at l at (v ∷ vs) (suc k) d h hk =
      ap (λ (p : ℕ). get_or (sets (set l at v) (suc at) vs) p d) (omega (arith, add-suc at k, suc-add at k))
      ∙ stored_at (set l at v) (suc at) vs k d (omega (arith, suc-add at (length vs), add-suc at (length vs), length-set l at v)) (omega arith)

-- ---- parts

same_front : (n : ℕ) (l m : List ℕ) → ((i : ℕ) → i < n → get_or l i 0 ≡ get_or m i 0) → front n l ≡ front n m
same_front n l m e =
    ext_get_or 0 (front n l) (front n m) (front_length n l ∙ sym (front_length n m))
    (λ i h. let h' : i < n = omega (arith, front_length n l) in front_at n l i h' ∙ e i h' ∙ sym (front_at n m i h'))

pub part_length : (place n : ℕ) (l : List ℕ) → length (part place n l) ≡ n
part_length place n l = front_length n (drop place l)

pub part_at : (place n : ℕ) (l : List ℕ) (i : ℕ) → i < n → get_or (part place n l) i 0 ≡ get_or l (place + i) 0
part_at place n l i h = front_at n (drop place l) i h ∙ get_or-drop place l i 0

-- two parts that have the same bytes
pub same_part : (place n : ℕ) (l : List ℕ) (place' : ℕ) (m : List ℕ) → ((i : ℕ) → i < n → get_or l (place + i) 0 ≡ get_or m (place' + i) 0) → part place n l ≡ part place' n m
same_part place n l place' m e = same_front n (drop place l) (drop place' m) (λ i h. get_or-drop place l i 0 ∙ e i h ∙ sym (get_or-drop place' m i 0))

pub part_before : (l : List ℕ) (at : ℕ) (vs : List ℕ) (place n : ℕ) → place + n ≤ at → part place n (sets l at vs) ≡ part place n l
part_before l at vs place n h = same_part place n (sets l at vs) place l (λ i k. before_stored l at vs (place + i) 0 (omega arith))

pub part_behind : (l : List ℕ) (at : ℕ) (vs : List ℕ) (place n : ℕ) → at + length vs ≤ place → part place n (sets l at vs) ≡ part place n l
part_behind l at vs place n h = same_part place n (sets l at vs) place l (λ i k. behind_stored l at vs (place + i) 0 (omega arith))

-- so many from one of those on that were stored
pub part_in : (l : List ℕ) (at : ℕ) (vs : List ℕ) (k n : ℕ) → at + length vs ≤ length l → k + n ≤ length vs → part (at + k) n (sets l at vs) ≡ part k n vs
part_in l at vs k n h hk =
    same_part (at + k) n (sets l at vs) k vs
    (λ i hi. ap (λ (p : ℕ). get_or (sets l at vs) p 0) (add_assoc at k i) ∙ stored_at l at vs (k + i) 0 h (omega arith))

pub part_all : (vs : List ℕ) (n : ℕ) → length vs ≡ n → part 0 n vs ≡ vs
part_all vs n e = ext_get_or 0 (part 0 n vs) vs (part_length 0 n vs ∙ sym e) (λ i h. part_at 0 n vs i (omega (arith, part_length 0 n vs)) ∙ ap (λ (p : ℕ). get_or vs p 0) (zero-add i))

pub part_same : (l : List ℕ) (at : ℕ) (vs : List ℕ) (n : ℕ) → at + length vs ≤ length l → length vs ≡ n → part at n (sets l at vs) ≡ vs
part_same l at vs n h e = ap (λ (p : ℕ). part p n (sets l at vs)) (sym (add-zero at)) ∙ part_in l at vs 0 n h (omega arith) ∙ part_all vs n e

pub part_take : (place n : ℕ) (l : List ℕ) → place + n ≤ length l → part place n l ≡ take n (drop place l)
part_take place n l h =
    ext_get_or 0 (part place n l) (take n (drop place l)) (part_length place n l ∙ sym (length-take-le n (drop place l) (omega (arith, length-drop place l))))
    (λ i hi. let h' : i < n = omega (arith, part_length place n l) in front_at n (drop place l) i h' ∙ sym (get_or-take n (drop place l) i 0 h'))

-- ---- copies

-- elements put in the place of as many are stored one after the other
pub put_stored : {A : Type 0} (at n : ℕ) (l vs : List A) → length vs ≡ n → at + n ≤ length l → put_mid at n l vs ≡ sets l at vs
put_stored {A} at n l vs e h =
    let d : drop n (drop at l) ≡ drop (at + length vs) l = drop-drop n at l ∙ ap (λ (k : ℕ). drop (at + k) l) (sym e) in
    ap (λ (r : List A). take at l ++ (vs ++ r)) d ∙ sym (sets-eq vs l at (omega arith) ∙ append_assoc (take at l) vs (drop (at + length vs) l))

-- so many bytes from a place on, as they are cut out for a copy
pub cut_part : (place n : ℕ) (l : List ℕ) → place + n ≤ length l → take (place + n - place) (drop place l) ≡ part place n l
cut_part place n l h =
    let e : place + n - place ≡ n = omega arith in
    ap (λ (k : ℕ). take k (drop place l)) e ∙ sym (part_take place n l h)
