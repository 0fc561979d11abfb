-- What the functions over runs of records keep at one more, and what they say of a table, whose slots in use are such a run.
use Prim.Native.Nat.{ℕ, suc, ◌+◌, ◌-◌, ◌≤◌, ◌<◌}
use native.Mathlib.Omega.{arith}
use native.Mathlib.Numerals.{add-one}
use mathlib.Core.Path.{◌≡◌, refl, sym, ap, ap₂, subst, ◌∙◌}
use mathlib.Core.Bool.{Bool, true, false, cond}
use mathlib.Core.List.{List, [], ◌∷◌, ◌++◌, map, append-nil, append_assoc}
use borrow.Table.Steps.{cases}
use Rattle.std.proofs.Common.{int_eq, rules}
use lib.IntN.{ℤ, pos}
use lib.ListN.{length, get_or, set, take, drop, replicate, length-append, length-take, length-map, get_or-map}
use lib.Seq.{get_or-take, drop-cons, set_at, take_at, drop_at, append_snoc, take-append-le, length-take-le}
use Rattle.std.specs.List.{copy_within}
use Rattle.std.proofs.lemmas.List.{take_more, drop-take, drop_all, drop-replicate}
use lib.Signed.{lt_z}
use Rattle.rules.specs.Words.{keep, any, is_in, eq_z, ascending}
use Rattle.rules.specs.Layout.{pad}
use Rattle.rules.proofs.Tables.{keep_length, by_key}
use Rattle.rules.proofs.Replay.Keys.{held_ids}
use Rattle.search.proofs.Places.{here, nowhere, eq_z_turned}
use Rattle.search.specs.Places.{index_of}
use Rattle.tables.specs.Runs.{KeptIn, inserted}
use Rattle.tables.proofs.Table.{Kind, Tidy, Made, listed, slotted, read_length, within, long, at, element_back, listed_slots}
use Rattle.tables.proofs.Search.{any_map}
use Rattle.tables.proofs.Keyed.{Keyed, keyed_on, pad_more, index_map}
use Rattle.tables.proofs.Gather.{Gathered, gather_more, gather_less, gather_room}
use Rattle.tables.proofs.Filter.{keep_append}
use Rattle.tables.proofs.Shift.{put_at, put_at_length, map_put_at}

-- numbers compared by the machine are compared as the rules do
pub told : (a b : ℤ) {r : Bool} → r ≡ int_eq a b → r ≡ eq_z a b
told a b e = e ∙ same a b
  where
    same : (x y : ℤ) → int_eq x y ≡ eq_z x y
    same x y = search rules

-- ---- one more of a run

module _ {A : Type 0} (p : A → Bool) (l before now : List A) (i n : ℕ) (x : A) (b : i < length l) (e : x ≡ get_or l i x) (s : KeptIn p (take i l) before now n) where
  one_more : keep p (take (i + 1) l) ≡ keep p (take i l) ++ keep p (x ∷ [])
  one_more = ap (keep p) (take_more l i x b ∙ ap (λ (y : A). take i l ++ (y ∷ [])) (sym e)) ∙ keep_append p (take i l) (x ∷ [])

  pub kept_less : p x ≡ false → KeptIn p (take (i + 1) l) before now n
  kept_less f =
      let m : keep p (take (i + 1) l) ≡ keep p (take i l) = one_more ∙ rw (f, append-nil) in
      record { many = s.many ∙ ap length (sym m); kept = s.kept ∙ ap (λ (k : List A). k ++ drop (length k) before) (sym m) }

  pub kept_more : p x ≡ true → length l ≤ length before → KeptIn p (take (i + 1) l) before (set now n x) (n + 1)
  kept_more t r =
      let k : List A = keep p (take i l) in
      let m : keep p (take (i + 1) l) ≡ k ++ (x ∷ []) = one_more ∙ rw t in
      let j : length (keep p (take (i + 1) l)) ≡ suc (length k) = ap length m ∙ length-append k (x ∷ []) ∙ omega arith in
      let v : length k < length before = omega (arith, keep_length p (take i l), length-take i l) in
      let d : now ≡ k ++ get_or before (length k) x ∷ drop (suc (length k)) before = s.kept ∙ ap (λ (z : List A). k ++ z) (drop-cons before (length k) x v) in
      record {
        many = omega (arith, s.many, j);
        kept =
            ap (λ (z : List A). set z n x) d
            ∙ set_at k _ _ x n (sym s.many)
            ∙ sym (ap₂ (λ (z : List A) (q : ℕ). z ++ drop q before) m j ∙ append_snoc k x (drop (suc (length k)) before));
      }

pub inserted_set : {A : Type 0} (l : List A) (at n : ℕ) (x : A) → at ≤ n → n < length l → set (copy_within l at n (at + 1)) at x ≡ inserted at n x l
inserted_set {A} l at n x b h =
    let m : ℕ = n - at in
    let t : take (at + 1) l ≡ take at l ++ (get_or l at x ∷ []) = take_more l at x (omega arith) in
    let q : n ≡ at + m = omega arith in
    let z : at + 1 + m ≡ n + 1 = omega arith in
    let d : drop at (take n l) ≡ take m (drop at l) = ap (λ (k : ℕ). drop at (take k l)) q ∙ drop-take at m l in
    let e : copy_within l at n (at + 1) ≡ take at l ++ get_or l at x ∷ (take m (drop at l) ++ drop (n + 1) l) = rw (z, t, append_snoc, append_assoc) in
    ap (λ (k : List A). set k at x) e
    ∙ set_at (take at l) _ _ x at (length-take-le at l (omega arith))
    ∙ ap (λ (k : List A). take at l ++ x ∷ (k ++ drop (n + 1) l)) (sym d)

pub keys_more : {A : Type 0} (f : A → ℤ) (l : List A) (room : ℕ) {keys : List ℤ} {i : ℕ} (x : A) → i < length l → length l ≤ room → x ≡ get_or l i x
    → keys ≡ pad room (pos 0) (take i (map f l)) → set keys i (f x) ≡ pad room (pos 0) (take (i + 1) (map f l))
keys_more f l room {keys} {i} x b r e k =
    let m : length (map f l) ≡ length l = length-map l f in
    let g : get_or (map f l) i (f x) ≡ f x = get_or-map f l i x ∙ ap f (sym e) in
    ap (λ (q : List ℤ). set q i (f x)) k
    ∙ ap (λ (z : ℤ). set (pad room (pos 0) (take i (map f l))) i z) (sym g)
    ∙ pad_more room i (pos 0) (f x) (map f l) (omega (arith, m)) (omega (arith, m))

module _ {A : Type 0} (p : A → Bool) (l : List A) {i : ℕ} where
  pub any_here : (d : A) → i < length l → any p l ≡ any p (drop i l) → p (get_or l i d) ≡ true → true ≡ any p l
  any_here d b v e = sym (v ∙ rw (drop-cons l i d b, e))

  pub any_on : (d : A) → i < length l → any p l ≡ any p (drop i l) → p (get_or l i d) ≡ false → any p l ≡ any p (drop (i + 1) l)
  any_on d b v e = v ∙ rw (drop-cons l i d b, e, add-one)

  pub any_none : length l ≤ i → any p l ≡ any p (drop i l) → false ≡ any p l
  any_none b v = sym (v ∙ rw (drop_all i l b))

-- ---- the slots of a table that are in use

pub map_same : {A : Type 0} (l : List A) → map (λ x. x) l ≡ l
map_same [] = refl
map_same (x ∷ l) = rw (map_same l)

map_map : {A B C : Type 0} (g : B → C) (f : A → B) (l : List A) → map g (map f l) ≡ map (λ x. g (f x)) l
map_map g f [] = refl
map_map g f (x ∷ l) = rw (map_map g f l)

keep_map : {A B : Type 0} (p : B → Bool) (f : A → B) (l : List A) → keep p (map f l) ≡ map f (keep (λ x. p (f x)) l)
keep_map p f [] = refl
keep_map p f (x ∷ l) = cases (p (f x)) (λ t. rw (t, keep_map p f l)) (λ e. rw (e, keep_map p f l))

keep_same : {A : Type 0} (p q : A → Bool) (d : A) (l : List A) → ((i : ℕ) → i < length l → p (get_or l i d) ≡ q (get_or l i d)) → keep p l ≡ keep q l
keep_same p q d [] h = refl
keep_same {A} p q d (x ∷ l) h =
    let r : keep p l ≡ keep q l = keep_same p q d l (λ i b. h (suc i) (omega arith)) in
    ap₂ (λ (y : Bool) (z : List A). cond y (x ∷ z) z) (h 0 (omega arith)) r

same_place : {A : Type 0} (p q : A → Bool) (d : A) (l : List A) → ((i : ℕ) → i < length l → p (get_or l i d) ≡ q (get_or l i d)) → index_of p l ≡ index_of q l
same_place p q d [] h = refl
same_place p q d (x ∷ l) h = ap₂ (λ (y : Bool) (k : ℕ). cond y 0 (suc k)) (h 0 (omega arith)) (same_place p q d l (λ i b. h (suc i) (omega arith)))

module _ {K : Kind} {t : K.Whole} (h : Tidy K t) where
  in_use : length (take (K.count t) (K.items t)) ≡ K.count t
  in_use = length-take-le (K.count t) (K.items t) (omega (arith, within h, long h))

  pub slot_below : {i : ℕ} → i < length (take (K.count t) (K.items t)) → i < K.count t
  slot_below b = omega (arith, in_use)

  pub slot_same : {i : ℕ} (d : K.Slot) → i < length (take (K.count t) (K.items t)) → get_or (take (K.count t) (K.items t)) i d ≡ get_or (K.items t) i d
  slot_same {i} d b = get_or-take (K.count t) (K.items t) i d (slot_below b)

  -- what holds of each slot in use holds of the one that a loop over them is at
  pub each_slot : (P : K.Slot → Type 0) → ((i : ℕ) (d : K.Slot) → i < K.count t → P (get_or (K.items t) i d)) → {i : ℕ} (d : K.Slot) → i < length (take (K.count t) (K.items t)) → P (get_or (take (K.count t) (K.items t)) i d)
  each_slot P f {i} d b = subst P (sym (slot_same d b)) (f i d (slot_below b))

  -- a loop over them stops at the first that passes, or runs out
  pub stopped : (p : K.Slot → Bool) {i : ℕ} (d : K.Slot) → i < length (take (K.count t) (K.items t)) → index_of p (take (K.count t) (K.items t)) ≡ i + index_of p (drop i (take (K.count t) (K.items t)))
      → p (get_or (take (K.count t) (K.items t)) i d) ≡ true → i ≡ index_of p (take (K.count t) (K.items t))
  stopped p {i} d b v e = sym (v ∙ here p d (take (K.count t) (K.items t)) i b e)

  pub ran_out : (p : K.Slot → Bool) {i : ℕ} → length (take (K.count t) (K.items t)) ≤ i → i ≤ length (take (K.count t) (K.items t)) → index_of p (take (K.count t) (K.items t)) ≡ i + index_of p (drop i (take (K.count t) (K.items t)))
      → K.count t ≡ index_of p (take (K.count t) (K.items t))
  ran_out p {i} b c v = let z = nowhere p K.blank (take (K.count t) (K.items t)) i b in omega (arith, in_use)

  pub slots_passed : {i : ℕ} → length (take (K.count t) (K.items t)) ≤ i → K.count t ≤ i
  slots_passed b = omega (arith, in_use)

  -- the keys of the slots are those of the table
  pub run_holds : (key : K.Plain → ℤ) (z : ℤ) → any (λ x. eq_z (key (K.read x)) z) (take (K.count t) (K.items t)) ≡ is_in (map key (listed K t)) z
  run_holds key z =
      sym (any_map (eq_z z) key (listed K t)
      ∙ ap (λ (q : K.Plain → Bool). any q (listed K t)) (λ i x. eq_z_turned z (key x) i)
      ∙ ap (any (λ (x : K.Plain). eq_z (key x) z)) (listed_slots h)
      ∙ any_map (λ (x : K.Plain). eq_z (key x) z) K.read (take (K.count t) (K.items t)))

  -- ---- keys and ids, gathered

  pub run_keyed : (key : K.Plain → ℤ) {r u : List ℤ} {i : ℕ} (d : K.Slot) → i < length (take (K.count t) (K.items t)) → Keyed K key t r i → u ≡ set r i (key (K.read (get_or (take (K.count t) (K.items t)) i d))) → Keyed K key t u (i + 1)
  run_keyed key {r} {u} {i} d b s e = keyed_on h key d (slot_below b) s (e ∙ ap (λ (x : K.Slot). set r i (key (K.read x))) (slot_same d b))

  module _ {R : Type 0} {laid : List ℤ → R} {key : K.Plain → ℤ} {ids : List ℤ} {r : R} {i : ℕ} (d : K.Slot) (b : i < length (take (K.count t) (K.items t))) (s : Gathered K laid key ids t r i) where
    at_slot : {x : Bool} → is_in ids (key (K.read (get_or (take (K.count t) (K.items t)) i d))) ≡ x → is_in ids (key (K.read (get_or (K.items t) i d))) ≡ x
    at_slot e = ap (λ (y : K.Slot). is_in ids (key (K.read y))) (sym (slot_same d b)) ∙ e

    pub held_less : is_in ids (key (K.read (get_or (take (K.count t) (K.items t)) i d))) ≡ false → Gathered K laid key ids t r (i + 1)
    held_less e = gather_less h d (slot_below b) s (at_slot e)

    pub held_more : is_in ids (key (K.read (get_or (take (K.count t) (K.items t)) i d))) ≡ true → {l : List ℤ} {u : R} → l ≡ held_ids key ids (take i (listed K t))
        → u ≡ laid (l ++ (key (K.read (get_or (take (K.count t) (K.items t)) i d)) ∷ [])) → Gathered K laid key ids t u (i + 1)
    held_more e {l} {u} g q = gather_more h d (slot_below b) s (at_slot e) g (q ∙ ap (λ (y : K.Slot). laid (l ++ (key (K.read y) ∷ []))) (slot_same d b))

    pub held_room : is_in ids (key (K.read (get_or (take (K.count t) (K.items t)) i d))) ≡ true → ascending (by_key lt_z key) (listed K t) ≡ true → length (held_ids key ids (take i (listed K t))) < length ids
    held_room e a = gather_room h d (slot_below b) s (at_slot e) a

  -- a test of slots that agrees with one of what is read finds the same place
  pub run_same_place : (p : K.Slot → Bool) (q : K.Plain → Bool) → ((i : ℕ) (d : K.Slot) → i < K.count t → p (get_or (K.items t) i d) ≡ q (K.read (get_or (K.items t) i d))) → index_of p (take (K.count t) (K.items t)) ≡ index_of q (listed K t)
  run_same_place p q same =
      same_place p (λ x. q (K.read x)) K.blank (take (K.count t) (K.items t)) (λ i b. let c : i < K.count t = omega (arith, in_use) in rw (get_or-take (K.count t) (K.items t) i K.blank c) (same i K.blank c))
      ∙ sym (ap (index_of q) (listed_slots h) ∙ index_map q K.read (take (K.count t) (K.items t)))

  pub run_place : (p : K.Plain → Bool) {k : ℕ} → k ≡ index_of (λ x. p (K.read x)) (take (K.count t) (K.items t)) → k ≡ index_of p (listed K t)
  run_place p e = e ∙ sym (ap (index_of p) (listed_slots h) ∙ index_map p K.read (take (K.count t) (K.items t)))

  pub run_any : (p : K.Plain → Bool) {r : Bool} → r ≡ any (λ x. p (K.read x)) (take (K.count t) (K.items t)) → r ≡ any p (listed K t)
  run_any p e = e ∙ sym (ap (any p) (listed_slots h) ∙ any_map p K.read (take (K.count t) (K.items t)))

  pub run_keys : (f : K.Plain → ℤ) {r : List ℤ} → r ≡ pad K.room (pos 0) (map (λ x. f (K.read x)) (take (K.count t) (K.items t))) → r ≡ pad K.room (pos 0) (map f (listed K t))
  run_keys f e = e ∙ ap (pad K.room (pos 0)) (sym (ap (map f) (listed_slots h) ∙ map_map f K.read (take (K.count t) (K.items t))))

-- what passes of a run that is laid out from a list, put into a blank table
module _ {K : Kind} {laid : List K.Plain → K.Whole} (m : Made K laid) where
  pub kept_run : (p : K.Slot → Bool) (q : K.Plain → Bool) (l : List K.Plain) {run : List K.Slot} {none u : K.Whole} {n : ℕ}
      → run ≡ map K.lay l → keep (λ x. p (K.lay x)) l ≡ keep q l → none ≡ laid [] → KeptIn p run (K.items none) (K.items u) n → K.count u ≡ n → u ≡ laid (keep q l)
  kept_run p q l {run} {none} {u} {n} w y e s c =
      let o : keep p run ≡ map K.lay (keep q l) = ap (keep p) w ∙ keep_map p K.lay l ∙ ap (map K.lay) y in
      let blanks : K.items none ≡ replicate (K.room - 0) K.blank = ap K.items e ∙ m.laid_items [] in
      m.same
      (s.kept ∙ ap₂ (λ (a r : List K.Slot). a ++ drop (length a) r) o blanks
      ∙ ap (λ (r : List K.Slot). map K.lay (keep q l) ++ r) (drop-replicate (length (map K.lay (keep q l))) (K.room - 0) K.blank ∙ ap (λ (i : ℕ). replicate (i - length (map K.lay (keep q l))) K.blank) (omega arith))
      ∙ sym (m.laid_items _))
      (c ∙ s.many ∙ ap length o ∙ length-map (keep q l) K.lay ∙ sym (m.laid_count _))

-- the slots in use are laid out from what is read of them
pub run_laid : {K : Kind} {t : K.Whole} → Tidy K t → take (K.count t) (K.items t) ≡ map K.lay (listed K t)
run_laid {K} {t} h = ap (take (K.count t)) h.slots ∙ take_at (map K.lay (listed K t)) _ (K.count t) (length-map (listed K t) K.lay ∙ read_length h)

module _ {K : Kind} {laid : List K.Plain → K.Whole} (m : Made K laid) {t : K.Whole} (h : Tidy K t) where
  pub kept_laid : (p : K.Slot → Bool) (q : K.Plain → Bool) {none u : K.Whole} {n : ℕ}
      → ((i : ℕ) (d : K.Slot) → i < K.count t → p (get_or (K.items t) i d) ≡ q (K.read (get_or (K.items t) i d)))
      → none ≡ laid [] → KeptIn p (take (K.count t) (K.items t)) (K.items none) (K.items u) n → K.count u ≡ n → u ≡ laid (keep q (listed K t))
  kept_laid p q same e s c =
      let l : List K.Plain = listed K t in
      let y : keep (λ x. p (K.lay x)) l ≡ keep q l =
      keep_same (λ x. p (K.lay x)) q (K.read K.blank) l
      (λ i b. let v : i < K.count t = omega (arith, read_length h) in rw (at h i K.blank v, element_back h i K.blank v) (same i K.blank v)) in
      kept_run m p q l (run_laid h) y e s c

  pub inserted_laid : {at : ℕ} {a : K.Slot} {u : K.Whole} → K.lay (K.read a) ≡ a → at ≤ K.count t → K.count t < K.room
      → K.items u ≡ inserted at (K.count t) a (K.items t) → K.count u ≡ K.count t + 1 → u ≡ laid (put_at at (K.read a) (listed K t))
  inserted_laid {at} {a} {u} k b f p q =
      let l : List K.Plain = listed K t in
      let L : List K.Slot = map K.lay l in
      let N : List K.Slot = put_at at a L in
      let n : length L ≡ K.count t = length-map l K.lay ∙ read_length h in
      let R : List K.Slot = replicate (K.room - (length L + 1)) K.blank in
      let z : K.room - length L ≡ suc (K.room - (length L + 1)) = omega (arith, f) in
      let P : K.items t ≡ L ++ K.blank ∷ R = h.slots ∙ rw z in
      let w : length (L ++ (K.blank ∷ [])) ≡ K.count t + 1 = length-append L (K.blank ∷ []) ∙ ap (λ (i : ℕ). i + 1) n in
      let front : take (K.count t) (K.items t) ≡ L = ap (take (K.count t)) P ∙ take_at L (K.blank ∷ R) (K.count t) n in
      let head : take at (K.items t) ≡ take at L = ap (take at) P ∙ take-append-le at L (K.blank ∷ R) (omega (arith, n)) in
      let back : drop (K.count t + 1) (K.items t) ≡ R = ap (drop (K.count t + 1)) (P ∙ sym (append_snoc L K.blank R)) ∙ drop_at (L ++ (K.blank ∷ [])) R (K.count t + 1) w in
      let M : inserted at (K.count t) a (K.items t) ≡ take at L ++ a ∷ (drop at L ++ R) = λ i. head i ++ a ∷ (drop at (front i) ++ back i) in
      let v : length N ≡ length L + 1 = put_at_length at a L (omega (arith, n)) in
      let S : slotted K (put_at at (K.read a) l) ≡ N ++ R = ap (pad K.room K.blank) (map_put_at K.lay at (K.read a) l ∙ ap (λ (y : K.Slot). put_at at y L) k) ∙ ap (λ (i : ℕ). N ++ replicate (K.room - i) K.blank) v in
      m.same
      (p ∙ M ∙ sym (append_assoc (take at L) (a ∷ drop at L) R) ∙ sym (m.laid_items _ ∙ S))
      (q ∙ sym (m.laid_count _ ∙ put_at_length at (K.read a) l (omega (arith, read_length h)) ∙ ap (λ (i : ℕ). i + 1) (read_length h)))
