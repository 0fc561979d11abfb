-- Laws of lists and of tables by key, once for any element and any key: what a test says of the kept, of the rest, of a table into which an element was put.
use Prim.Native.Nat.{ℕ, zero, suc, ◌≤◌, ◌<◌}
use native.Mathlib.Omega.{arith}
use mathlib.Core.Path.{◌≡◌, refl, sym, ap, ap₂, ◌∙◌, subst}
use mathlib.Core.Bool.{Bool, true, false, cond, not, ◌&&◌, ◌||◌, false≢true, true≢false, and-false, or-true}
use mathlib.Core.List.{List, [], ◌∷◌, ◌++◌, map}
use mathlib.Core.Option.{Option, none, some}
use lib.Dec.{leb}
use lib.ListN.{length, get_or, drop, length-append}
use borrow.Author.Tests.{leb-true, le-leb}
use borrow.Table.Steps.{cases}
use Rattle.rules.specs.Words.{is_some, if_some, some_with, all, any, keep, first, after_last, each_pair, ascending, put}
use Rattle.rules.proofs.Checks.{by_test, both, and_left, and_right, or_left, or_right, by_either}
use Rattle.rules.proofs.Orders.{Ordered, Tells}

-- ---- lists

module _ {A : Type 0} (p : A → Bool) where
  pub all_head : (x : A) (l : List A) → all p (x ∷ l) ≡ true → p x ≡ true
  all_head x l = and_left (p x) (all p l)

  pub all_tail : (x : A) (l : List A) → all p (x ∷ l) ≡ true → all p l ≡ true
  all_tail x l = and_right (p x) (all p l)

  -- what holds for all holds for the kept
  pub all_keep : (q : A → Bool) (l : List A) → all p l ≡ true → all p (keep q l) ≡ true
  all_keep q [] h = refl
  all_keep q (x ∷ l) h =
      let ih : all p (keep q l) ≡ true = all_keep q l (all_tail x l h) in
      by_test (λ (r : List A). all p r ≡ true) (q x) (λ e. both (all_head x l h) ih) (λ e. ih)

  -- the kept pass the test
  pub all_kept : (l : List A) → all p (keep p l) ≡ true
  all_kept [] = refl
  all_kept (x ∷ l) = by_test (λ (r : List A). all p r ≡ true) (p x) (λ e. both e (all_kept l)) (λ e. all_kept l)

  pub all_then : (q : A → Bool) → ((x : A) → p x ≡ true → q x ≡ true) → (l : List A) → all p l ≡ true → all q l ≡ true
  all_then q f [] h = refl
  all_then q f (x ∷ l) h = both (f x (all_head x l h)) (all_then q f l (all_tail x l h))

  pub all_append : (l r : List A) → all p l ≡ true → all p r ≡ true → all p (l ++ r) ≡ true
  all_append [] r h k = k
  all_append (x ∷ l) r h k = both (all_head x l h) (all_append l r (all_tail x l h) k)

  -- and the other way round
  pub all_parts : (l r : List A) → all p (l ++ r) ≡ true → (all p l ≡ true) × (all p r ≡ true)
  all_parts [] r h = (refl, h)
  all_parts (x ∷ l) r h = let k = all_parts l r (all_tail x (l ++ r) h) in (both (all_head x (l ++ r) h) k.0, k.1)

  pub all_drop : (n : ℕ) (l : List A) → all p l ≡ true → all p (drop n l) ≡ true
  all_drop zero l h = h
  all_drop (suc n) [] h = refl
  all_drop (suc n) (x ∷ l) h = all_drop n l (all_tail x l h)

  pub all_at : (d : A) (l : List A) → all p l ≡ true → (i : ℕ) → i < length l → p (get_or l i d) ≡ true
  all_at d [] h i b = absurd (omega arith)
  all_at d (x ∷ l) h zero b = all_head x l h
  all_at d (x ∷ l) h (suc i) b = all_at d l (all_tail x l h) i (omega arith)

  pub all_after_last : (q : A → Bool) (l : List A) → all p l ≡ true → all p (after_last q l) ≡ true
  all_after_last q [] h = refl
  all_after_last q (x ∷ l) h =
      let P : List A → Type 0 = λ r. all p r ≡ true in
      by_test P (any q l) (λ e. all_after_last q l (all_tail x l h)) (λ e. by_test P (q x) (λ f. all_tail x l h) (λ f. h))

  -- what holds for all holds for the first with a property, if there is one
  pub all_first : (q : A → Bool) (l : List A) → all p l ≡ true → if_some p (first q l) ≡ true
  all_first q [] h = refl
  all_first q (x ∷ l) h = by_test (λ (o : Option A). if_some p o ≡ true) (q x) (λ e. all_head x l h) (λ e. all_first q l (all_tail x l h))

  -- a test that holds for nothing holds for none of a list
  pub any_none : ((x : A) → p x ≡ false) → (l : List A) → any p l ≡ false
  any_none f [] = refl
  any_none f (x ∷ l) = rw (f x) (any_none f l)

  -- one of two tests holds for some exactly if one of them holds for some
  pub any_or : (q : A → Bool) (l : List A) → any (λ x. p x || q x) l ≡ any p l || any q l
  any_or q [] = refl
  any_or q (x ∷ l) =
      cases (p x)
      (λ t. rw t)
      (λ f. cases (q x) (λ t. rw (f, t) (sym (or-true (any p l)))) (λ g. rw (f, g) (any_or q l)))

  -- one that is sought stays if its like are kept
  pub any_keep : (q : A → Bool) → ((x : A) → p x ≡ true → q x ≡ true) → (l : List A) → any p l ≡ true → any p (keep q l) ≡ true
  any_keep q f [] h = h
  any_keep q f (x ∷ l) h =
      by_test (λ (r : List A). any p r ≡ true) (q x)
      (λ e. by_either (p x) (any p l) (or_left (any p (keep q l))) (λ k. or_right (p x) (any_keep q f l k)) h)
      (λ e. by_either (p x) (any p l) (λ k. absurd (true≢false (sym (f x k) ∙ e))) (any_keep q f l) h)

  -- what is kept of those that pass another test, where all that are kept pass it
  pub keep_among : (q : A → Bool) (l : List A) → all q (keep p l) ≡ true → keep p (keep q l) ≡ keep p l
  keep_among q [] h = refl
  keep_among q (x ∷ l) h =
      cases (p x)
      (λ e. let k : q x && all q (keep p l) ≡ true = rw e at h in
      rw (and_left (q x) (all q (keep p l)) k, e, keep_among q l (and_right (q x) (all q (keep p l)) k)))
      (λ e. let ih : keep p (keep q l) ≡ keep p l = keep_among q l (rw e at h) in
      by_test (λ (r : List A). keep p r ≡ keep p (x ∷ l)) (q x) (λ f. rw e ih) (λ f. rw e ih))

  -- one with a property is found exactly if there is one
  pub first_any : (l : List A) → is_some (first p l) ≡ any p l
  first_any [] = refl
  first_any (x ∷ l) = go (p x) (first_any l)
    where
      go : (b : Bool) → is_some (first p l) ≡ any p l → is_some (cond b (some x) (first p l)) ≡ (b || any p l)
      go true ih = refl
      go false ih = ih

  -- where all that are sought pass another test, the one that is found is found among those that pass it
  pub first_among : (q f : A → Bool) → ((x : A) → f x ≡ true → p x ≡ true → q x ≡ true) → (l : List A) → all f l ≡ true → first p (keep q l) ≡ first p l
  first_among q f g [] h = refl
  first_among q f g (x ∷ l) h =
      let ih : first p (keep q l) ≡ first p l = first_among q f g l (and_right (f x) (all f l) h) in
      cases (p x)
      (λ e. rw (g x (and_left (f x) (all f l) h) e, e))
      (λ e. by_test (λ (r : List A). first p r ≡ first p (x ∷ l)) (q x) (λ u. rw e ih) (λ u. rw e ih))

  pub keep_length : (l : List A) → length (keep p l) ≤ length l
  keep_length [] = omega arith
  keep_length (x ∷ l) =
      let ih : length (keep p l) ≤ length l = keep_length l in
      by_test (λ (r : List A). length r ≤ suc (length l)) (p x) (λ e. omega arith) (λ e. omega arith)

  pub after_last_length : (l : List A) → length (after_last p l) ≤ length l
  after_last_length [] = omega arith
  after_last_length (x ∷ l) =
      let ih : length (after_last p l) ≤ length l = after_last_length l in
      let P : List A → Type 0 = λ r. length r ≤ suc (length l) in
      by_test P (any p l) (λ e. omega arith) (λ e. by_test P (p x) (λ f. omega arith) (λ f. omega arith))

-- whether some of one list are so to some of another, asked from either
pub any_turned : {A B : Type 0} (r : A → B → Bool) (l : List A) (m : List B) → any (λ a. any (r a) m) l ≡ any (λ b. any (λ a. r a b) l) m
any_turned r [] m = sym (any_none (λ b. false) (λ b. refl) m)
any_turned r (a ∷ l) m = rw (any_turned r l m) (sym (any_or (r a) (λ b. any (λ x. r x b) l) m))

-- what is read of each element
module _ {A B : Type 0} (f : A → B) where
  pub all_read : (p : B → Bool) (l : List A) → all p (map f l) ≡ all (λ (x : A). p (f x)) l
  all_read p [] = refl
  all_read p (x ∷ l) = ap (λ (z : Bool). p (f x) && z) (all_read p l)

  pub pairs_read : (r : B → B → Bool) (l : List A) → each_pair r (map f l) ≡ each_pair (λ (x y : A). r (f x) (f y)) l
  pairs_read r [] = refl
  pairs_read r (x ∷ l) = ap₂ ◌&&◌ (all_read (r (f x)) l) (pairs_read r l)

-- ---- tables, whatever their order

module _ {A : Type 0} (below : A → A → Bool) where
  pub all_put : (p : A → Bool) (a : A) (l : List A) → p a ≡ true → all p l ≡ true → all p (put below a l) ≡ true
  all_put p a [] h k = both h refl
  all_put p a (x ∷ l) h k =
      let P : List A → Type 0 = λ r. all p r ≡ true in
      by_test P (below a x)
      (λ e. both h k)
      (λ e. by_test P (below x a) (λ f. both (all_head p x l k) (all_put p a l h (all_tail p x l k))) (λ f. both h (all_tail p x l k)))

  pub put_length : (a : A) (l : List A) → length (put below a l) ≤ suc (length l)
  put_length a [] = omega arith
  put_length a (x ∷ l) =
      let ih : length (put below a l) ≤ suc (length l) = put_length a l in
      let P : List A → Type 0 = λ r. length r ≤ suc (suc (length l)) in
      by_test P (below a x) (λ e. omega arith) (λ e. by_test P (below x a) (λ f. omega arith) (λ f. omega arith))

-- ---- each two of a list

module _ {A : Type 0} (r : A → A → Bool) where
  pub pairs_head : (x : A) (l : List A) → each_pair r (x ∷ l) ≡ true → all (r x) l ≡ true
  pairs_head x l = and_left (all (r x) l) (each_pair r l)

  pub pairs_tail : (x : A) (l : List A) → each_pair r (x ∷ l) ≡ true → each_pair r l ≡ true
  pairs_tail x l = and_right (all (r x) l) (each_pair r l)

  pub pairs_keep : (p : A → Bool) (l : List A) → each_pair r l ≡ true → each_pair r (keep p l) ≡ true
  pairs_keep p [] h = refl
  pairs_keep p (x ∷ l) h =
      let ih : each_pair r (keep p l) ≡ true = pairs_keep p l (pairs_tail x l h) in
      by_test (λ (k : List A). each_pair r k ≡ true) (p x) (λ e. both (all_keep (r x) p l (pairs_head x l h)) ih) (λ e. ih)

  -- an element is put in of which it holds with all others, either way round
  pub pairs_put : (below : A → A → Bool) (a : A) (l : List A) → all (r a) l ≡ true → all (λ (x : A). r x a) l ≡ true → each_pair r l ≡ true → each_pair r (put below a l) ≡ true
  pairs_put below a [] h k s = refl
  pairs_put below a (x ∷ l) h k s =
      let P : List A → Type 0 = λ k. each_pair r k ≡ true in
      let to : A → Bool = λ y. r y a in
      by_test P (below a x)
      (λ e. both h s)
      (λ e. by_test P (below x a)
      (λ f. both (all_put below (r x) a l (all_head to x l k) (pairs_head x l s)) (pairs_put below a l (all_tail (r a) x l h) (all_tail to x l k) (pairs_tail x l s)))
      (λ f. both (all_tail (r a) x l h) (pairs_tail x l s)))

-- ---- tables in the order of a key

abbrev pub by_key : {A K : Type 0} → (K → K → Bool) → (A → K) → A → A → Bool
by_key lt key a b = lt (key a) (key b)

module _ {A K : Type 0} {lt : K → K → Bool} (o : Ordered lt) (key : A → K) where
  -- what is below the first of a table is below all of it
  below_all : (a x : A) (l : List A) → lt (key a) (key x) ≡ true → ascending (by_key lt key) (x ∷ l) ≡ true → all (by_key lt key a) (x ∷ l) ≡ true
  below_all a x l e h = both e (all_then (by_key lt key x) (by_key lt key a) (λ y. o.transitive (key a) (key x) (key y) e) l (pairs_head (by_key lt key) x l h))

  -- so is what has the key of the first, but for the first itself
  like_below_all : (a x : A) (l : List A) → lt (key a) (key x) ≡ false → lt (key x) (key a) ≡ false → ascending (by_key lt key) (x ∷ l) ≡ true → all (by_key lt key a) l ≡ true
  like_below_all a x l e f h = subst (λ (k : K). all (λ (y : A). lt k (key y)) l ≡ true) (o.connected (key x) (key a) f e) (pairs_head (by_key lt key) x l h)

  -- the first is below all others if it is below the next
  pub ascending_two : (x y : A) (l : List A) → ascending (by_key lt key) (x ∷ y ∷ l) ≡ (lt (key x) (key y) && ascending (by_key lt key) (y ∷ l))
  ascending_two x y l =
      cases (lt (key x) (key y))
      (λ t. rw t (cases (ascending (by_key lt key) (y ∷ l))
      (λ a. let h : all (by_key lt key x) l ≡ true = all_tail (by_key lt key x) y l (below_all x y l t a) in rw h)
      (λ a. rw a (and-false (all (by_key lt key x) l)))))
      (λ f. rw f)

  pub ascending_put : (a : A) (l : List A) → ascending (by_key lt key) l ≡ true → ascending (by_key lt key) (put (by_key lt key) a l) ≡ true
  ascending_put a [] h = refl
  ascending_put a (x ∷ l) h =
      let P : List A → Type 0 = λ r. ascending (by_key lt key) r ≡ true in
      by_test P (lt (key a) (key x))
      (λ e. both (below_all a x l e h) h)
      (λ e. by_test P (lt (key x) (key a))
      (λ f. both (all_put (by_key lt key) (by_key lt key x) a l f (pairs_head (by_key lt key) x l h)) (ascending_put a l (pairs_tail (by_key lt key) x l h)))
      (λ f. both (like_below_all a x l e f h) (pairs_tail (by_key lt key) x l h)))

  -- a test of the key that holds for one of a table holds for one after any put
  pub any_put : (q : K → Bool) (a : A) (l : List A) → any (λ (x : A). q (key x)) l ≡ true → any (λ (x : A). q (key x)) (put (by_key lt key) a l) ≡ true
  any_put q a [] h = absurd (false≢true h)
  any_put q a (x ∷ l) h =
      let p : A → Bool = λ y. q (key y) in
      let P : List A → Type 0 = λ r. any p r ≡ true in
      by_test P (lt (key a) (key x))
      (λ e. or_right (p a) h)
      (λ e. by_test P (lt (key x) (key a))
      (λ f. by_either (p x) (any p l) (or_left (any p (put (by_key lt key) a l))) (λ k. or_right (p x) (any_put q a l k)) h)
      (λ f. by_either (p x) (any p l) (λ k. or_left (any p l) (rw (o.connected (key x) (key a) f e) at k)) (or_right (p a)) h))

  -- a test of the key that fails for what is put in finds what it found
  pub first_put : (q : K → Bool) (a : A) (l : List A) → q (key a) ≡ false → first (λ (x : A). q (key x)) (put (by_key lt key) a l) ≡ first (λ (x : A). q (key x)) l
  first_put q a [] h = rw h
  first_put q a (x ∷ l) h =
      let p : A → Bool = λ y. q (key y) in
      let P : List A → Type 0 = λ r. first p r ≡ first p (x ∷ l) in
      by_test P (lt (key a) (key x))
      (λ e. rw h)
      (λ e. by_test P (lt (key x) (key a))
      (λ f. ap (λ (o : Option A). cond (p x) (some x) o) (first_put q a l h))
      (λ f. let k : q (key x) ≡ false = rw (o.connected (key x) (key a) f e) h in rw (h, k)))

  module _ {same : K → K → Bool} (t : Tells same) where
    -- a key below all of a table is none of its keys
    absent : (k : K) (l : List A) → all (λ (x : A). lt k (key x)) l ≡ true → any (λ (x : A). same (key x) k) l ≡ true → ⊥
    absent k [] h = false≢true
    absent k (x ∷ l) h =
        let below : A → Bool = λ y. lt k (key y) in
        by_either (same (key x) k) (any (λ (y : A). same (key y) k) l)
        (λ e. false≢true (sym (o.irreflexive k) ∙ (rw (t.equal (key x) k e) at (all_head below x l h))))
        (absent k l (all_tail below x l h))

    -- where the key is held, a put replaces
    pub put_length_held : (a : A) (l : List A) → ascending (by_key lt key) l ≡ true → any (λ (x : A). same (key x) (key a)) l ≡ true → length (put (by_key lt key) a l) ≡ length l
    put_length_held a [] h e = absurd (false≢true e)
    put_length_held a (x ∷ l) h e =
        let P : List A → Type 0 = λ r. length r ≡ suc (length l) in
        by_test P (lt (key a) (key x))
        (λ f. absurd (absent (key a) (x ∷ l) (below_all a x l f h) e))
        (λ f. by_test P (lt (key x) (key a))
        (λ g. by_either (same (key x) (key a)) (any (λ (y : A). same (key y) (key a)) l)
        (λ i. absurd (false≢true (sym (o.irreflexive (key a)) ∙ (rw (t.equal (key x) (key a) i) at g))))
        (λ i. ap suc (put_length_held a l (pairs_tail (by_key lt key) x l h) i)) e)
        (λ g. refl))

    -- unequal keys are not the same
    differs : (j k : K) → (j ≡ k → ⊥) → same j k ≡ false
    differs j k n = cases (same j k) (λ e. absurd (n (t.equal j k e))) (λ e. e)

    -- a key that is below another is unequal to it
    below_unequal : (j k : K) → lt j k ≡ true → j ≡ k → ⊥
    below_unequal j k h e = false≢true (sym (o.irreflexive k) ∙ (rw e at h))

    -- above an element with a key none has it
    first_above : (x : A) (k : K) (l : List A) → same (key x) k ≡ true → all (by_key lt key x) l ≡ true → first (λ (y : A). same (key y) k) l ≡ none
    first_above x k [] e h = refl
    first_above x k (y ∷ l) e h =
        let d : same (key y) k ≡ false = differs (key y) k (λ q. below_unequal (key x) (key y) (all_head (by_key lt key x) y l h) (t.equal (key x) k e ∙ sym q)) in
        rw d (first_above x k l e (all_tail (by_key lt key x) y l h))

    -- where the one with a key passes a test, it is the one among those that pass
    pub first_keep : (p : A → Bool) (k : K) (x : A) (l : List A) → first (λ (y : A). same (key y) k) l ≡ some x → p x ≡ true → first (λ (y : A). same (key y) k) (keep p l) ≡ some x
    first_keep p k x [] e h = e
    first_keep p k x (y ∷ l) e h =
        cases (same (key y) k)
        (λ s. let q : some y ≡ some x = rw s at e in
        let i : y ≡ x = cc in
        let u : p y ≡ true = rw i h in
        rw (u, s) q)
        (λ s. let ih : first (λ (z : A). same (key z) k) (keep p l) ≡ some x = first_keep p k x l (rw s at e) h in
        by_test (λ (r : List A). first (λ (z : A). same (key z) k) r ≡ some x) (p y) (λ u. rw s ih) (λ u. ih))

    -- and one among those that pass is the one of the table
    pub first_kept : (p : A → Bool) (k : K) (x : A) (l : List A) → ascending (by_key lt key) l ≡ true → first (λ (y : A). same (key y) k) (keep p l) ≡ some x → first (λ (y : A). same (key y) k) l ≡ some x
    first_kept p k x [] a e = e
    first_kept p k x (y ∷ l) a e =
        cases (same (key y) k)
        (λ s. cases (p y)
        (λ u. rw s (rw (u, s) at e))
        (λ u. let n : first (λ (z : A). same (key z) k) (keep p l) ≡ none = first_above y k (keep p l) s (all_keep (by_key lt key y) p l (pairs_head (by_key lt key) y l a)) in
        let i : first (λ (z : A). same (key z) k) (keep p l) ≡ some x = rw u at e in
        cc))
        (λ s. rw s (first_kept p k x l (pairs_tail (by_key lt key) y l a)
        (cases (p y) (λ u. rw (u, s) at e) (λ u. rw u at e))))

    -- an element that a test leaves out, put in where the test leaves out the one with its key: what the test keeps stays
    pub keep_put : (p : A → Bool) (a : A) (l : List A) → p a ≡ false → some_with p (first (λ (x : A). same (key x) (key a)) l) ≡ false → keep p (put (by_key lt key) a l) ≡ keep p l
    keep_put p a [] n h = rw n
    keep_put p a (x ∷ l) n h =
        let P : List A → Type 0 = λ r. keep p r ≡ keep p (x ∷ l) in
        by_test P (lt (key a) (key x))
        (λ e. rw n)
        (λ e. by_test P (lt (key x) (key a))
        (λ f. ap (λ (r : List A). cond (p x) (x ∷ r) r) (keep_put p a l n (rw (differs (key x) (key a) (below_unequal (key x) (key a) f)) at h)))
        (λ f. let s : same (key x) (key a) ≡ true = rw (o.connected (key x) (key a) f e) (t.itself (key a)) in
        let q : p x ≡ false = rw s at h in
        rw (n, q)))

    -- without a key, where the test leaves out the one that has it: what the test keeps stays
    pub keep_without : (p : A → Bool) (k : K) (l : List A) → ascending (by_key lt key) l ≡ true → some_with p (first (λ (x : A). same (key x) k) l) ≡ false
        → keep p (keep (λ (x : A). not (same (key x) k)) l) ≡ keep p l
    keep_without p k [] a h = refl
    keep_without p k (x ∷ l) a h =
        let rest : some_with p (first (λ (y : A). same (key y) k) l) ≡ false → keep p (keep (λ (y : A). not (same (key y) k)) l) ≡ keep p l = keep_without p k l (pairs_tail (by_key lt key) x l a) in
        cases (same (key x) k)
        (λ e. let q : p x ≡ false = rw e at h in
        rw (e, q) (rest (rw (first_above x k l e (pairs_head (by_key lt key) x l a)))))
        (λ e. rw e (ap (λ (r : List A). cond (p x) (x ∷ r) r) (rest (rw e at h))))

-- ---- well-formed logs: a count and a test of each entry

abbrev pub log_formed : {A : Type 0} → ℕ → (A → Bool) → List A → Bool
log_formed room formed l = leb (length l) room && all formed l

module _ {A : Type 0} (room : ℕ) (formed : A → Bool) where
  pub log_fits_lem : (l : List A) → log_formed room formed l ≡ true → length l ≤ room
  log_fits_lem l h = leb-true (length l) room (and_left (leb (length l) room) (all formed l) h)

  pub log_all : (l : List A) → log_formed room formed l ≡ true → all formed l ≡ true
  log_all l = and_right (leb (length l) room) (all formed l)

  pub log_formed_lem : (l : List A) → length l ≤ room → all formed l ≡ true → log_formed room formed l ≡ true
  log_formed_lem l h k = both (le-leb (length l) room h) k

  pub log_keep : (p : A → Bool) (l : List A) → log_formed room formed l ≡ true → log_formed room formed (keep p l) ≡ true
  log_keep p l h = log_formed_lem (keep p l) (omega (arith, log_fits_lem l h, keep_length p l)) (all_keep formed p l (log_all l h))

  pub log_after_last : (p : A → Bool) (l : List A) → log_formed room formed l ≡ true → log_formed room formed (after_last p l) ≡ true
  log_after_last p l h = log_formed_lem (after_last p l) (omega (arith, log_fits_lem l h, after_last_length p l)) (all_after_last formed p l (log_all l h))

  -- a log that is not full takes one more entry
  pub log_append : (l : List A) (x : A) → length l < room → formed x ≡ true → log_formed room formed l ≡ true → log_formed room formed (l ++ (x ∷ [])) ≡ true
  log_append l x r f h = log_formed_lem (l ++ (x ∷ [])) (simp length-append (omega arith)) (all_append formed l (x ∷ []) (log_all l h) (both f refl))

-- ---- well-formed tables: the same, and an order

abbrev pub table_formed : {A : Type 0} → ℕ → (A → Bool) → (A → A → Bool) → List A → Bool
table_formed room formed below l = log_formed room formed l && ascending below l

module _ {A : Type 0} (room : ℕ) (formed : A → Bool) (below : A → A → Bool) where
  pub table_parts_lem : (l : List A) → table_formed room formed below l ≡ true → (length l ≤ room) × (all formed l ≡ true) × (ascending below l ≡ true)
  table_parts_lem l h =
      let k : log_formed room formed l ≡ true = and_left (log_formed room formed l) (ascending below l) h in
      (log_fits_lem room formed l k, log_all room formed l k, and_right (log_formed room formed l) (ascending below l) h)

  pub table_keep : (p : A → Bool) (l : List A) → table_formed room formed below l ≡ true → table_formed room formed below (keep p l) ≡ true
  table_keep p l h =
      both
      (log_keep room formed p l (and_left (log_formed room formed l) (ascending below l) h))
      (pairs_keep below p l (and_right (log_formed room formed l) (ascending below l) h))

module _ {A K : Type 0} {lt : K → K → Bool} (o : Ordered lt) (key : A → K) (room : ℕ) (formed : A → Bool) where
  put_formed : (a : A) (l : List A) → length (put (by_key lt key) a l) ≤ room → formed a ≡ true → table_formed room formed (by_key lt key) l ≡ true
      → table_formed room formed (by_key lt key) (put (by_key lt key) a l) ≡ true
  put_formed a l r f h =
      let below : A → A → Bool = by_key lt key in
      let k : (length l ≤ room) × (all formed l ≡ true) × (ascending below l ≡ true) = table_parts_lem room formed below l h in
      both (log_formed_lem room formed (put below a l) r (all_put below formed a l f k.1)) (ascending_put o key a l k.2)

  -- a well-formed element in a table with room for it
  pub table_put : (a : A) (l : List A) → length l < room → formed a ≡ true → table_formed room formed (by_key lt key) l ≡ true → table_formed room formed (by_key lt key) (put (by_key lt key) a l) ≡ true
  table_put a l r = put_formed a l (omega (arith, put_length (by_key lt key) a l))

  -- one whose key is held needs no room
  pub table_put_held : {same : K → K → Bool} → Tells same → (a : A) (l : List A) → any (λ (x : A). same (key x) (key a)) l ≡ true → formed a ≡ true → table_formed room formed (by_key lt key) l ≡ true
      → table_formed room formed (by_key lt key) (put (by_key lt key) a l) ≡ true
  table_put_held t a l e f h =
      let below : A → A → Bool = by_key lt key in
      let k : (length l ≤ room) × (all formed l ≡ true) × (ascending below l ≡ true) = table_parts_lem room formed below l h in
      put_formed a l (omega (arith, put_length_held o key t a l k.2 e)) f h
