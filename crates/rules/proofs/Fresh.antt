-- Fresh field ids: the next number that is not taken is above the number it starts from and is not taken, so a spec with its fresh ids has an id for each field
-- and none twice; and what is asked of a field beside its id stays, since nothing but ids is changed.
use Prim.Native.Nat.{ℕ, zero, suc, ◌≤◌, ◌<◌}
use native.Mathlib.Omega.{arith}
use mathlib.Core.Path.{◌≡◌, refl, sym, ap, ◌∙◌, subst}
use mathlib.Core.Bool.{Bool, true, false, cond, not, ◌&&◌, ◌||◌, false≢true, true≢false}
use mathlib.Core.List.{List, [], ◌∷◌}
use mathlib.Core.Option.{Option, none, some}
use lib.IntN.{ℤ, pos, negsuc, suc_ℤ}
use lib.ListN.{length}
use lib.Signed.{lt_z, non_neg}
use borrow.Author.Tests.{ltb-true, ltb-false, eqb-false, lt-ltb, le-ltb, le-leb, not-true}
use borrow.Table.Steps.{cases}
use Rattle.rules.specs.Words.{eq_z, larger, all, keep, collect, is_in, unequal, highest, ascending}
use Rattle.rules.specs.Register.{PartitionField}
use Rattle.rules.specs.WellFormed.{at_least_one}
use Rattle.rules.specs.SpecUpdates.{with_field_id, free_from, next_free, numbered, fresh_ids}
use Rattle.rules.proofs.Checks.{by_test, by_option, both, and_left, and_right, or_left, or_right, by_either}
use Rattle.rules.proofs.Orders.{numbers_ordered, numbers_told}
use Rattle.rules.proofs.Tables.{all_head, all_tail, all_then, keep_length}
use Rattle.rules.proofs.Replay.Keys.{in_all}

-- ---- whole numbers

pub suc_above : (z : ℤ) → lt_z z (suc_ℤ z) ≡ true
suc_above (pos n) = lt-ltb n (suc n) (omega arith)
suc_above (negsuc zero) = refl
suc_above (negsuc (suc n)) = lt-ltb n (suc n) (omega arith)

-- below the one is below the next
pub below_suc : (x z : ℤ) → lt_z x z ≡ true → lt_z x (suc_ℤ z) ≡ true
below_suc x z h = numbers_ordered.transitive x z (suc_ℤ z) h (suc_above z)

-- nothing stands between a number and the next
pub none_between : (x z : ℤ) → lt_z x z ≡ false → eq_z x z ≡ false → lt_z x (suc_ℤ z) ≡ false
none_between (pos x) (pos z) h e = le-ltb x (suc z) (omega (arith, ltb-false x z h, eqb-false x z e))
none_between (pos x) (negsuc zero) h e = le-ltb x 0 (omega arith)
none_between (pos x) (negsuc (suc z)) h e = refl
none_between (negsuc x) (pos z) h e = absurd (true≢false h)
none_between (negsuc x) (negsuc zero) h e = absurd (eqb-false x 0 e (omega (arith, ltb-false 0 x h)))
none_between (negsuc x) (negsuc (suc z)) h e = le-ltb z x (omega (arith, ltb-false (suc z) x h, eqb-false x (suc z) e))

-- what is above a number of at least 0 is at least 1
pub above_one : (n z : ℤ) → non_neg n ≡ true → lt_z n z ≡ true → at_least_one z ≡ true
above_one (pos n) (pos z) h e = le-leb 1 z (omega (arith, ltb-true n z e))
above_one (pos n) (negsuc z) h e = absurd (false≢true e)
above_one (negsuc n) z h e = absurd (false≢true h)

pub one_non_neg : (z : ℤ) → at_least_one z ≡ true → non_neg z ≡ true
one_non_neg (pos n) h = refl
one_non_neg (negsuc n) h = absurd (false≢true h)

-- what is above the larger of two is above both
pub larger_non_neg : (a b : ℤ) → non_neg a ≡ true → non_neg (larger a b) ≡ true
larger_non_neg a b h = by_test (λ (z : ℤ). non_neg z ≡ true) (lt_z a b) (λ e. one_non_neg b (above_one a b h e)) (λ e. h)

pub above_larger : (a b z : ℤ) → lt_z (larger a b) z ≡ true → lt_z a z ≡ true
above_larger a b z = by_test (λ (m : ℤ). lt_z m z ≡ true → lt_z a z ≡ true) (lt_z a b) (λ e h. numbers_ordered.transitive a b z e h) (λ e h. h)

-- at most the one, which is below the other
pub at_most_below : (a b z : ℤ) → lt_z b a ≡ false → lt_z b z ≡ true → lt_z a z ≡ true
at_most_below a b z e h = cases (lt_z a b) (λ t. numbers_ordered.transitive a b z t h) (λ f. rw (numbers_ordered.connected a b f e) h)

pub above_larger_second : (a b z : ℤ) → lt_z (larger a b) z ≡ true → lt_z b z ≡ true
above_larger_second a b z = by_test (λ (m : ℤ). lt_z m z ≡ true → lt_z b z ≡ true) (lt_z a b) (λ e h. h) (λ e h. at_most_below b a z e h)

-- a number that is not above one of two is not above the larger
pub at_most_larger : (a b z : ℤ) → not (lt_z a z) ≡ true → not (lt_z (larger a b) z) ≡ true
at_most_larger a b z h = cases (lt_z (larger a b) z) (λ t. absurd (false≢true (sym (ap not (above_larger a b z t)) ∙ h))) (λ f. ap not f)

pub at_most_larger_second : (a b z : ℤ) → not (lt_z b z) ≡ true → not (lt_z (larger a b) z) ≡ true
at_most_larger_second a b z h = cases (lt_z (larger a b) z) (λ t. absurd (false≢true (sym (ap not (above_larger_second a b z t)) ∙ h))) (λ f. ap not f)

-- the highest of a list is at least each
pub highest_reaches : (l : List ℤ) → all (λ (z : ℤ). not (lt_z (highest l) z)) l ≡ true
highest_reaches [] = refl
highest_reaches (x ∷ l) =
    both (at_most_larger x (highest l) x (ap not (numbers_ordered.irreflexive x)))
    (all_then (λ (z : ℤ). not (lt_z (highest l) z)) (λ (z : ℤ). not (lt_z (larger x (highest l)) z)) (at_most_larger_second x (highest l)) l (highest_reaches l))

-- ---- lists

module _ {A B : Type 0} (f : A → Option B) where
  pub collect_some : (x : A) (y : B) (l : List A) → f x ≡ some y → collect f (x ∷ l) ≡ y ∷ collect f l
  collect_some x y l q = ap (λ (o : Option B). elim o [ none ↦ collect f l | some z ↦ z ∷ collect f l ]) q

  pub collect_none : (x : A) (l : List A) → f x ≡ none → collect f (x ∷ l) ≡ collect f l
  collect_none x l q = ap (λ (o : Option B). elim o [ none ↦ collect f l | some z ↦ z ∷ collect f l ]) q

-- what holds of each number that stands in a list holds of all
pub all_if_in : (p : ℤ → Bool) (l : List ℤ) → ((x : ℤ) → is_in l x ≡ true → p x ≡ true) → all p l ≡ true
all_if_in p [] h = refl
all_if_in p (x ∷ l) h = both (h x (or_left (is_in l x) (numbers_told.itself x))) (all_if_in p l (λ y m. h y (or_right (eq_z y x) m)))

-- ---- the next number that is not taken

-- those that are not below a number
abbrev ahead : List ℤ → ℤ → List ℤ
ahead l n = keep (λ (x : ℤ). not (lt_z x n)) l

module _ (taken : List ℤ) where
  free_above : (steps : ℕ) (n m : ℤ) → lt_z n m ≡ true → lt_z n (free_from steps taken m) ≡ true
  unfolding free_from
  free_above zero n m h = h
  free_above (suc steps) n m h = by_test (λ (z : ℤ). lt_z n z ≡ true) (is_in taken m) (λ e. free_above steps n (suc_ℤ m) (below_suc n m h)) (λ e. h)

  pub next_above : (n : ℤ) → lt_z n (next_free taken n) ≡ true
  unfolding next_free
  next_above n = free_above (length taken) n (suc_ℤ n) (suc_above n)

-- one step on, no more are ahead
ahead_shrinks : (n : ℤ) (l : List ℤ) → length (ahead l (suc_ℤ n)) ≤ length (ahead l n)
ahead_shrinks n [] = omega arith
ahead_shrinks n (x ∷ l) = go (lt_z x n) refl (lt_z x (suc_ℤ n)) refl (ahead_shrinks n l)
  where
    go : (s : Bool) → lt_z x n ≡ s → (t : Bool) → lt_z x (suc_ℤ n) ≡ t → length (ahead l (suc_ℤ n)) ≤ length (ahead l n)
        → length (cond (not t) (x ∷ ahead l (suc_ℤ n)) (ahead l (suc_ℤ n))) ≤ length (cond (not s) (x ∷ ahead l n) (ahead l n))
    go true p true q ih = ih
    go true p false q ih = absurd (true≢false (sym (below_suc x n p) ∙ q))
    go false p true q ih = omega arith
    go false p false q ih = omega arith

-- fewer, where the number is taken
ahead_fewer : (n : ℤ) (l : List ℤ) → is_in l n ≡ true → length (ahead l (suc_ℤ n)) < length (ahead l n)
ahead_fewer n [] h = absurd (false≢true h)
ahead_fewer n (x ∷ l) h = go (eq_z n x) refl (ahead_fewer n l) h
  where
    there : eq_z n x ≡ true → length (ahead (x ∷ l) (suc_ℤ n)) < length (ahead (x ∷ l) n)
    there q = rw (← (numbers_told.equal n x q), suc_above n, numbers_ordered.irreflexive n) (omega (arith, ahead_shrinks n l))

    later : (s : Bool) → lt_z x n ≡ s → (t : Bool) → lt_z x (suc_ℤ n) ≡ t → length (ahead l (suc_ℤ n)) < length (ahead l n)
        → length (cond (not t) (x ∷ ahead l (suc_ℤ n)) (ahead l (suc_ℤ n))) < length (cond (not s) (x ∷ ahead l n) (ahead l n))
    later true p true q ih = ih
    later true p false q ih = absurd (true≢false (sym (below_suc x n p) ∙ q))
    later false p true q ih = omega arith
    later false p false q ih = omega arith

    go : (t : Bool) → eq_z n x ≡ t → (is_in l n ≡ true → length (ahead l (suc_ℤ n)) < length (ahead l n)) → (t || is_in l n) ≡ true → length (ahead (x ∷ l) (suc_ℤ n)) < length (ahead (x ∷ l) n)
    go true q ih h = there q
    go false q ih h = later (lt_z x n) refl (lt_z x (suc_ℤ n)) refl (ih h)

module _ (taken : List ℤ) where
  -- none ahead: not taken
  none_ahead : (n : ℤ) (l : List ℤ) → length (ahead l n) ≤ 0 → is_in l n ≡ false
  none_ahead n l h = cases (is_in l n) (λ t. absurd (omega (arith, ahead_fewer n l t))) (λ f. f)

  -- with a step for each that is ahead a number is found that is not taken
  free_is_free : (steps : ℕ) (n : ℤ) → length (ahead taken n) ≤ steps → is_in taken (free_from steps taken n) ≡ false
  unfolding free_from
  free_is_free zero n h = none_ahead n taken h
  free_is_free (suc steps) n h =
      by_test (λ (z : ℤ). is_in taken z ≡ false) (is_in taken n)
      (λ e. free_is_free steps (suc_ℤ n) (omega (arith, ahead_fewer n taken e)))
      (λ e. e)

  pub next_free_lem : (n : ℤ) → is_in taken (next_free taken n) ≡ false
  unfolding next_free
  next_free_lem n = free_is_free (length taken) (suc_ℤ n) (keep_length (λ (x : ℤ). not (lt_z x (suc_ℤ n))) taken)

  free_is_first : (steps : ℕ) (n x : ℤ) → lt_z x n ≡ false → lt_z x (free_from steps taken n) ≡ true → is_in taken x ≡ true
  unfolding free_from
  free_is_first zero n x h = λ b. absurd (false≢true (sym h ∙ b))
  free_is_first (suc steps) n x h =
      by_test (λ (z : ℤ). lt_z x z ≡ true → is_in taken x ≡ true) (is_in taken n)
      (λ e b. cases (eq_z x n) (λ t. rw (numbers_told.equal x n t) e) (λ f. free_is_first steps (suc_ℤ n) x (none_between x n h f) b))
      (λ e b. absurd (false≢true (sym h ∙ b)))

  -- it is the next: every number before it is taken
  pub next_first : (n x : ℤ) → lt_z n x ≡ true → lt_z x (next_free taken n) ≡ true → is_in taken x ≡ true
  unfolding next_free
  next_first n x h b = free_is_first (length taken) (suc_ℤ n) x (none_between x n (not_back n x h) (not_same n x h)) b
    where
      not_back : (n x : ℤ) → lt_z n x ≡ true → lt_z x n ≡ false
      not_back n x h = cases (lt_z x n) (λ t. absurd (false≢true (sym (numbers_ordered.irreflexive n) ∙ numbers_ordered.transitive n x n h t))) (λ f. f)

      not_same : (n x : ℤ) → lt_z n x ≡ true → eq_z x n ≡ false
      not_same n x h = cases (eq_z x n) (λ t. absurd (false≢true (sym (numbers_ordered.irreflexive n) ∙ (rw (numbers_told.equal x n t) at h)))) (λ f. f)

-- ---- a spec with its fresh ids

-- the ids that fields have
abbrev pub ids_of : List PartitionField → List ℤ
ids_of fs = collect (λ (f : PartitionField). f.id) fs

module _ (taken : List ℤ) where
  -- an id of the result is one that was there, or one that is not taken and above the number
  abbrev is_old_or_fresh : ℤ → List ℤ → ℤ → Bool
  is_old_or_fresh n old id = is_in old id || (not (is_in taken id) && lt_z n id)

  pub old_or_fresh : (n : ℤ) (fs : List PartitionField) → all (is_old_or_fresh n (ids_of fs)) (ids_of (numbered taken n fs)) ≡ true
  unfolding numbered
  old_or_fresh n [] = refl
  old_or_fresh n (f ∷ fs) =
      by_option (λ (l : List PartitionField). all (is_old_or_fresh n (ids_of (f ∷ fs))) (ids_of l) ≡ true) f.id
      (λ q.
      let x : ℤ = next_free taken n in
      both (or_right (is_in (ids_of (f ∷ fs)) x) (rw (next_free_lem taken n, next_above taken n)))
      (all_then (is_old_or_fresh x (ids_of fs)) (is_old_or_fresh n (ids_of (f ∷ fs)))
      (λ id. by_either (is_in (ids_of fs) id) (not (is_in taken id) && lt_z x id)
      (λ e. let old : is_in (ids_of (f ∷ fs)) id ≡ true = rw (collect_none (λ (g : PartitionField). g.id) f fs q) e in or_left (not (is_in taken id) && lt_z n id) old)
      (λ e. or_right (is_in (ids_of (f ∷ fs)) id) (both (and_left (not (is_in taken id)) (lt_z x id) e) (numbers_ordered.transitive n x id (next_above taken n) (and_right (not (is_in taken id)) (lt_z x id) e)))))
      (ids_of (numbered taken x fs)) (old_or_fresh x fs)))
      (λ own q.
      let rest : List PartitionField = numbered taken (larger n own) fs in
      let here : ids_of (f ∷ fs) ≡ own ∷ ids_of fs = collect_some (λ (g : PartitionField). g.id) f own fs q in
      rw (collect_some (λ (g : PartitionField). g.id) f own rest q)
      (subst (λ (old : List ℤ). all (is_old_or_fresh n old) (own ∷ ids_of rest) ≡ true) (sym here)
      (both (or_left (not (is_in taken own) && lt_z n own) (or_left (is_in (ids_of fs) own) (numbers_told.itself own)))
      (all_then (is_old_or_fresh (larger n own) (ids_of fs)) (is_old_or_fresh n (own ∷ ids_of fs))
      (λ id. by_either (is_in (ids_of fs) id) (not (is_in taken id) && lt_z (larger n own) id)
      (λ e. or_left (not (is_in taken id) && lt_z n id) (or_right (eq_z id own) e))
      (λ e. or_right (is_in (own ∷ ids_of fs) id) (both (and_left (not (is_in taken id)) (lt_z (larger n own) id) e) (above_larger n own id (and_right (not (is_in taken id)) (lt_z (larger n own) id) e)))))
      (ids_of rest) (old_or_fresh (larger n own) fs)))))

  -- so no id stands twice, where none did and all that were there are taken
  pub fresh_unequal : (n : ℤ) (fs : List PartitionField) → all (is_in taken) (ids_of fs) ≡ true → unequal (ids_of fs) ≡ true → unequal (ids_of (numbered taken n fs)) ≡ true
  unfolding numbered
  fresh_unequal n [] t u = refl
  fresh_unequal n (f ∷ fs) t u =
      by_option (λ (l : List PartitionField). unequal (ids_of l) ≡ true) f.id
      (λ q.
      let x : ℤ = next_free taken n in
      let same : ids_of (f ∷ fs) ≡ ids_of fs = collect_none (λ (g : PartitionField). g.id) f fs q in
      let t' : all (is_in taken) (ids_of fs) ≡ true = rw same at t in
      both (none_twice x x fs (λ e. absurd (true≢false (sym (in_all (is_in taken) (ids_of fs) x t' e) ∙ next_free_lem taken n))) (λ e. absurd (false≢true (sym (numbers_ordered.irreflexive x) ∙ and_right (not (is_in taken x)) (lt_z x x) e))))
      (fresh_unequal x fs t' (rw same at u)))
      (λ own q.
      let m : ℤ = larger n own in
      let same : ids_of (f ∷ fs) ≡ own ∷ ids_of fs = collect_some (λ (g : PartitionField). g.id) f own fs q in
      let t' : all (is_in taken) (own ∷ ids_of fs) ≡ true = rw same at t in
      let u' : unequal (own ∷ ids_of fs) ≡ true = rw same at u in
      rw (collect_some (λ (g : PartitionField). g.id) f own (numbered taken m fs) q)
      (both (none_twice own m fs (λ e. absurd (true≢false (sym e ∙ not-true (is_in (ids_of fs) own) (and_left (not (is_in (ids_of fs) own)) (unequal (ids_of fs)) u')))) (λ e. absurd (true≢false (sym (all_head (is_in taken) own (ids_of fs) t') ∙ not-true (is_in taken own) (and_left (not (is_in taken own)) (lt_z m own) e)))))
      (fresh_unequal m fs (all_tail (is_in taken) own (ids_of fs) t') (and_right (not (is_in (ids_of fs) own)) (unequal (ids_of fs)) u'))))
    where
      -- an id that is neither one that was there nor a fresh one is not in the rest
      none_twice : (x m : ℤ) (fs : List PartitionField) → (is_in (ids_of fs) x ≡ true → false ≡ true) → ((not (is_in taken x) && lt_z m x) ≡ true → false ≡ true) → not (is_in (ids_of (numbered taken m fs)) x) ≡ true
      none_twice x m fs a b =
          cases (is_in (ids_of (numbered taken m fs)) x)
          (λ e. absurd (false≢true (by_either (is_in (ids_of fs) x) (not (is_in taken x) && lt_z m x) a b (in_all (is_old_or_fresh m (ids_of fs)) (ids_of (numbered taken m fs)) x (old_or_fresh m fs) e))))
          (λ e. rw e)

-- ---- the fresh ids themselves

module _ (taken : List ℤ) where
  -- each is above the number
  pub fresh_above : (n : ℤ) (fs : List PartitionField) → all (lt_z n) (fresh_ids taken n fs) ≡ true
  unfolding fresh_ids
  fresh_above n [] = refl
  fresh_above n (f ∷ fs) =
      by_option (λ (l : List ℤ). all (lt_z n) l ≡ true) f.id
      (λ q. let x : ℤ = next_free taken n in both (next_above taken n) (all_then (lt_z x) (lt_z n) (λ z. numbers_ordered.transitive n x z (next_above taken n)) (fresh_ids taken x fs) (fresh_above x fs)))
      (λ own q. all_then (lt_z (larger n own)) (lt_z n) (above_larger n own) (fresh_ids taken (larger n own) fs) (fresh_above (larger n own) fs))

  -- and above those before it
  pub fresh_ascend : (n : ℤ) (fs : List PartitionField) → ascending lt_z (fresh_ids taken n fs) ≡ true
  unfolding fresh_ids
  fresh_ascend n [] = refl
  fresh_ascend n (f ∷ fs) =
      by_option (λ (l : List ℤ). ascending lt_z l ≡ true) f.id
      (λ q. both (fresh_above (next_free taken n) fs) (fresh_ascend (next_free taken n) fs))
      (λ own q. fresh_ascend (larger n own) fs)

  -- each is the id of a field of the result
  pub fresh_given : (n : ℤ) (fs : List PartitionField) → all (is_in (ids_of (numbered taken n fs))) (fresh_ids taken n fs) ≡ true
  unfolding fresh_ids numbered
  fresh_given n [] = refl
  fresh_given n (f ∷ fs) = go f.id refl (λ m. fresh_given m fs)
    where
      -- an id more
      more : (x : ℤ) (l fresh : List ℤ) → all (is_in l) fresh ≡ true → all (is_in (x ∷ l)) fresh ≡ true
      more x l fresh h = all_then (is_in l) (is_in (x ∷ l)) (λ z. or_right (eq_z z x)) fresh h

      go : (o : Option ℤ) → f.id ≡ o → ((m : ℤ) → all (is_in (ids_of (numbered taken m fs))) (fresh_ids taken m fs) ≡ true)
          → all (is_in (ids_of (elim o [ none ↦ with_field_id (some (next_free taken n)) f ∷ numbered taken (next_free taken n) fs | some id ↦ f ∷ numbered taken (larger n id) fs ]))) (elim o [ none ↦ next_free taken n ∷ fresh_ids taken (next_free taken n) fs | some id ↦ fresh_ids taken (larger n id) fs ]) ≡ true
      go none q ih =
          let x : ℤ = next_free taken n in
          both (or_left (is_in (ids_of (numbered taken x fs)) x) (numbers_told.itself x)) (more x (ids_of (numbered taken x fs)) (fresh_ids taken x fs) (ih x))
      go (some own) q ih =
          let rest : List PartitionField = numbered taken (larger n own) fs in
          subst (λ (l : List ℤ). all (is_in l) (fresh_ids taken (larger n own) fs) ≡ true) (sym (collect_some (λ (g : PartitionField). g.id) f own rest q))
          (more own (ids_of rest) (fresh_ids taken (larger n own) fs) (ih (larger n own)))
