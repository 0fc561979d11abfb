-- The id that a field reuses, found spec by spec and field by field: of two parts of the old fields it is the smaller of what is found in each.
use mathlib.Core.Path.{◌≡◌, refl, sym, ap, ◌∙◌}
use mathlib.Core.Bool.{Bool, true, false, cond, false≢true}
use mathlib.Core.List.{List, [], ◌∷◌, ◌++◌, append_assoc}
use mathlib.Core.Option.{Option, none, some}
use lib.IntN.{ℤ}
use lib.Signed.{lt_z}
use Rattle.rules.specs.Words.{keep, collect, lesser, smallest}
use Rattle.rules.specs.Register.{PartitionField, PartitionSpec}
use Rattle.rules.specs.SpecUpdates.{fields_of_all, is_like, like_ids}
use Rattle.rules.proofs.Orders.{numbers_ordered}
use Rattle.rules.proofs.Fresh.{at_most_below}
use Rattle.rules.proofs.Replay.Lists.{keep_append, collect_append}

-- ---- the smaller of two

pub lesser_none : (o : Option ℤ) → lesser o none ≡ o
lesser_none none = refl
lesser_none (some a) = refl

-- of three it does not matter which two come first
pub lesser_assoc : (a b c : Option ℤ) → lesser (lesser a b) c ≡ lesser a (lesser b c)
lesser_assoc none b c = refl
lesser_assoc (some a) none c = refl
lesser_assoc (some a) (some b) none = refl
lesser_assoc (some a) (some b) (some c) = go (lt_z b a) refl (lt_z c b) refl (lt_z c a) refl
  where
    -- which is the smallest, by the three tests
    go : (s : Bool) → lt_z b a ≡ s → (t : Bool) → lt_z c b ≡ t → (u : Bool) → lt_z c a ≡ u → lesser (some (cond s b a)) (some c) ≡ lesser (some a) (some (cond t c b))
    go true p true q true r = rw (q, r)
    go true p true q false r = absurd (false≢true (sym r ∙ numbers_ordered.transitive c b a q p))
    go true p false q u r = rw (q, p)
    go false p true q u r = rw r
    go false p false q true r = absurd (false≢true (sym p ∙ at_most_below b c a q r))
    go false p false q false r = rw (r, p)

pub smallest_append : (xs ys : List ℤ) → smallest (xs ++ ys) ≡ lesser (smallest xs) (smallest ys)
smallest_append [] ys = refl
smallest_append (x ∷ xs) ys = ap (lesser (some x)) (smallest_append xs ys) ∙ sym (lesser_assoc (some x) (smallest xs) (smallest ys))

-- ---- the ids of old fields

pub fields_append : (xs ys : List PartitionSpec) → fields_of_all (xs ++ ys) ≡ fields_of_all xs ++ fields_of_all ys
fields_append [] ys = refl
fields_append (s ∷ xs) ys = ap (λ (l : List PartitionField). s.fields ++ l) (fields_append xs ys) ∙ sym (append_assoc s.fields (fields_of_all xs) (fields_of_all ys))

module _ (f : PartitionField) where
  -- the smallest id of those among old fields that match
  abbrev pub found : List PartitionField → Option ℤ
  found old = smallest (like_ids old f)

  pub like_append : (xs ys : List PartitionField) → like_ids (xs ++ ys) f ≡ like_ids xs f ++ like_ids ys f
  like_append xs ys =
      let id : PartitionField → Option ℤ = λ h. h.id in
      ap (collect id) (keep_append (is_like f) xs ys) ∙ collect_append id (keep (is_like f) xs) (keep (is_like f) ys)

  pub found_append : (xs ys : List PartitionField) → found (xs ++ ys) ≡ lesser (found xs) (found ys)
  found_append xs ys = ap smallest (like_append xs ys) ∙ smallest_append (like_ids xs f) (like_ids ys f)

  -- of one field it is its id, where it matches
  pub found_one : (h : PartitionField) → found (h ∷ []) ≡ cond (is_like f h) h.id none
  found_one h = go (is_like f h)
    where
      alone : (o : Option ℤ) → smallest (elim o [ none ↦ [] | some id ↦ id ∷ [] ]) ≡ o
      alone none = refl
      alone (some id) = refl

      go : (t : Bool) → smallest (collect (λ (g : PartitionField). g.id) (cond t (h ∷ []) [])) ≡ cond t h.id none
      go true = alone h.id
      go false = refl
