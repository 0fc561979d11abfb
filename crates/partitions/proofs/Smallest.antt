-- The smallest of numbers, joined from parts: of the ids of fields that match, of one spec and of all.
use mathlib.Core.Path.{◌≡◌, refl, sym, ap, ◌∙◌}
use mathlib.Core.Bool.{false, cond, true≢false}
use mathlib.Core.List.{List, [], ◌∷◌, ◌++◌, map}
use mathlib.Core.Option.{Option, none, some}
use borrow.Table.Steps.{cases}
use Prim.Native.Nat.{ℕ, ◌+◌, ◌<◌}
use native.Mathlib.Numerals.{add-one}
use lib.IntN.{ℤ}
use lib.ListN.{length, get_or, drop}
use lib.Seq.{drop-cons}
use lib.Signed.{lt_z}
use Rattle.records.specs.declared.partition.PartitionField.{PartitionField}
use Rattle.records.specs.declared.partition.PartitionSpec.{PartitionSpec}
use Rattle.rules.specs.Layout.{read_partition_field, read_partition_spec}
use Rattle.rules.specs.Words.{lesser, smallest}
use Rattle.rules.specs.Register as plain
use Rattle.rules.specs.SpecUpdates.{is_like, like_ids, fields_of_all}
use Rattle.rules.proofs.Orders.{numbers_ordered}

-- ---- the smaller of two

abbrev least : ℤ → ℤ → ℤ
least a b = cond (lt_z b a) b a

-- one that is not below another is not below what that is not below
not_below : (a b c : ℤ) → lt_z b a ≡ false → lt_z c b ≡ false → lt_z c a ≡ false
not_below a b c p q =
    cases (lt_z c a)
    (λ y. absurd (cases (lt_z b c)
    (λ t. true≢false (sym (numbers_ordered.transitive b c a t y) ∙ p))
    (λ f. true≢false (sym y ∙ ap (λ (z : ℤ). lt_z z a) (sym (numbers_ordered.connected b c f q)) ∙ p))))
    (λ n. n)

least_bracketed : (a b c : ℤ) → least (least a b) c ≡ least a (least b c)
least_bracketed a b c =
    cases (lt_z b a)
    (λ p. cases (lt_z c b)
    (λ q. rw (p, q, numbers_ordered.transitive c b a q p))
    (λ q. rw (p, q, p)))
    (λ p. cases (lt_z c b)
    (λ q. rw (p, q))
    (λ q. rw (p, q, p, not_below a b c p q)))

lesser_bracketed : (a b c : Option ℤ) → lesser (lesser a b) c ≡ lesser a (lesser b c)
lesser_bracketed none b c = refl
lesser_bracketed (some a) none c = refl
lesser_bracketed (some a) (some b) none = refl
lesser_bracketed (some a) (some b) (some c) = ap some (least_bracketed a b c)

pub lesser_alone : (a : Option ℤ) → lesser a none ≡ a
lesser_alone none = refl
lesser_alone (some a) = refl

-- ---- the smallest of a list

smallest_given : (o : Option ℤ) (l : List ℤ) → smallest (elim o [ none ↦ l | some y ↦ y ∷ l ]) ≡ lesser o (smallest l)
smallest_given none l = refl
smallest_given (some y) l = refl

-- ---- of the fields that match

module _ (f : plain.PartitionField) where
  abbrev pub of_fields : List plain.PartitionField → Option ℤ
  of_fields l = smallest (like_ids l f)

  abbrev pub of_specs : List plain.PartitionSpec → Option ℤ
  of_specs l = of_fields (fields_of_all l)

  pub one_field : (h : plain.PartitionField) (l : List plain.PartitionField) → of_fields (h ∷ l) ≡ lesser (cond (is_like f h) h.id none) (of_fields l)
  one_field h l = cases (is_like f h) (λ y. rw y (smallest_given h.id (like_ids l f))) (λ n. rw n)

  like_append : (l r : List plain.PartitionField) → of_fields (l ++ r) ≡ lesser (of_fields l) (of_fields r)
  like_append [] r = refl
  like_append (h ∷ l) r =
      one_field h (l ++ r)
      ∙ ap (lesser (cond (is_like f h) h.id none)) (like_append l r)
      ∙ sym (ap (λ (o : Option ℤ). lesser o (of_fields r)) (one_field h l) ∙ lesser_bracketed (cond (is_like f h) h.id none) (of_fields l) (of_fields r))

  pub one_spec : (s : plain.PartitionSpec) (l : List plain.PartitionSpec) → of_specs (s ∷ l) ≡ lesser (of_fields s.fields) (of_specs l)
  one_spec s l = like_append s.fields (fields_of_all l)

-- ---- the loops: one more, joined to what was found before

module _ (f : plain.PartitionField) (best : Option ℤ) {z r : Option ℤ} (i : ℕ) where
  pub fields_on : (fields : List PartitionField) (d : PartitionField) → i < length fields → z ≡ cond (is_like f (read_partition_field (get_or fields i d))) (read_partition_field (get_or fields i d)).id none → r ≡ lesser best z
      → lesser best (smallest (like_ids (map read_partition_field (drop i fields)) f)) ≡ lesser r (smallest (like_ids (map read_partition_field (drop (i + 1) fields)) f))
  fields_on fields d b k e =
      let h : plain.PartitionField = read_partition_field (get_or fields i d) in
      let l : List plain.PartitionField = map read_partition_field (drop (i + 1) fields) in
      let m : map read_partition_field (drop i fields) ≡ h ∷ l = rw (add-one, drop-cons fields i d b) in
      ap (λ (k : List plain.PartitionField). lesser best (of_fields f k)) m ∙ ap (lesser best) (one_field f h l) ∙ sym (lesser_bracketed best (cond (is_like f h) h.id none) (of_fields f l)) ∙ ap (λ (o : Option ℤ). lesser o (of_fields f l)) (sym (e ∙ ap (lesser best) k))

  pub specs_on : (specs : List PartitionSpec) (d : PartitionSpec) → i < length specs → z ≡ smallest (like_ids (read_partition_spec (get_or specs i d)).fields f) → r ≡ lesser best z
      → lesser best (smallest (like_ids (fields_of_all (map read_partition_spec (drop i specs))) f)) ≡ lesser r (smallest (like_ids (fields_of_all (map read_partition_spec (drop (i + 1) specs))) f))
  specs_on specs d b k e =
      let s : plain.PartitionSpec = read_partition_spec (get_or specs i d) in
      let l : List plain.PartitionSpec = map read_partition_spec (drop (i + 1) specs) in
      let m : map read_partition_spec (drop i specs) ≡ s ∷ l = rw (add-one, drop-cons specs i d b) in
      ap (λ (k : List plain.PartitionSpec). lesser best (of_specs f k)) m ∙ ap (lesser best) (one_spec f s l) ∙ sym (lesser_bracketed best (of_fields f s.fields) (of_specs f l)) ∙ ap (λ (o : Option ℤ). lesser o (of_specs f l)) (sym (e ∙ ap (lesser best) k))
