-- What of a record is not used: all slots from a place on, or the whole record, which is then the blank.
use Prim.Native.Nat.{ℕ}
use mathlib.Core.Path.{◌≡◌, refl, ap, ◌∙◌}
use mathlib.Core.Bool.{Bool, true, false, cond, not, beq, ◌&&◌, ◌||◌, and_assoc, and-true}
use mathlib.Core.List.{List}
use lib.ListN.{length, drop}
use Rattle.records.specs.declared.snapshot.Snapshot.{Snapshot}
use Rattle.records.specs.declared.snapshot.SnapshotLogEntry.{SnapshotLogEntry}
use Rattle.records.specs.declared.reference.SnapshotReference.{SnapshotReference}
use Rattle.records.specs.declared.sort_order.SortField.{SortField}
use Rattle.records.specs.Blanks.{no_snapshot, no_log_entry, no_reference, no_sort_field}
use Rattle.rules.specs.Words.{all}
use Rattle.rules.specs.Blanks.{rest_blank, tidy_slots, is_blank_snapshot, is_blank_log_entry, is_blank_reference, is_blank_sort_field}
use Rattle.formed.proofs.Scans.{with_slots}
use Rattle.equality.specs.Same.{same_snapshot, same_log_entry, same_reference, same_sort_field}

-- ---- slots from a place on

-- where they are used, the slots past the count are asked; where not, all of them are, and the rest of the record
pub from_place : (used rest : Bool) (n : ℕ) (F : ℕ → Bool) {from : ℕ} {z : Bool} → from ≡ cond used n 0 → z ≡ F from → ((used || rest) && z) ≡ cond used (F n) (rest && F 0)
from_place used rest n F {from} e h = rw (h, e) (go used)
  where
    go : (u : Bool) → ((u || rest) && F (cond u n 0)) ≡ cond u (F n) (rest && F 0)
    go true = refl
    go false = refl

-- the same with two tests of the rest
pub from_place_two : (used p q : Bool) (n : ℕ) (F : ℕ → Bool) {from : ℕ} {z : Bool} → from ≡ cond used n 0 → z ≡ F from → ((used || (p && q)) && z) ≡ cond used (F n) (p && (q && F 0))
from_place_two used p q n F e h = from_place used (p && q) n F e h ∙ rw (and_assoc p q (F 0))

module _ {A : Type 0} (used p q : Bool) (room n : ℕ) (items : List A) {from : ℕ} {z : Bool} (e : from ≡ cond used n 0) where
  -- the counted slots are asked too
  module _ (tidy blank : A → Bool) (h : z ≡ tidy_slots room tidy blank items from) where
    pub slots_place : ((used || (p && q)) && z) ≡ cond used (tidy_slots room tidy blank items n) (p && (q && rest_blank room blank items 0))
    slots_place = from_place_two used p q n (λ (k : ℕ). tidy_slots room tidy blank items k) e h ∙ rw (and-true (rest_blank room blank items 0))

  -- a test that says the same as the rule's is asked of every slot from a place on
  module _ {test blank : A → Bool} (alike : (x : A) → test x ≡ blank x) (r : length items ≡ room) (h : z ≡ all test (drop from items)) where
    rest : z ≡ rest_blank room blank items from
    rest = with_slots blank items from room r (h ∙ ap (λ (t : A → Bool). all t (drop from items)) (λ i x. alike x i))

    pub blanks_place : ((used || q) && z) ≡ cond used (rest_blank room blank items n) (q && rest_blank room blank items 0)
    blanks_place = from_place used q n (λ (k : ℕ). rest_blank room blank items k) e rest

    pub blanks_place_two : ((used || (p && q)) && z) ≡ cond used (rest_blank room blank items n) (p && (q && rest_blank room blank items 0))
    blanks_place_two = from_place_two used p q n (λ (k : ℕ). rest_blank room blank items k) e rest

-- a part that is asked either way, and the rest of the record where it is not used
pub one_arm : (used rest tidy blank : Bool) {z : Bool} → z ≡ cond used tidy blank → ((used || rest) && z) ≡ cond used tidy (rest && blank)
one_arm true rest tidy blank e = e
one_arm false rest tidy blank e = rw e

-- ---- a record is blank if it is the same as the blank

flag_off : (b : Bool) → beq b false ≡ not b
flag_off true = refl
flag_off false = refl

pub same_as_no_snapshot : (s : Snapshot) → same_snapshot s no_snapshot ≡ is_blank_snapshot s
unfolding same_snapshot is_blank_snapshot
same_as_no_snapshot s = rw (flag_off s.has_parent, flag_off s.has_rows)

pub same_as_no_entry : (e : SnapshotLogEntry) → same_log_entry e no_log_entry ≡ is_blank_log_entry e
unfolding same_log_entry is_blank_log_entry
same_as_no_entry e = refl

pub same_as_no_reference : (r : SnapshotReference) → same_reference r no_reference ≡ is_blank_reference r
unfolding same_reference is_blank_reference
same_as_no_reference r = rw (flag_off r.has_min, flag_off r.has_age, flag_off r.has_ref_age)

pub same_as_no_field : (f : SortField) → same_sort_field f no_sort_field ≡ is_blank_sort_field f
unfolding same_sort_field is_blank_sort_field
same_as_no_field f = refl
