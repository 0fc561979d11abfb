-- What is answered of an offer of a partition spec: the blank where a test of it failed, and the spec where none did. The code counts the fields by the record,
-- and the rule by the ids that are read of it.
use Prim.Native.Nat.{ℕ, ◌+◌, ◌*◌, ◌≤◌}
use native.Mathlib.Omega.{arith}
use mathlib.Core.Path.{◌≡◌, refl, sym, ap, ◌∙◌}
use mathlib.Core.Bool.{Bool, true, false, not, ◌&&◌, false≢true}
use mathlib.Core.List.{List, [], ◌∷◌}
use borrow.Author.Tests.{leb-true, not-false}
use lib.Dec.{leb}
use lib.ListN.{length, drop}
use lib.Signed.{non_neg}
use Rattle.records.specs.Blanks.{no_partition_spec}
use Rattle.records.specs.declared.partition.PartitionSpec.{PartitionSpec}
use Rattle.records.specs.declared.partition.SpecOffer.{SpecOffer}
use Rattle.rules.specs.Words.{all}
use Rattle.rules.specs.Capacities.{partition_field_room, partition_bytes}
use Rattle.rules.specs.Register as plain
use Rattle.rules.specs.WellFormed.{partition_field_formed, offered_spec_formed}
use Rattle.rules.specs.Offers.{is_tidy_partition, partitions_of, offered_spec, is_tidy_spec, spec_offer_formed}
use Rattle.rules.specs.Layout.{read_partition_spec, laid_partition_spec, read_spec_offer}
use Rattle.rules.proofs.Checks.{and_left, and_right, parts}
use Rattle.rules.proofs.Slots.Reread.{reread_partition_spec}
use Rattle.tables.specs.Laid.{LaidSpec}
use Rattle.offers.specs.declared.OfferedSpec.{OfferedSpec}
use Rattle.offers.specs.Offered.{SpecOffered}
use Rattle.offers.proofs.Partitions.{ids_counted, partitions_counted}
use Rattle.offers.proofs.Tests.{fails_there, fails_tidy, fails_formed, passes}

blank_laid : LaidSpec no_partition_spec
unfolding no_partition_spec laid_partition_spec
blank_laid = record { back = refl; fits = omega arith }

module _ (bs : List ℕ) (o : SpecOffer) where
  abbrev few : Bool
  few = leb o.count partition_field_room

  abbrev within : Bool
  within = leb (o.at + o.count * partition_bytes) (length bs)

  abbrev tidy : Bool
  tidy = all is_tidy_partition (partitions_of o.count (drop o.at bs))

  abbrev said : plain.PartitionSpec
  said = offered_spec bs (read_spec_offer o)

  abbrev formed : Bool
  formed = offered_spec_formed said

  bounded : formed ≡ true → few ≡ true
  bounded e = rw (partitions_counted bs o) at (parts (non_neg said.id) (leb (length said.fields) partition_field_room ∷ all partition_field_formed said.fields ∷ []) e).1.0

  by_count : spec_offer_formed bs (read_spec_offer o) ≡ (within && tidy && formed)
  unfolding spec_offer_formed is_tidy_spec
  by_count = ap (λ (n : ℕ). leb (o.at + n * partition_bytes) (length bs) && all is_tidy_partition (partitions_of n (drop o.at bs)) && formed) (ids_counted bs o)

  -- ---- the code's tests

  pub passed_there : {z : Bool} → z ≡ (few && within) → not z ≡ false → (o.count ≤ partition_field_room) × (o.at + o.count * partition_bytes ≤ length bs)
  passed_there {z} e h =
      let t : (few && within) ≡ true = sym e ∙ not-false z h in
      (leb-true _ _ (and_left few within t), leb-true _ _ (and_right few within t))

  module _ {r : OfferedSpec} (n : (r.formed ≡ false) × (r.spec ≡ no_partition_spec)) where
    refused : (within && tidy && formed) ≡ false → SpecOffered bs (read_spec_offer o) r
    refused e = record { formed = n.0 ∙ sym (by_count ∙ e); says = λ t. absurd (false≢true (sym n.0 ∙ t)); blank = λ _. n.1; laid = rw n.1 blank_laid }

    pub not_there : {z : Bool} → z ≡ (few && within) → not z ≡ true → SpecOffered bs (read_spec_offer o) r
    not_there e h = refused (fails_there few within tidy formed bounded e h)

    pub not_tidy : {z : Bool} → z ≡ tidy → not z ≡ true → SpecOffered bs (read_spec_offer o) r
    not_tidy e h = refused (fails_tidy few within tidy formed bounded e h)

  module _ {s : PartitionSpec} (l : s ≡ laid_partition_spec said) {z : Bool} (e : z ≡ offered_spec_formed (read_partition_spec s)) where
    reread : read_partition_spec s ≡ said
    reread = ap read_partition_spec l ∙ reread_partition_spec said

    asked : z ≡ formed
    asked = e ∙ ap offered_spec_formed reread

    pub ill_formed : {r : OfferedSpec} → (r.formed ≡ false) × (r.spec ≡ no_partition_spec) → not z ≡ true → SpecOffered bs (read_spec_offer o) r
    ill_formed n h = refused n (fails_formed few within tidy formed bounded asked h)

    pub offered : {t d : Bool} → t ≡ (few && within) → not t ≡ false → d ≡ tidy → not d ≡ false → not z ≡ false → SpecOffered bs (read_spec_offer o) (record { formed = true; spec = s })
    offered u v x y w =
        record {
          formed = sym (by_count ∙ passes few within tidy formed bounded u v x y asked w);
          says = λ q. l;
          blank = λ q. absurd (false≢true (sym q));
          laid = record { back = ap laid_partition_spec reread ∙ sym l; fits = omega (arith, ap (λ (p : plain.PartitionSpec). length p.fields) reread, partitions_counted bs o, passed_there u v) };
        }
