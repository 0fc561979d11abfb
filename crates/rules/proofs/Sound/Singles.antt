-- The updates of single fields keep metadata sound: uuid, version, location.
use Prim.Native.Nat.{ℕ, suc, ◌≤◌}
use native.Mathlib.Omega.{arith}
use mathlib.Core.Path.{◌≡◌, refl}
use mathlib.Core.Bool.{true}
use mathlib.Core.List.{List, [], ◌∷◌}
use lib.Dec.{eqb}
use lib.IntN.{ℤ}
use lib.Signed.{non_neg}
use lib.ListN.{length}
use borrow.Author.Tests.{leb-true, le-leb}
use Rattle.records.specs.declared.counters.SequenceNumber.{SequenceNumber}
use Rattle.records.specs.declared.counters.RowId.{RowId}
use Rattle.rules.specs.Words.{all, same_bytes}
use Rattle.rules.specs.Capacities.{location_room}
use Rattle.rules.specs.Names.{is_slash, trimmed}
use Rattle.rules.specs.Register.{SingleFields, State, with_uuid, with_version, with_location, with_last_sequence, with_last_partition}
use Rattle.rules.specs.WellFormed.{version_formed, location_formed, fields_formed}
use Rattle.rules.specs.SingleUpdates.{assign_uuid, upgrade_format_version, set_location}
use Rattle.rules.proofs.Checks.{Hold, by_test, parts, whole}
use Rattle.rules.proofs.Sound.Metadata.{Sound, SoundState, with_fields_lem}

-- ---- well-formed single fields with one of them changed

module _ (f : SingleFields) (h : fields_formed f ≡ true) where
  fields_parts : Hold (version_formed f.version ∷ location_formed f.location ∷ non_neg f.last_sequence.0 ∷ non_neg f.last_partition ∷ [])
  unfolding fields_formed
  fields_parts = parts (version_formed f.version) (location_formed f.location ∷ non_neg f.last_sequence.0 ∷ non_neg f.last_partition ∷ []) h

  version_formed_lem : (v : ℕ) (next : RowId) → version_formed v ≡ true → fields_formed (with_version v next f) ≡ true
  unfolding fields_formed
  version_formed_lem v next k = whole (version_formed v) (location_formed f.location ∷ non_neg f.last_sequence.0 ∷ non_neg f.last_partition ∷ []) (k, fields_parts.1)

  location_formed_lem : (l : List ℕ) → location_formed l ≡ true → fields_formed (with_location l f) ≡ true
  unfolding fields_formed
  location_formed_lem l k = whole (version_formed f.version) (location_formed l ∷ non_neg f.last_sequence.0 ∷ non_neg f.last_partition ∷ []) (fields_parts.0, (k, fields_parts.1.1))

  pub sequence_formed : (n : SequenceNumber) (next : RowId) → non_neg n.0 ≡ true → fields_formed (with_last_sequence n next f) ≡ true
  unfolding fields_formed
  sequence_formed n next k = whole (version_formed f.version) (location_formed f.location ∷ non_neg n.0 ∷ non_neg f.last_partition ∷ []) (fields_parts.0, (fields_parts.1.0, (k, fields_parts.1.1.1)))

  pub partition_formed : (id : ℤ) → non_neg id ≡ true → fields_formed (with_last_partition id f) ≡ true
  unfolding fields_formed
  partition_formed id k = whole (version_formed f.version) (location_formed f.location ∷ non_neg f.last_sequence.0 ∷ non_neg id ∷ []) (fields_parts.0, (fields_parts.1.0, (fields_parts.1.1.0, (k, tt))))

  pub partition_non_neg : non_neg f.last_partition ≡ true
  partition_non_neg = fields_parts.1.1.1.0

-- ---- a trimmed location

pub trimmed_length : (l : List ℕ) → length (trimmed l) ≤ length l
unfolding trimmed
trimmed_length [] = omega arith
trimmed_length (b ∷ l) =
    let ih : length (trimmed l) ≤ length l = trimmed_length l in
    by_test (λ (r : List ℕ). length r ≤ suc (length l)) (all is_slash (b ∷ l)) (λ e. omega arith) (λ e. omega arith)

trimmed_formed : (l : List ℕ) → location_formed l ≡ true → location_formed (trimmed l) ≡ true
trimmed_formed l h = le-leb (length (trimmed l)) location_room (omega (arith, trimmed_length l, leb-true (length l) location_room h))

-- ---- the updates

module _ (st : State) (s : Sound st.metadata) where
  pub assign_uuid_sound : (uuid : List ℕ) → Sound (assign_uuid uuid st).metadata
  unfolding assign_uuid fields_formed
  assign_uuid_sound uuid = by_test SoundState (same_bytes uuid st.metadata.fields.uuid) (λ e. s) (λ e. with_fields_lem st.metadata s (with_uuid uuid st.metadata.fields) s.fields refl refl refl)

  pub upgrade_format_version_sound : (v : ℕ) → version_formed v ≡ true → Sound (upgrade_format_version v st).metadata
  unfolding upgrade_format_version
  upgrade_format_version_sound v h = by_test SoundState (eqb v st.metadata.fields.version) (λ e. s) (λ e. with_fields_lem st.metadata s _ (version_formed_lem st.metadata.fields s.fields v _ h) refl refl refl)

  pub set_location_sound : (l : List ℕ) → location_formed l ≡ true → Sound (set_location l st).metadata
  unfolding set_location
  set_location_sound l h =
      by_test SoundState (same_bytes (trimmed l) st.metadata.fields.location)
      (λ e. s)
      (λ e. with_fields_lem st.metadata s _ (location_formed_lem st.metadata.fields s.fields (trimmed l) (trimmed_formed l h)) refl refl refl)
