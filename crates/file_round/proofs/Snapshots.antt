-- Snapshots and refs as they are written in a file, and read back.
use Prim.Native.Nat.{ℕ}
use mathlib.Core.Path.{◌≡◌, refl, ◌∙◌, sym, ap}
use mathlib.Core.Bool.{Bool, true, false, cond, not, ◌&&◌, ◌||◌, false≢true}
use mathlib.Core.List.{List, [], ◌∷◌}
use mathlib.Core.Option.{Option, none, some}
use lib.Dec.{leb}
use lib.IntN.{ℤ, pos}
use Rattle.rules.specs.Words.{is_some, if_some, or_else, all, eq_z}
use Rattle.rules.specs.Register.{RowRange, Snapshot}
use Rattle.rules.proofs.Checks.{parts, and_left, and_right}
use Rattle.rules.proofs.Orders.{eq_z_equal}
use Rattle.json_rule.specs.Letters.{bytes}
use Rattle.json_rule.specs.Members.{number_by, number_or0}
use Rattle.json_rule.specs.Records.{range_of, snapshot_of}
use Rattle.file_rule.specs.Tables.{OfKind, HeldSnapshot, unsigned64, rows_in, row_in}
use Rattle.file_rule.specs.Written.{quoted, escaped_byte, number_text, also, also_if}
use Rattle.file_rule.specs.Files.{since, rows_text, snapshot_text}
use Rattle.file_rule.specs.Export.{is_utf8}
use Rattle.file_rule.specs.Fits.{fits64, fits_unsigned, range_fits, snapshot_fits}
use Rattle.file_round.proofs.Documents.{Document, bytes_of, past, tree_at, members_at}
use Rattle.file_round.proofs.Numbers.{number_token}
use Rattle.file_round.proofs.Fields.{entries_of, group_text, flat, Field, field, field_if, mapped, number, object, names_fine, ValuesFine, ValuesGood, FineIn, OptionGood, fields_good, mapped_good, mapped_fine, object_fine, object_pieces, number_by_lem, number_or0_lem, absent_number, Only}
use Rattle.file_round.proofs.Scalars.{Version, one, two, three, good64, optional_fine, optional_good, optional_fits, sym_some, fitting64, fitting_unsigned, fine64, fine_unsigned, if_there}
use Rattle.file_round.proofs.Lists.{Shown}

-- ---- versions

-- from a version on
abbrev pub fields_since : ℕ → ℕ → List Field → List Field
fields_since least version fs = cond (leb least version) fs []

pub since_text : (least version : ℕ) (bs : List ℕ) (fs : List Field) → bs ≡ group_text fs → since least version bs ≡ group_text (fields_since least version fs)
since_text least version bs fs h = go (leb least version)
  where
    go : (b : Bool) → cond b bs [] ≡ group_text (cond b fs [])
    go true = h
    go false = refl

-- ---- snapshots

abbrev pub first_row : RowRange → Document
first_row r = number (pos r.first.0)

abbrev pub added_rows : RowRange → Document
added_rows r = number (pos r.added)

abbrev pub snapshot_groups : ℕ → Snapshot → List (List Field)
snapshot_groups version s =
    (field_if "parent-snapshot-id" number s.parent ∷ [])
    ∷ fields_since 2 version (field "sequence-number" (number s.sequence.0) ∷ [])
    ∷ (field "timestamp-ms" (number s.time) ∷ [])
    ∷ fields_since 3 version (field_if "first-row-id" first_row s.rows ∷ field_if "added-rows" added_rows s.rows ∷ [])
    ∷ []

abbrev pub snapshot_fields : ℕ → Snapshot → List Field
snapshot_fields version s = field "snapshot-id" (number s.id) ∷ flat (snapshot_groups version s)

abbrev pub snapshot_show : ℕ → Snapshot → Document
snapshot_show version s = object (snapshot_fields version s)

-- what a file of the version shows of it is all of it
abbrev pub is_shown_in : ℕ → Snapshot → Bool
is_shown_in version s = (leb 2 version || eq_z s.sequence.0 (pos 0)) && (leb 3 version || not (is_some s.rows))

parent_text : (o : Option ℤ) → also_if "parent-snapshot-id" number_text o ≡ group_text (field_if "parent-snapshot-id" number o ∷ [])
unfolding quoted escaped_byte bytes_of
parent_text none = refl
parent_text (some z) = refl

rows_text_lem : (o : Option RowRange) → rows_text o ≡ group_text (field_if "first-row-id" first_row o ∷ field_if "added-rows" added_rows o ∷ [])
unfolding quoted escaped_byte bytes_of number_text
rows_text_lem none = refl
rows_text_lem (some r) = refl

module _ (version : ℕ) (s : Snapshot) where
  snapshot_written : snapshot_text version s ≡ bytes_of (snapshot_show version s)
  unfolding snapshot_text quoted escaped_byte bytes_of
  snapshot_written =
      object_pieces "snapshot-id" (number s.id)
      (also_if "parent-snapshot-id" number_text s.parent ∷ since 2 version (also "sequence-number" (number_text s.sequence.0)) ∷ also "timestamp-ms" (number_text s.time) ∷ since 3 version (rows_text s.rows) ∷ [])
      (snapshot_groups version s)
      (parent_text s.parent, (since_text 2 version (also "sequence-number" (number_text s.sequence.0)) (field "sequence-number" (number s.sequence.0) ∷ []) refl, (refl, (since_text 3 version (rows_text s.rows) (field_if "first-row-id" first_row s.rows ∷ field_if "added-rows" added_rows s.rows ∷ []) (rows_text_lem s.rows), tt))))

-- the bounds, one by one
pub record Bounds (s : Snapshot) : Type 0 where
  pub id : fits64 s.id ≡ true
  pub parent : if_some fits64 s.parent ≡ true
  pub sequence : fits64 s.sequence.0 ≡ true
  pub time : fits64 s.time ≡ true
  pub rows : if_some range_fits s.rows ≡ true

pub bounds : (s : Snapshot) → snapshot_fits s ≡ true → Bounds s
unfolding snapshot_fits
bounds s h =
    let k = parts (fits64 s.id) (if_some fits64 s.parent ∷ fits64 s.sequence.0 ∷ fits64 s.time ∷ if_some range_fits s.rows ∷ []) h in
    record { id = k.0; parent = k.1.0; sequence = k.1.1.0; time = k.1.1.1.0; rows = k.1.1.1.1.0 }

pub first_fits : (r : RowRange) → range_fits r ≡ true → fits_unsigned r.first.0 ≡ true
first_fits r h = and_left (fits_unsigned r.first.0) (fits_unsigned r.added) h

pub added_fits : (r : RowRange) → range_fits r ≡ true → fits_unsigned r.added ≡ true
added_fits r h = and_right (fits_unsigned r.first.0) (fits_unsigned r.added) h

module _ (s : Snapshot) where
  range_names_lem : (p : Option ℤ) (r : Option RowRange) → names_fine 3 HeldSnapshot (snapshot_fields 3 (record { id = s.id; parent = p; sequence = s.sequence; time = s.time; rows = r })) ≡ true
  unfolding rows_in row_in
  range_names_lem none none = refl
  range_names_lem none (some r) = refl
  range_names_lem (some p) none = refl
  range_names_lem (some p) (some r) = refl

  snapshot_names_lem : {version : ℕ} → Version version → names_fine version HeldSnapshot (snapshot_fields version s) ≡ true
  unfolding rows_in row_in
  snapshot_names_lem one = refl
  snapshot_names_lem two = refl
  snapshot_names_lem three = range_names_lem s.parent s.rows

  snapshot_utf8 : {version : ℕ} → Version version → all (λ (f : Field). is_utf8 f.name) (snapshot_fields version s) ≡ true
  unfolding is_utf8
  snapshot_utf8 one = refl
  snapshot_utf8 two = refl
  snapshot_utf8 three = refl

  pub range_fine : (version : ℕ) (f : RowRange → ℕ) → ((r : RowRange) → range_fits r ≡ true → fits_unsigned (f r) ≡ true) → if_some range_fits s.rows ≡ true → FineIn version false unsigned64 (mapped (λ (r : RowRange). number (pos (f r))) s.rows)
  range_fine version f g h = mapped_fine version false unsigned64 (λ (r : RowRange). number (pos (f r))) s.rows (λ r e. fine_unsigned version false (f r) (g r (if_there range_fits s.rows h r e)))

  range_good : (depth : ℕ) (f : RowRange → ℕ) → ((r : RowRange) → range_fits r ≡ true → fits_unsigned (f r) ≡ true) → if_some range_fits s.rows ≡ true → OptionGood depth (mapped (λ (r : RowRange). number (pos (f r))) s.rows)
  range_good depth f g h = mapped_good depth (λ (r : RowRange). number (pos (f r))) s.rows (λ r e. number_token (pos (f r)) (fitting_unsigned (f r) (g r (if_there range_fits s.rows h r e))))

  snapshot_values : {version : ℕ} → Version version → Bounds s → ValuesFine version (rows_in version HeldSnapshot) (snapshot_fields version s)
  unfolding rows_in row_in
  snapshot_values one b = (fine64 1 false s.id b.id, (optional_fine 1 s.parent b.parent, (fine64 1 false s.time b.time, tt)))
  snapshot_values two b = (fine64 2 false s.id b.id, (optional_fine 2 s.parent b.parent, (fine64 2 false s.sequence.0 b.sequence, (fine64 2 false s.time b.time, tt))))
  snapshot_values three b =
      (fine64 3 false s.id b.id, (optional_fine 3 s.parent b.parent, (fine64 3 false s.sequence.0 b.sequence, (fine64 3 false s.time b.time, (range_fine 3 (λ r. r.first.0) first_fits b.rows, (range_fine 3 (λ r. r.added) added_fits b.rows, tt))))))

  snapshot_good : (depth : ℕ) {version : ℕ} → Version version → Bounds s → ValuesGood depth (snapshot_fields version s)
  snapshot_good depth one b = (good64 s.id b.id, (optional_good depth s.parent b.parent, (good64 s.time b.time, tt)))
  snapshot_good depth two b = (good64 s.id b.id, (optional_good depth s.parent b.parent, (good64 s.sequence.0 b.sequence, (good64 s.time b.time, tt))))
  snapshot_good depth three b =
      (good64 s.id b.id, (optional_good depth s.parent b.parent, (good64 s.sequence.0 b.sequence, (good64 s.time b.time, (range_good depth (λ r. r.first.0) first_fits b.rows, (range_good depth (λ r. r.added) added_fits b.rows, tt))))))

absent : {A : Type 0} (o : Option A) → not (is_some o) ≡ true → none ≡ o
absent none h = refl
absent (some x) h = absurd (false≢true h)

module _ (fs : List Field) (place : ℕ) where
  range_made : (o : Option RowRange) → Only (bytes "first-row-id") fs (mapped first_row o) → Only (bytes "added-rows") fs (mapped added_rows o) → if_some range_fits o ≡ true
      → range_of (number_by "first-row-id" (members_at place (entries_of fs))) (number_by "added-rows" (members_at place (entries_of fs))) ≡ o
  range_made none h k f = ap (λ x. range_of x (number_by "added-rows" (members_at place (entries_of fs)))) (absent_number "first-row-id" fs place h)
  range_made (some r) h k f =
      ap (λ x. range_of x (number_by "added-rows" (members_at place (entries_of fs)))) (number_by_lem "first-row-id" fs place (some (pos r.first.0)) h (λ z e. rw (sym_some (pos r.first.0) z e) (fitting_unsigned r.first.0 (first_fits r f))))
      ∙ ap (λ x. range_of (some (pos r.first.0)) x) (number_by_lem "added-rows" fs place (some (pos r.added)) k (λ z e. rw (sym_some (pos r.added) z e) (fitting_unsigned r.added (added_fits r f))))

module _ (s : Snapshot) where
  snapshot_made : {version : ℕ} → Version version → Bounds s → is_shown_in version s ≡ true → (place : ℕ) → snapshot_of (members_at place (entries_of (snapshot_fields version s))) ≡ s
  snapshot_made one b h place =
      λ i.
      record {
        id = number_or0_lem "snapshot-id" fs place s.id (refl, refl) (fitting64 s.id b.id) i;
        parent = number_by_lem "parent-snapshot-id" fs place s.parent (refl, refl) (optional_fits s.parent b.parent) i;
        sequence = record { 0 = zero_sequence i };
        time = number_or0_lem "timestamp-ms" fs place s.time (refl, refl) (fitting64 s.time b.time) i;
        rows = (range_made fs place none refl refl refl ∙ absent s.rows (and_right (eq_z s.sequence.0 (pos 0)) (not (is_some s.rows)) h)) i;
      }
    where
      fs : List Field
      fs = snapshot_fields 1 s

      zero_sequence : number_or0 "sequence-number" (members_at place (entries_of fs)) ≡ s.sequence.0
      zero_sequence = ap (λ o. or_else o (pos 0)) (absent_number "sequence-number" fs place refl) ∙ sym (eq_z_equal s.sequence.0 (pos 0) (and_left (eq_z s.sequence.0 (pos 0)) (not (is_some s.rows)) h))
  snapshot_made two b h place =
      λ i.
      record {
        id = number_or0_lem "snapshot-id" fs place s.id (refl, refl) (fitting64 s.id b.id) i;
        parent = number_by_lem "parent-snapshot-id" fs place s.parent (refl, refl) (optional_fits s.parent b.parent) i;
        sequence = record { 0 = number_or0_lem "sequence-number" fs place s.sequence.0 (refl, refl) (fitting64 s.sequence.0 b.sequence) i };
        time = number_or0_lem "timestamp-ms" fs place s.time (refl, refl) (fitting64 s.time b.time) i;
        rows = (range_made fs place none refl refl refl ∙ absent s.rows h) i;
      }
    where
      fs : List Field
      fs = snapshot_fields 2 s
  snapshot_made three b h place =
      λ i.
      record {
        id = number_or0_lem "snapshot-id" fs place s.id (refl, refl) (fitting64 s.id b.id) i;
        parent = number_by_lem "parent-snapshot-id" fs place s.parent (refl, refl) (optional_fits s.parent b.parent) i;
        sequence = record { 0 = number_or0_lem "sequence-number" fs place s.sequence.0 (refl, refl) (fitting64 s.sequence.0 b.sequence) i };
        time = number_or0_lem "timestamp-ms" fs place s.time (refl, refl) (fitting64 s.time b.time) i;
        rows = range_made fs place s.rows (refl, refl) (refl, refl) b.rows i;
      }
    where
      fs : List Field
      fs = snapshot_fields 3 s

abbrev pub snapshot_ok : ℕ → Snapshot → Bool
snapshot_ok version s = snapshot_fits s && is_shown_in version s

pub snapshot_shown : {version : ℕ} → Version version → (s : Snapshot) → snapshot_ok version s ≡ true → Shown version 2 (OfKind HeldSnapshot) snapshot_of (snapshot_text version) (snapshot_show version) s
unfolding tree_at
snapshot_shown {version} v s h =
    record {
      written = snapshot_written version s;
      good = (refl, fields_good 3 (snapshot_fields version s) (snapshot_utf8 s v) (snapshot_good s 3 v b));
      fine = object_fine version HeldSnapshot (snapshot_fields version s) (snapshot_names_lem s v) (snapshot_values s v b);
      made = λ place. snapshot_made s v b (and_right (snapshot_fits s) (is_shown_in version s) h) (past place (123 ∷ []));
    }
  where
    b : Bounds s
    b = bounds s (and_left (snapshot_fits s) (is_shown_in version s) h)
