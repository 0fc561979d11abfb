-- A log that can be carried sends what can be sent: each of its updates has an action, well-formed members and texts that are UTF-8, and numbers that fit.
use Prim.Native.Nat.{ℕ, suc, ◌+◌, ◌*◌, ◌≤◌}
use native.Mathlib.Omega.{arith}
use mathlib.Core.Path.{◌≡◌, refl, ◌∙◌, sym, ap}
use mathlib.Core.Bool.{Bool, true, false, cond, ◌&&◌, false≢true}
use mathlib.Core.List.{List, [], ◌∷◌, ◌++◌, map}
use mathlib.Core.Option.{Option, none, some}
use lib.Dec.{leb}
use lib.IntN.{ℤ}
use lib.ListN.{length}
use lib.Signed.{non_neg}
use borrow.Author.Tests.{leb-true, le-leb}
use Rattle.rules.specs.Words.{if_some, some_with, all, collect, pair_up, unequal, unequal_by, same_bytes}
use Rattle.rules.specs.Capacities.{removal_room, schema_field_room, sort_field_room, partition_field_room, field_bytes, partition_bytes}
use Rattle.rules.specs.WellFormed.{version_formed, name_formed, kind_formed, retention_formed, reference_formed, removal_formed, schema_field_formed, field_ids, field_names, schema_formed, sort_field_formed, offered_order_formed, partition_field_formed, offered_spec_formed, offered_ids_formed, update_formed}
use Rattle.rules.specs.Offers.{is_number_at, fits_at, rest_zero_at, offered_field, is_tidy_field, offered_fields, offered_schema, is_tidy_offer, offer_formed, offered_partition, is_tidy_partition, offered_partitions, offered_spec, is_tidy_spec, spec_offer_formed}
use Rattle.rules.specs.Register.{Reference, Schema, SchemaOffer, SortOrder, PartitionSpec, SpecOffer, Update}
use Rattle.rules.specs.Register.Update.{AssignUuid, UpgradeFormatVersion, SetLocation, AddSnapshot, SetBranchSnapshot, RemoveSnapshots, SetRef, RemoveRef, AddSchema, SetCurrentSchema, RemoveSchemas, AddSortOrder, SetDefaultSortOrder, SetStatistics, RemoveStatistics, AddPartitionSpec, SetDefaultPartitionSpec, RemovePartitionSpecs, NotFormed}
use Rattle.rules.proofs.Checks.{parts, both, and_left, and_right}
use Rattle.json_rule.specs.Records.{Sent, Plain, SendsSchema, SendsSpec}
use Rattle.file_rule.specs.Written.{more_items, list_text}
use Rattle.file_rule.specs.Export.{is_utf8, schema_texts, spec_texts}
use Rattle.file_rule.specs.Fits.{fits32, fits64, field_fits, sort_field_fits, order_fits, partition_field_fits, reference_fits}
use Rattle.file_round.proofs.Lists.{all_both}
use Rattle.file_round.proofs.Schemas.{schema_ok, order_ok}
use Rattle.log_rule.specs.LogText.{sent_in, sent_text, text_if, update_text, log_text, plain_texts, sent_texts, is_carried_update}
use Rattle.log_rule.specs.Held.{update_fits, log_fits}
use Rattle.log_round.proofs.Specs.{spec_ok}
use Rattle.log_round.proofs.Updates.{plain_ok, sent_ok}

-- what holds of each that is made of those for which a test holds
all_mapped : {A B : Type 0} (f : A → B) (p : A → Bool) (q : B → Bool) → ((x : A) → p x ≡ true → q (f x) ≡ true) → (l : List A) → all p l ≡ true → all q (map f l) ≡ true
all_mapped f p q h [] e = refl
all_mapped f p q h (x ∷ l) e = both (h x (and_left (p x) (all p l) e)) (all_mapped f p q h l (and_right (p x) (all p l) e))

-- one test from another
pub all_told : {A : Type 0} (p q : A → Bool) → ((x : A) → p x ≡ true → q x ≡ true) → (l : List A) → all p l ≡ true → all q l ≡ true
all_told p q h [] e = refl
all_told p q h (x ∷ l) e = both (h x (and_left (p x) (all p l) e)) (all_told p q h l (and_right (p x) (all p l) e))

-- ---- what is offered

-- the numbers of a field that is tidy fit
field_fits_lem : (bs : List ℕ) → is_tidy_field bs ≡ true → field_fits (offered_field bs) ≡ true
field_fits_lem bs h = (parts (is_number_at 0 bs) (fits_at 5 bs ∷ rest_zero_at 5 bs ∷ []) h).0

partition_fits : (bs : List ℕ) (id : Option ℤ) → is_tidy_partition bs ≡ true → if_some fits32 id ≡ true → partition_field_fits (offered_partition bs id) ≡ true
partition_fits bs id h k =
    let p = parts (is_number_at 0 bs) (is_number_at 5 bs ∷ fits_at 9 bs ∷ rest_zero_at 9 bs ∷ []) h in
    both (both p.0 k) p.1.0

partitions_fit : (l : List (List ℕ)) (ids : List (Option ℤ)) → all is_tidy_partition l ≡ true → all (if_some fits32) ids ≡ true → all partition_field_fits (pair_up offered_partition l ids) ≡ true
partitions_fit [] ids h k = refl
partitions_fit (bs ∷ l) [] h k = refl
partitions_fit (bs ∷ l) (id ∷ ids) h k =
    both (partition_fits bs id (and_left (is_tidy_partition bs) (all is_tidy_partition l) h) (and_left (if_some fits32 id) (all (if_some fits32) ids) k))
    (partitions_fit l ids (and_right (is_tidy_partition bs) (all is_tidy_partition l) h) (and_right (if_some fits32 id) (all (if_some fits32) ids) k))

schema_ok_lem : (s : Schema) → fits32 s.id ≡ true → schema_formed s ≡ true → all field_fits s.fields ≡ true → schema_texts s ≡ true → schema_ok s ≡ true
schema_ok_lem s i h f t =
    let k = parts (non_neg s.id) (leb (length s.fields) schema_field_room ∷ all schema_field_formed s.fields ∷ unequal (field_ids s) ∷ unequal_by same_bytes (field_names s) ∷ []) h in
    both (both i k.1.0) (all_both (λ x. schema_field_formed x && field_fits x) (λ x. is_utf8 x.name) s.fields (all_both schema_field_formed field_fits s.fields k.1.1.0 f) t)

spec_ok_lem : (s : PartitionSpec) → fits32 s.id ≡ true → offered_spec_formed s ≡ true → all partition_field_fits s.fields ≡ true → spec_texts s ≡ true → spec_ok s ≡ true
spec_ok_lem s i h f t =
    let k = parts (non_neg s.id) (leb (length s.fields) partition_field_room ∷ all partition_field_formed s.fields ∷ []) h in
    both (both i k.1.0) (all_both (λ x. partition_field_formed x && partition_field_fits x) (λ x. is_utf8 x.name) s.fields (all_both partition_field_formed partition_field_fits s.fields k.1.1.0 f) t)

-- ---- an update

-- what is sent is well formed
abbrev pub sent_formed : Sent → Bool
sent_formed (Plain u) = update_formed u
sent_formed (SendsSchema s) = schema_formed s
sent_formed (SendsSpec s) = offered_spec_formed s

-- it sends something, which can be sent
pub record Sends (offers : List ℕ) (u : Update) : Type 0 where
  pub sent : Sent
  pub same : sent_in offers u ≡ some sent
  pub ok : sent_ok sent ≡ true
  pub formed : sent_formed sent ≡ true

schema_sends : (offers : List ℕ) (o : SchemaOffer) → offer_formed offers o ≡ true → schema_texts (offered_schema offers o) ≡ true → fits32 o.id ≡ true → Sends offers (AddSchema o)
unfolding sent_in offer_formed is_tidy_offer offered_schema
schema_sends offers o e t i =
    let k = and_left (is_tidy_offer offers o) (schema_formed (offered_schema offers o)) e in
    let f = and_right (is_tidy_offer offers o) (schema_formed (offered_schema offers o)) e in
    let tidy = and_right (leb (o.at + o.count * field_bytes) (length offers)) (all is_tidy_field (offered_fields offers o)) k in
    record {
      sent = SendsSchema (offered_schema offers o);
      same = ap (λ b. cond b (some (SendsSchema (offered_schema offers o))) none) e;
      ok = schema_ok_lem (offered_schema offers o) i f (all_mapped offered_field is_tidy_field field_fits field_fits_lem (offered_fields offers o) tidy) t;
      formed = f;
    }

spec_sends : (offers : List ℕ) (o : SpecOffer) → spec_offer_formed offers o ≡ true → spec_texts (offered_spec offers o) ≡ true → (fits32 o.id && all (if_some fits32) o.ids) ≡ true → Sends offers (AddPartitionSpec o)
unfolding sent_in spec_offer_formed is_tidy_spec offered_spec
spec_sends offers o e t i =
    let k = and_left (is_tidy_spec offers o) (offered_spec_formed (offered_spec offers o)) e in
    let f = and_right (is_tidy_spec offers o) (offered_spec_formed (offered_spec offers o)) e in
    let tidy = and_right (leb (o.at + length o.ids * partition_bytes) (length offers)) (all is_tidy_partition (offered_partitions offers o)) k in
    record {
      sent = SendsSpec (offered_spec offers o);
      same = ap (λ b. cond b (some (SendsSpec (offered_spec offers o))) none) e;
      ok = spec_ok_lem (offered_spec offers o) (and_left (fits32 o.id) (all (if_some fits32) o.ids) i) f (partitions_fit (offered_partitions offers o) o.ids tidy (and_right (fits32 o.id) (all (if_some fits32) o.ids) i)) t;
      formed = f;
    }

-- what is asked of something that may be absent
asked : {A : Type 0} (p : A → Bool) (b : Bool) (x : A) → some_with p (cond b (some x) none) ≡ true → (b ≡ true) × (p x ≡ true)
asked p true x h = (refl, h)
asked p false x h = absurd (false≢true h)

order_ok_lem : (o : SortOrder) → offered_order_formed o ≡ true → order_fits o ≡ true → order_ok o ≡ true
order_ok_lem o h f =
    let k = parts (non_neg o.id) (leb (length o.fields) sort_field_room ∷ all sort_field_formed o.fields ∷ []) h in
    let l = parts (fits64 o.id) (all sort_field_fits o.fields ∷ []) f in
    both (both l.0 k.1.0) (all_both sort_field_formed sort_field_fits o.fields k.1.1.0 l.1.0)

removal_ok : (p : ℤ → Bool) (ids : List ℤ) → removal_formed ids ≡ true → all p ids ≡ true → (leb (length ids) removal_room && all p ids) ≡ true
removal_ok p ids h f = both (and_left (leb (length ids) removal_room) (all non_neg ids) h) f

ref_ok_lem : (name : List ℕ) (r : Reference) → (name_formed name && reference_formed r) ≡ true → is_utf8 name ≡ true → reference_fits r ≡ true → plain_ok (SetRef name r) ≡ true
ref_ok_lem name r h t f =
    let k = parts (non_neg r.snapshot) (kind_formed r ∷ retention_formed r ∷ []) (and_right (name_formed name) (reference_formed r) h) in
    both (both (both (and_left (name_formed name) (reference_formed r) h) t) k.1.0) f

pub update_sends : (offers : List ℕ) (u : Update) → is_carried_update offers u ≡ true → update_fits u ≡ true → Sends offers u
unfolding is_carried_update sent_in update_formed plain_texts update_fits
update_sends offers (AssignUuid uuid) h f = record { sent = Plain (AssignUuid uuid); same = refl; ok = f; formed = and_left (update_formed (AssignUuid uuid)) (some_with sent_texts (sent_in offers (AssignUuid uuid))) h }
update_sends offers (UpgradeFormatVersion v) h f =
    let k : v ≤ 3 = leb-true v 3 (and_right (leb 1 v) (leb v 3) (and_left (version_formed v) true h)) in
    record { sent = Plain (UpgradeFormatVersion v); same = refl; ok = le-leb v 255 (omega arith); formed = and_left (update_formed (UpgradeFormatVersion v)) (some_with sent_texts (sent_in offers (UpgradeFormatVersion v))) h }
update_sends offers (SetLocation location) h f = record { sent = Plain (SetLocation location); same = refl; ok = h; formed = and_left (update_formed (SetLocation location)) (some_with sent_texts (sent_in offers (SetLocation location))) h }
update_sends offers (AddSnapshot s) h f = record { sent = Plain (AddSnapshot s); same = refl; ok = f; formed = and_left (update_formed (AddSnapshot s)) (some_with sent_texts (sent_in offers (AddSnapshot s))) h }
update_sends offers (SetBranchSnapshot name s) h f = absurd (false≢true (and_right (update_formed (SetBranchSnapshot name s)) false h))
update_sends offers (RemoveSnapshots ids) h f = record { sent = Plain (RemoveSnapshots ids); same = refl; ok = removal_ok fits64 ids (and_left (removal_formed ids) true h) f; formed = and_left (update_formed (RemoveSnapshots ids)) (some_with sent_texts (sent_in offers (RemoveSnapshots ids))) h }
update_sends offers (SetRef name r) h f =
    record { sent = Plain (SetRef name r); same = refl; ok = ref_ok_lem name r (and_left (name_formed name && reference_formed r) (is_utf8 name) h) (and_right (name_formed name && reference_formed r) (is_utf8 name) h) f; formed = and_left (update_formed (SetRef name r)) (some_with sent_texts (sent_in offers (SetRef name r))) h }
update_sends offers (RemoveRef name) h f = record { sent = Plain (RemoveRef name); same = refl; ok = h; formed = and_left (update_formed (RemoveRef name)) (some_with sent_texts (sent_in offers (RemoveRef name))) h }
update_sends offers (AddSchema o) h f =
    let k = asked sent_texts (offer_formed offers o) (SendsSchema (offered_schema offers o)) (and_right (non_neg o.id) (some_with sent_texts (sent_in offers (AddSchema o))) h) in
    schema_sends offers o k.0 k.1 f
update_sends offers (SetCurrentSchema id) h f = record { sent = Plain (SetCurrentSchema id); same = refl; ok = f; formed = and_left (update_formed (SetCurrentSchema id)) (some_with sent_texts (sent_in offers (SetCurrentSchema id))) h }
update_sends offers (RemoveSchemas ids) h f = record { sent = Plain (RemoveSchemas ids); same = refl; ok = removal_ok fits32 ids (and_left (removal_formed ids) true h) f; formed = and_left (update_formed (RemoveSchemas ids)) (some_with sent_texts (sent_in offers (RemoveSchemas ids))) h }
update_sends offers (AddSortOrder o) h f = record { sent = Plain (AddSortOrder o); same = refl; ok = order_ok_lem o (and_left (offered_order_formed o) true h) f; formed = and_left (update_formed (AddSortOrder o)) (some_with sent_texts (sent_in offers (AddSortOrder o))) h }
update_sends offers (SetDefaultSortOrder id) h f = record { sent = Plain (SetDefaultSortOrder id); same = refl; ok = f; formed = and_left (update_formed (SetDefaultSortOrder id)) (some_with sent_texts (sent_in offers (SetDefaultSortOrder id))) h }
update_sends offers (SetStatistics which file) h f = absurd (false≢true (and_right (update_formed (SetStatistics which file)) false h))
update_sends offers (RemoveStatistics which id) h f = absurd (false≢true (and_right (update_formed (RemoveStatistics which id)) false h))
update_sends offers (AddPartitionSpec o) h f =
    let k = asked sent_texts (spec_offer_formed offers o) (SendsSpec (offered_spec offers o)) (and_right (offered_ids_formed o) (some_with sent_texts (sent_in offers (AddPartitionSpec o))) h) in
    spec_sends offers o k.0 k.1 f
update_sends offers (SetDefaultPartitionSpec id) h f = record { sent = Plain (SetDefaultPartitionSpec id); same = refl; ok = f; formed = and_left (update_formed (SetDefaultPartitionSpec id)) (some_with sent_texts (sent_in offers (SetDefaultPartitionSpec id))) h }
update_sends offers (RemovePartitionSpecs ids) h f = record { sent = Plain (RemovePartitionSpecs ids); same = refl; ok = removal_ok fits32 ids (and_left (removal_formed ids) true h) f; formed = and_left (update_formed (RemovePartitionSpecs ids)) (some_with sent_texts (sent_in offers (RemovePartitionSpecs ids))) h }
update_sends offers (NotFormed counts) h f = absurd (false≢true (and_right (update_formed (NotFormed counts)) false h))

-- ---- a log

-- what a log sends
abbrev pub sents_of : List ℕ → List Update → List Sent
sents_of offers log = collect (sent_in offers) log

pub record LogSends (offers : List ℕ) (log : List Update) : Type 0 where
  pub more : more_items (update_text offers) log ≡ more_items sent_text (sents_of offers log)
  pub count : length (sents_of offers log) ≡ length log
  pub ok : all sent_ok (sents_of offers log) ≡ true
  pub formed : all sent_formed (sents_of offers log) ≡ true

module _ (offers : List ℕ) (u : Update) (k : Sends offers u) where
  text_sent : update_text offers u ≡ sent_text k.sent
  text_sent = ap text_if k.same

  then_sent : (log : List Update) → sents_of offers (u ∷ log) ≡ k.sent ∷ sents_of offers log
  then_sent log = ap (λ o. elim o [ none ↦ sents_of offers log | some x ↦ x ∷ sents_of offers log ]) k.same

pub log_sends : (offers : List ℕ) (log : List Update) → all (is_carried_update offers) log ≡ true → log_fits log ≡ true → LogSends offers log
log_sends offers [] h f = record { more = refl; count = refl; ok = refl; formed = refl }
log_sends offers (u ∷ log) h f =
    let k = update_sends offers u (and_left (is_carried_update offers u) (all (is_carried_update offers) log) h) (and_left (update_fits u) (log_fits log) f) in
    let l = log_sends offers log (and_right (is_carried_update offers u) (all (is_carried_update offers) log) h) (and_right (update_fits u) (log_fits log) f) in
    record {
      more = ap (λ t. 44 ∷ t ++ more_items (update_text offers) log) (text_sent offers u k) ∙ ap (λ r. 44 ∷ sent_text k.sent ++ r) l.more ∙ sym (ap (λ x. more_items sent_text x) (then_sent offers u k log));
      count = ap length (then_sent offers u k log) ∙ ap suc l.count;
      ok = ap (λ x. all sent_ok x) (then_sent offers u k log) ∙ both k.ok l.ok;
      formed = ap (λ x. all sent_formed x) (then_sent offers u k log) ∙ both k.formed l.formed;
    }

-- the text of a log is that of what it sends
pub log_text_lem : (offers : List ℕ) (log : List Update) → all (is_carried_update offers) log ≡ true → log_fits log ≡ true → log_text log offers ≡ list_text sent_text (sents_of offers log)
unfolding log_text
log_text_lem offers [] h f = refl
log_text_lem offers (u ∷ log) h f =
    let k = update_sends offers u (and_left (is_carried_update offers u) (all (is_carried_update offers) log) h) (and_left (update_fits u) (log_fits log) f) in
    let l = log_sends offers log (and_right (is_carried_update offers u) (all (is_carried_update offers) log) h) (and_right (update_fits u) (log_fits log) f) in
    ap (λ t. 91 ∷ (t ++ more_items (update_text offers) log) ++ (93 ∷ [])) (text_sent offers u k) ∙ ap (λ r. 91 ∷ (sent_text k.sent ++ r) ++ (93 ∷ [])) l.more ∙ sym (ap (λ x. list_text sent_text x) (then_sent offers u k log))
