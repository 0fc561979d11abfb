-- An update that is closed and lacks nothing: its members are stored in the form in which it is made of them.
use Prim.Native.Nat.{ℕ, suc, ◌+◌, ◌-◌, ◌≤◌, ◌<◌}
use mathlib.Core.Path.{◌≡◌, refl, sym, ap, ◌∙◌}
use mathlib.Core.Bool.{true, true≢false}
use mathlib.Core.List.{List, [], ◌∷◌}
use mathlib.Core.Option.{Option, none, some}
use native.Mathlib.Nat.{add-zero}
use native.Mathlib.Omega.{arith}
use borrow.Author.Tests.{le-leb}
use lib.Dec.{eqb}
use lib.ListN.{length, get_or, replicate, get_or-append}
use lib.Seq.{ext_get_or}
use Rattle.rules.specs.Words.{all, any, is_some, or_else}
use Rattle.rules.specs.WellFormed.{branch, tag}
use Rattle.json_rule.specs.Letters.{bytes}
use Rattle.json_rule.specs.Tree.{Json, Members, no_member}
use Rattle.json_rule.specs.Members.{members_in}
use Rattle.json_rule.specs.Shapes.{Kind, AnUpdate, ASnapshot}
use Rattle.json_judge.specs.Sending.{Held, members_before}
use Rattle.json_members.specs.Slots.{kind_in, seen_in}
use Rattle.json_members.specs.Words.{kinds}
use Rattle.json_members.specs.Spots.{row_at, spots_of, required_of}
use Rattle.json_members.specs.Rows.{span, spans, span_of, through}
use Rattle.json_members.proofs.Cases.{done, ◌&◌, by_keys, beside_other}
use Rattle.json_store.specs.Puts.{part}
use Rattle.json_store.specs.Made.{text_in}
use Rattle.json_store.specs.Stored as stored
use Rattle.json_store.specs.Stored.{member_at_lem, is_there, MemberHeld, said_text, ValueHeld, RecordHeld, SnapshotHeld, UpdateHeld}
use Rattle.json_store.proofs.Stores.{part_length, part_at}
use Rattle.json_stands.proofs.Marked.{is_marked}
use Rattle.json_stands.proofs.Members.{is_member}
use Rattle.json_stands.proofs.Spans.{span_members}
use Rattle.json_stands.proofs.Open.{Part, snapshot, schema, order, spec}
use Rattle.json_gather.proofs.Owners.{text_at, text_size, Hand}
use Rattle.json_gather.proofs.Claims.{TextStored, HeldAs, PartMember, PartStored, UpdateMember}
use Rattle.json_gather.proofs.Footprints.{of_all, required_within, all_same, member_below}
use Rattle.json_gather.proofs.Holds.{AllHeld}
use Rattle.json_gather.proofs.Widths.{wide_stored, narrow_stored, natural_stored, byte_stored}
use Rattle.json_gather.proofs.Fields.{word_byte}
use Rattle.json_gather.proofs.Lists.{snapshot_ids_made, schema_ids_made, spec_ids_made, fields_made, sorts_made, partitions_made}
use Rattle.json_gather.proofs.Complete.{UpdateWhole}

-- ---- a text behind its length

module _ (texts : List ℕ) (o room : ℕ) (size : text_size o ≡ suc room) {x : Json} (t : TextStored texts o x) where
  long_is : get_or texts (text_at o) 0 ≡ length t.text
  long_is =
      ap (λ (p : ℕ). get_or texts p 0) (sym (add-zero (text_at o)))
      ∙ (sym (part_at (text_at o) (text_size o) texts 0 (omega arith)) ∙ ap (λ (l : List ℕ). get_or l 0 0) t.kept)

  byte_is : (i : ℕ) → i < length t.text → get_or texts (suc (text_at o) + i) 0 ≡ get_or t.text i 0
  byte_is i h =
      let e : suc (text_at o) + i ≡ text_at o + suc i = omega arith in
      ap (λ (p : ℕ). get_or texts p 0) e
      ∙ (sym (part_at (text_at o) (text_size o) texts (suc i) (omega (arith, t.fits)))
      ∙ (ap (λ (l : List ℕ). get_or l (suc i) 0) t.kept ∙ get_or-append t.text (replicate (text_size o - 1 - length t.text) 0) 0 i h))

  pub text_made : text_in room (text_at o) texts ≡ said_text x
  unfolding text_in
  text_made =
      let n = length t.text in
      let h : n ≤ room = omega (arith, t.fits) in
      rw (long_is, le-leb n room h)
      (ext_get_or 0 (part (suc (text_at o)) n texts) t.text (part_length (suc (text_at o)) n texts)
      (λ i k. let k' : i < n = rw (part_length (suc (text_at o)) n texts) at k in part_at (suc (text_at o)) n texts i k' ∙ byte_is i k')
      ∙ sym (ap (λ (y : Option (List ℕ)). or_else y []) t.said))

-- ---- members

-- one that is there was seen
module _ (slots marks : List ℕ) (sees : (m : ℕ) → m < 64 → seen_in slots m ≡ is_marked marks m) where
  seen_there : (stored : ℕ → Json → Type 0) (m : ℕ) (o : Option Json) → HeldAs stored marks m o → is_marked marks m ≡ is_some o
  seen_there stored m none h = h
  seen_there stored m (some x) h = h.0

  value_there : (stored : ℕ → Json → Type 0) (m : ℕ) (o : Option Json) → HeldAs stored marks m o → (x : Json) → o ≡ some x → stored m x
  value_there stored m none h x e = absurd (true≢false (sym (ap is_some e)))
  value_there stored m (some y) h x e = let q : y ≡ x = cc in rw q at h.1

  member_made : (stored held : ℕ → Json → Type 0) (ms : Members) (m : ℕ) → m < 64 → ((x : Json) → stored m x → held m x) → HeldAs stored marks m (member_at_lem m ms) → MemberHeld held slots ms m
  member_made stored held ms m h f c = record { seen = sees m h ∙ seen_there stored m (member_at_lem m ms) c; value = λ x e. f x (value_there stored m (member_at_lem m ms) c x e) }

  all_there : (stored : ℕ → Json → Type 0) (ms : Members) (spots : List ℕ) → ((m : ℕ) → any (eqb m) spots ≡ true → HeldAs stored marks m (member_at_lem m ms)) → all (is_marked marks) spots ≡ true → all (is_there ms) spots ≡ true
  all_there stored ms spots h a = all_same (is_there ms) (is_marked marks) spots (λ m e. sym (seen_there stored m (member_at_lem m ms) (h m e))) ∙ a

-- ---- a record

abbrev part_keys : List ℕ
part_keys = 27 ∷ 28 ∷ 29 ∷ 30 ∷ 31 ∷ 32 ∷ 33 ∷ 34 ∷ 35 ∷ 36 ∷ 37 ∷ 38 ∷ 44 ∷ 45 ∷ 51 ∷ 52 ∷ []

part_value : (a : Hand) (m : ℕ) (x : Json) → any (eqb m) part_keys ≡ true → PartMember a m x → ValueHeld a.numbers a.texts m x
unfolding row_at ValueHeld
part_value a m x is =
    by_keys (λ y. any (eqb y) part_keys ≡ true → PartMember a y x → ValueHeld a.numbers a.texts y x) part_keys m
    ((λ _ c. wide_stored c)
    & (λ _ c. wide_stored c)
    & (λ _ c. wide_stored c)
    & (λ _ c. wide_stored c)
    & (λ _ c. natural_stored c)
    & (λ _ c. natural_stored c)
    & (λ _ c. tt)
    & (λ _ c. tt)
    & (λ _ c. tt)
    & (λ _ c. tt)
    & (λ _ c. narrow_stored c)
    & (λ _ c. fields_made c)
    & (λ _ c. wide_stored c)
    & (λ _ c. sorts_made c)
    & (λ _ c. narrow_stored c)
    & (λ _ c. partitions_made c)
    & done)
    (λ n t. absurd (true≢false (sym t ∙ n))) is

part_keys_lem : {w : ℕ} {kind : Kind} → Part w kind → all (λ y. any (eqb y) part_keys) (spots_of kind) ≡ true
part_keys_lem snapshot = refl
part_keys_lem schema = refl
part_keys_lem order = refl
part_keys_lem spec = refl

module _ (slots : List ℕ) (a : Hand) (sees : (m : ℕ) → m < 64 → seen_in slots m ≡ is_marked a.marks m) where
  record_made : {w : ℕ} {kind : Kind} → Part w kind → (x : Json) → PartStored a kind x → RecordHeld slots a.numbers a.texts kind (members_in x)
  record_made {kind = kind} p x s =
      record {
        members = λ m i. let h = member_below kind m i in
            member_made slots a.marks sees (PartMember a) (ValueHeld a.numbers a.texts) (members_in x) m (omega arith) (λ y. part_value a m y (of_all (λ z. any (eqb z) part_keys) (spots_of kind) m i (part_keys_lem p))) (s.held m i);
        there =
            all_there slots a.marks sees (PartMember a) (members_in x) (required_of kind) (λ m e. s.held m (of_all (is_member kind) (required_of kind) m e (required_within p))) s.complete.required;
      }

  snapshot_made : (x : Json) → PartStored a ASnapshot x → SnapshotHeld slots a.numbers a.texts (members_in x)
  snapshot_made x s =
      let see = seen_there slots a.marks sees (PartMember a) in
      record {
        record_held = record_made snapshot x s;
        halves = sym (see 31 (member_at_lem 31 (members_in x)) (s.held 31 refl)) ∙ (s.complete.halves refl ∙ see 32 (member_at_lem 32 (members_in x)) (s.held 32 refl));
      }

  -- ---- the update

  abbrev update_keys : List ℕ
  update_keys = 3 ∷ 4 ∷ 5 ∷ 6 ∷ 7 ∷ 8 ∷ 9 ∷ 10 ∷ 11 ∷ 12 ∷ 13 ∷ 14 ∷ 15 ∷ 16 ∷ 17 ∷ 18 ∷ 19 ∷ 20 ∷ 21 ∷ 22 ∷ 23 ∷ []

  update_value : (m : ℕ) (x : Json) → is_member AnUpdate m ≡ true → UpdateMember a m x → stored.Held slots a.numbers a.texts m x
  unfolding row_at ValueHeld stored.Held
  update_value m x i =
      by_keys (λ y. is_member AnUpdate y ≡ true → UpdateMember a y x → stored.Held slots a.numbers a.texts y x) update_keys m
      ((λ _ c. tt)
      & (λ _ c. c)
      & (λ _ c. byte_stored c)
      & (λ _ c. text_made a.texts 6 96 refl c)
      & (λ _ c. snapshot_made x c)
      & (λ _ c. snapshot_ids_made c)
      & (λ _ c. text_made a.texts 9 32 refl c)
      & (λ _ c. word_byte 0 branch tag (bytes "branch") (bytes "tag") (c.word refl) (some x) refl refl refl (omega arith) (omega arith))
      & (λ _ c. wide_stored c)
      & (λ _ c. narrow_stored c)
      & (λ _ c. wide_stored c)
      & (λ _ c. wide_stored c)
      & (λ _ c. record_made schema x c)
      & (λ _ c. narrow_stored c)
      & (λ _ c. narrow_stored c)
      & (λ _ c. schema_ids_made c)
      & (λ _ c. record_made order x c)
      & (λ _ c. wide_stored c)
      & (λ _ c. record_made spec x c)
      & (λ _ c. narrow_stored c)
      & (λ _ c. spec_ids_made c)
      & done)
      (λ n i _. absurd (true≢false (sym (of_all (λ y. any (eqb y) update_keys) (spots_of AnUpdate) m i refl) ∙ n))) i

-- the members of a row are members of an update
row_members : (kind : ℕ) → all (is_member AnUpdate) (through (span_of kind).first (span_of kind).last) ≡ true
unfolding span_of
row_members kind =
    by_keys (λ k. all (is_member AnUpdate) (through (span_of k).first (span_of k).last) ≡ true) kinds kind
    (refl & refl & refl & refl & refl & refl & refl & refl & refl & refl & refl & refl & refl & refl & refl & done)
    (λ n. rw (beside_other (span 3 0 23) spans (kinds ∷ []) kind refl (rw n)))

module _ (slots : List ℕ) (a : Hand) (sees : (m : ℕ) → m < 64 → seen_in slots m ≡ is_marked a.marks m) (hs : List Held) (held : AllHeld AnUpdate a hs) (whole : UpdateWhole slots) where
  abbrev ms : Members
  ms = members_before hs no_member

  pub update_held : UpdateHeld slots a.numbers a.texts (kind_in slots) ms
  update_held =
      let kind = kind_in slots in
      record {
        members = λ m i. let e = of_all (is_member AnUpdate) (through (span_of kind).first (span_of kind).last) m i (row_members kind) in
            let h = member_below AnUpdate m e in
            member_made slots a.marks sees (UpdateMember a) (stored.Held slots a.numbers a.texts) ms m (omega arith) (λ x. update_value slots a sees m x e) (held.each m e);
        there =
            all_same (is_there ms) (seen_in slots) (through (span_of kind).first (span_of kind).must)
            (λ m i. let e = of_all (is_member AnUpdate) (through (span_of kind).first (span_of kind).must) m i (span_members kind) in
            let h = member_below AnUpdate m e in
            sym (sees m (omega arith) ∙ seen_there slots a.marks sees (UpdateMember a) m (member_at_lem m ms) (held.each m e)))
            ∙ whole.required;
      }
