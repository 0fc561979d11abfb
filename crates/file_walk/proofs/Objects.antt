-- What is said and held of an object, by what is wanted where it stands: of one that is no object under names of its own.
use Prim.Native.Nat.{ℕ, suc, ◌+◌}
use native.Mathlib.Omega.{arith}
use native.Mathlib.Nat.{add-zero, zero-add}
use mathlib.Core.Path.{◌≡◌, refl, sym, ap, ap₂, subst, ◌∙◌}
use mathlib.Core.Bool.{Bool, true, false, cond, not, ◌&&◌, ◌||◌, true≢false}
use mathlib.Core.List.{List, [], ◌∷◌, ◌++◌}
use mathlib.Core.Option.{Option, none, some}
use lib.Dec.{eqb, leb}
use borrow.Table.Steps.{cases}
use borrow.Author.Tests.{not-true, eqb-true, eqb-false}
use Rattle.rules.specs.Words.{all, same_bytes}
use Rattle.rules.proofs.Checks.{and_left, and_right}
use Rattle.json_rule.specs.Values.{text_of}
use Rattle.json_rule.specs.Tree.{Defect, Object, Members, no_member, bare_name, member, Named, ClosedBy, OpenBy, object_at_lem}
use Rattle.json_rule.specs.Members.{is_one_of, names_of}
use Rattle.json_rule.specs.Defects.{not_published, with_name, stands_at, is_anything, least}
use Rattle.json_judge.specs.Refusal.{sooner}
use Rattle.json_judge.proofs.Least.{sooner_none, sooner_associates, least_append}
use Rattle.file_rule.specs.Tables.{FileKind, TheFile, FileShape, Single, IdOrNull, Several, ByName, OfKind, rows_in}
use Rattle.file_rule.specs.FileDefects.{missing_member, required_in, range_names, missing_defects, schema_place, defects, member_defects}
use Rattle.file_rule.specs.Import.{skipped_in}
use Rattle.file_cells.specs.Wants.{kind_number, kind_at, passes_over, shape_of, stands_at_schema, named_in, named_at, record_in, record_at}
use Rattle.file_cells.specs.Filled.{filled}
use Rattle.file_members.specs.Flags.{flags_in, lacks_in}
use Rattle.file_members.proofs.Flags.{flags_alike}
use Rattle.file_members.proofs.Lacks.{lacks_told}
use Rattle.file_members.proofs.Judging.{schema_by}
use Rattle.file_walk.specs.Seats.{refusal_of}
use Rattle.file_walk.specs.Outcomes.{Outcome, outcome, Meant, misplaced_number, wanted_defects, of_value}
use Rattle.file_walk.specs.Members.{all_names, names_in, record_flag, inner_place, lack_number, known_spot, skips_from, Flagged, members_said, of_members}
use Rattle.file_walk.proofs.Said.{said_unless}
use Rattle.file_walk.proofs.Wanted.{is_record, sound, always_sound, record_some}
use Rattle.file_walk.proofs.Numbered.{OfKindAt, at_kind_lem}
use Rattle.file_walk.proofs.MemberSteps.{known_is}

-- ---- the names, in whatever order

or_shuffle : (a b c : Bool) → b || (a || c) ≡ (a || b) || c
or_shuffle true true c = refl
or_shuffle true false c = refl
or_shuffle false true c = refl
or_shuffle false false c = refl

abbrev names_with : Option (List ℕ) → List (List ℕ) → List (List ℕ)
names_with none ns = ns
names_with (some n) ns = n ∷ ns

with_told : (w : List ℕ) (o : Option (List ℕ)) (seen ns : List (List ℕ)) → is_one_of ns w || is_one_of (with_name seen o) w ≡ is_one_of (names_with o ns) w || is_one_of seen w
with_told w none seen ns = refl
with_told w (some n) seen ns = or_shuffle (same_bytes w n) (is_one_of ns w) (is_one_of seen w)

all_told : (w : List ℕ) (seen : List (List ℕ)) (ms : Members) → is_one_of (all_names seen ms) w ≡ is_one_of (names_of ms) w || is_one_of seen w
all_told w seen no_member = refl
all_told w seen (bare_name t) = with_told w (text_of t) seen [] ∙ ap (λ (ns : List (List ℕ)). is_one_of ns w || is_one_of seen w) (go (text_of t))
  where
    go : (o : Option (List ℕ)) → names_with o [] ≡ (elim o as (λ x. List (List ℕ)) [ none ↦ [] | some name ↦ name ∷ [] ])
    go none = refl
    go (some name) = refl
all_told w seen (member t x ms) =
    all_told w (with_name seen (text_of t)) ms
    ∙ (with_told w (text_of t) seen (names_of ms) ∙ ap (λ (ns : List (List ℕ)). is_one_of ns w || is_one_of seen w) (go (text_of t)))
  where
    go : (o : Option (List ℕ)) → names_with o (names_of ms) ≡ (elim o as (λ x. List (List ℕ)) [ none ↦ names_of ms | some name ↦ name ∷ names_of ms ])
    go none = refl
    go (some name) = refl

or_false : (b : Bool) → b || false ≡ b
or_false true = refl
or_false false = refl

names_alike : (ms : Members) (w : List ℕ) → is_one_of (all_names [] ms) w ≡ is_one_of (names_of ms) w
names_alike ms w = all_told w [] ms ∙ or_false (is_one_of (names_of ms) w)

module _ (version : ℕ) where
  -- ---- what is skipped

  skips_none : (kind count : ℕ) (ms : Members) → eqb kind 0 ≡ false → skips_from version kind count ms ≡ count
  skips_none kind count no_member e = refl
  skips_none kind count (bare_name t) e = refl
  skips_none kind count (member t x ms) e = rw e (skips_none kind count ms e)

  skips_file : (count : ℕ) (ms : Members) → skips_from version 0 count ms ≡ count + skipped_in version ms
  unfolding skipped_in
  skips_file count no_member = sym (add-zero count)
  skips_file count (bare_name t) = sym (add-zero count)
  skips_file count (member t x ms) =
      cases (eqb (known_spot version 0 t) 0)
      (λ e. rw (e, known_is version 0 TheFile (at_kind_lem TheFile) (text_of t), e) (skips_file (suc count) ms ∙ omega arith))
      (λ e. rw (e, known_is version 0 TheFile (at_kind_lem TheFile) (text_of t), e) (skips_file count ms))

  skips_are : (kind : ℕ) (ms : Members) → skips_from version kind 0 ms ≡ cond (eqb kind 0) (skipped_in version ms) 0
  skips_are kind ms =
      cases (eqb kind 0)
      (λ e. rw (e, eqb-true kind 0 e) (skips_file 0 ms ∙ zero-add (skipped_in version ms)))
      (λ e. rw e (skips_none kind 0 ms e))

  -- ---- what is lacking

  lack_cond : (l : Bool) → cond (not l) 0 missing_member ≡ cond l missing_member 0
  lack_cond true = refl
  lack_cond false = refl

  lack_said_lem : (kind : ℕ) (k : FileKind) → OfKindAt kind k → (first : ℕ) (ms : Members) (flags : List Bool) → flags ≡ flags_in version k (all_names [] ms)
      → least (missing_defects version k first ms true) ≡ refusal_of (lack_number version kind 0 flags) first
  lack_said_lem kind k o first ms flags e =
      let same : flags ≡ flags_in version k (names_of ms) = e ∙ flags_alike version k (all_names [] ms) (names_of ms) (names_alike ms) in
      said_unless (all (is_one_of (names_of ms)) (required_in (rows_in version k) ++ range_names version k (names_of ms))) first missing_member refl
      ∙ ap (λ (n : ℕ). refusal_of n first)
      (ap (λ (b : Bool). cond b 0 missing_member) (lacks_told version kind k o.is (names_of ms))
      ∙ (lack_cond (lacks_in version kind (flags_in version k (names_of ms))) ∙ ap₂ (λ (b : Bool) (fs : List Bool). cond b 0 (cond (lacks_in version kind fs) missing_member 0)) (sym o.below) (sym same)))

  -- ---- an object, by its shape

  abbrev placing : ℕ → ℕ → Bool → ℕ → ℕ → Option Defect
  placing want kind b schema first = refusal_of (misplaced_number want (record_flag kind)) (stands_at b schema first)

  no_kind_said : (schema : ℕ) (ms : Members) → members_said version schema 13 [] ms ≡ none
  unfolding kind_at
  no_kind_said schema ms = refl

  only_misplaced : (want schema first place : ℕ) (ms : Members) → eqb want 0 ≡ false
      → some (record { place = place; number = not_published }) ≡ sooner (refusal_of (misplaced_number want 0) place) (sooner (members_said version (inner_place 13 first schema) 13 [] ms) none)
  only_misplaced want schema first place ms e = rw (e, no_kind_said schema ms)

  by_shape : (schema want first : ℕ) (ms : Members) (closed : Bool) (lack : Option Defect) (shape : FileShape) (b : Bool) → sound shape b ≡ true → eqb want 0 ≡ passes_over shape → named_in shape ≡ 0
      → ((k : FileKind) → shape ≡ OfKind k → least (missing_defects version k first ms closed) ≡ lack) → (record_in shape ≡ 13 → lack ≡ none)
      → least (defects version schema b shape (Object first ms closed))
      ≡ sooner (placing want (record_in shape) b schema first) (sooner (members_said version (inner_place (record_in shape) first schema) (record_in shape) [] ms) lack)
  unfolding defects
  by_shape schema want first ms closed lack (Single shape) b h e n f g =
      rw (g refl, e, no_kind_said schema ms) (said_unless (is_anything shape) (stands_at b schema first) not_published refl ∙ cases (is_anything shape) (λ a. rw a) (λ a. rw a))
  by_shape schema want first ms closed lack IdOrNull b h e n f g = rw (g refl, not-true b h) (only_misplaced want schema first first ms e)
  by_shape schema want first ms closed lack (Several room each) b h e n f g =
      rw (g refl, not-true b (and_left (not b) (leb room 128 && is_record each) h)) (only_misplaced want schema first first ms e)
  by_shape schema want first ms closed lack (ByName room (OfKind k)) b h e n f g = absurd (eqb-false (100 + kind_number k) 0 (record_some k) n)
  by_shape schema want first ms closed lack (ByName room (Single s)) b h e n f g = absurd (true≢false (sym (and_right (leb room 128) false (and_right (not b) (leb room 128 && false) h))))
  by_shape schema want first ms closed lack (ByName room IdOrNull) b h e n f g = absurd (true≢false (sym (and_right (leb room 128) false (and_right (not b) (leb room 128 && false) h))))
  by_shape schema want first ms closed lack (ByName room (Several m s)) b h e n f g = absurd (true≢false (sym (and_right (leb room 128) false (and_right (not b) (leb room 128 && false) h))))
  by_shape schema want first ms closed lack (ByName room (ByName m s)) b h e n f g = absurd (true≢false (sym (and_right (leb room 128) false (and_right (not b) (leb room 128 && false) h))))
  by_shape schema want first ms closed lack (OfKind k) b h e n f g =
      let o = at_kind_lem k in
      least_append (member_defects version (schema_place k first schema) k (rows_in version k) [] ms) (missing_defects version k first ms closed)
      ∙ rw (f k refl, e, o.below, o.is, schema_by version (kind_number k) k o.is first schema) (sym (sooner_none _))

  object_said_lem : (schema want first : ℕ) (ms : Members) (closed : Bool) (lack : Option Defect) → Meant want → named_at want ≡ 0
      → ((k : FileKind) → OfKindAt (record_at want) k → least (missing_defects version k first ms closed) ≡ lack) → (leb 13 (record_at want) ≡ true → lack ≡ none)
      → least (wanted_defects version schema want (Object first ms closed))
      ≡ sooner (placing want (record_at want) (stands_at_schema want) schema first) (sooner (members_said version (inner_place (record_at want) first schema) (record_at want) [] ms) lack)
  unfolding named_at record_at
  object_said_lem schema want first ms closed lack m n f g =
      by_shape schema want first ms closed lack (shape_of want) (stands_at_schema want) (always_sound want) m.passes n
      (λ k e. f k (subst (λ (j : ℕ). OfKindAt j k) (sym (ap record_in e)) (at_kind_lem k)))
      (λ e. g (ap (leb 13) e))

  -- ---- the whole object

  -- what it lacks is said where it was closed
  abbrev pub closing : ℕ → ℕ → List Bool → Outcome → Outcome
  closing kind first flags o = outcome (sooner o.said (refusal_of (lack_number version kind o.state flags) first)) o.cells o.state o.rest o.count

  lack_none : (kind : ℕ) (flags : List Bool) (first : ℕ) → leb 13 kind ≡ true → refusal_of (lack_number version kind 0 flags) first ≡ none
  lack_none kind flags first e = rw e

  regroup : (s p m l : Option Defect) → sooner s (sooner p (sooner m l)) ≡ sooner (sooner (sooner s p) m) l
  regroup s p m l = sym (sooner_associates s p (sooner m l)) ∙ sym (sooner_associates (sooner s p) m l)

  pub object : (schema want base first : ℕ) (said : Option Defect) (cells : List ℕ) (n : Named) (flags : List Bool) → Meant want → named_at want ≡ 0 → Flagged version (record_at want) flags (names_in [] n)
      → of_value version schema want base said cells (object_at_lem first n)
      ≡ closing (record_at want) first flags
      (of_members version (inner_place (record_at want) first schema) (record_at want) base [] 0 (sooner said (placing want (record_at want) (stands_at_schema want) schema first)) cells n)
  unfolding filled
  object schema want base first said cells (ClosedBy ms ts) flags m e g =
      rw (
        object_said_lem schema want first ms true (refusal_of (lack_number version (record_at want) 0 flags) first) m e
            (λ k o. lack_said_lem (record_at want) k o first ms flags (g.are k o.is)) (lack_none (record_at want) flags first),
        regroup said (placing want (record_at want) (stands_at_schema want) schema first) (members_said version (inner_place (record_at want) first schema) (record_at want) [] ms) (refusal_of (lack_number version (record_at want) 0 flags) first),
        e,
        skips_are (record_at want) ms,
      )
  object schema want base first said cells (OpenBy ms stop) flags m e g =
      rw (
        object_said_lem schema want first ms false none m e (λ k o. refl) (λ z. refl),
        regroup said (placing want (record_at want) (stands_at_schema want) schema first) (members_said version (inner_place (record_at want) first schema) (record_at want) [] ms) none,
        e,
        skips_are (record_at want) ms,
      )
