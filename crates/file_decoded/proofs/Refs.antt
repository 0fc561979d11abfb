-- The refs of a file from their cells, each with its name, are those that their object says.
use Prim.Native.Nat.{ℕ, suc, ◌+◌, ◌*◌, ◌≤◌}
use native.Mathlib.Omega.{arith}
use native.Mathlib.Nat.{add-zero}
use mathlib.Core.Path.{◌≡◌, refl, sym, ap, ap₂, subst, ◌∙◌}
use mathlib.Core.Bool.{true, false, not, false≢true}
use mathlib.Core.List.{List, [], ◌∷◌, ◌++◌, map}
use mathlib.Core.Option.{Option, none, some}
use borrow.Author.Tests.{leb-true}
use lib.Dec.{eqb, leb}
use lib.ListN.{get_or}
use Rattle.rules.specs.Words.{is_some, or_else}
use Rattle.rules.specs.Capacities.{name_room, ref_room}
use Rattle.rules.proofs.Checks.{and_left, and_right}
use Rattle.json_rule.specs.Lexemes.{Lexeme}
use Rattle.json_rule.specs.Values.{text_of}
use Rattle.json_rule.specs.Tree.{over_capacity, Json, Scalar, Array, Object, Members, no_member, bare_name, member}
use Rattle.json_rule.specs.Members.{value_of, members_in}
use Rattle.json_rule.specs.Records.{reference_of}
use Rattle.json_rule.specs.Shapes.{TextUpTo}
use Rattle.json_rule.specs.Defects.{unless, not_published, with_name, scalar_defects}
use Rattle.json_judge.proofs.Right.{both_empty}
use Rattle.json_judge.proofs.Follow.{is_closed, are_all}
use Rattle.json_store.specs.Made.{counted_up, each}
use Rattle.json_tokens.specs.Tokens.{lexemes_at}
use Rattle.file_rule.specs.Tables.{HeldRef, ByName, OfKind}
use Rattle.file_rule.specs.FileDefects.{is_repeated, members_count, own_name_defects, defects, named_defects}
use Rattle.file_rule.specs.Import.{refs_of}
use Rattle.file_cells.specs.Wants.{shape_of, named_in, named_at}
use Rattle.file_cells.specs.Cells.{size_of}
use Rattle.file_cells.specs.Filled.{named_cells}
use Rattle.file_holds.specs.Holds.{HoldsValue, Holds, HoldNamed}
use Rattle.file_holds.specs.Lexemes.{Every, EveryMember}
use Rattle.file_holds.proofs.Right.{impossible, passed, record_shape}
use Rattle.file_records.specs.Decoded.{is_there, count_at, text_at, item_at, reference_at, ref_at}
use Rattle.file_decoded.proofs.Reading.{is_known, Sound, record_of_lem, Reading, missing, present}
use Rattle.file_decoded.proofs.Scalars.{room_of, said, text_found_lem}
use Rattle.file_decoded.proofs.Lists.{count_is, none_counted, is_there_lem, not_there, record_size}
use Rattle.file_decoded.proofs.References.{reference_same}

abbrev pub members_of : Option Json → Members
members_of o = elim o [ none ↦ no_member | some x ↦ members_in x ]

abbrev pub members_named : List ℕ → Members → Members
members_named name ms = members_of (value_of name ms)

module _ (version : ℕ) (bs cells : List ℕ) (v : is_known version ≡ true) where
  -- a name from its cells
  name_same : (at : ℕ) (t : Lexeme) → HoldsValue at t.first 0 cells → Sound version bs cells t → scalar_defects (TextUpTo name_room) t.first t ≡ [] → text_at bs cells name_room at ≡ or_else (text_of t) []
  name_same at t h f d =
      let s = said version bs cells t at h.0 f in
      let q = room_of name_room t.first t d in
      text_found_lem version bs cells name_room at t f.1.others q.0 s.0 (ap (lexemes_at bs) s.2 ∙ f.1.again) f.0 q.1 q.2 ∙ sym (ap (λ (o : Option (List ℕ)). or_else o []) q.1)

  refs_same : (schema list count : ℕ) (seen : List (List ℕ)) (ms : Members) → HoldNamed version 108 list count ms cells → named_defects version schema (OfKind HeldRef) seen ms ≡ [] → are_all ms ≡ true → EveryMember (Sound version bs cells) ms
      → map (λ i. ref_at bs cells (item_at 12 list i)) (counted_up count (members_count ms)) ≡ refs_of ms
  unfolding Holds defects is_closed Every ref_at
  refs_same schema list count seen no_member h d c e = refl
  refs_same schema list count seen (bare_name t) h d c e = absurd (false≢true c)
  refs_same schema list count seen (member t x ms) h d c e =
      let parts = both_empty (own_name_defects seen t ++ defects version schema false (OfKind HeldRef) x) (named_defects version schema (OfKind HeldRef) (with_name seen (text_of t)) ms) d in
      let more = both_empty (own_name_defects seen t) (defects version schema false (OfKind HeldRef) x) parts.0 in
      let own = both_empty (scalar_defects (TextUpTo name_room) t.first t) (unless (not (is_repeated seen (text_of t))) t.first not_published) more.0 in
      let z : named_cells list 108 count ≡ item_at 12 list count = ap (λ (n : ℕ). suc list + count * (2 + n)) (record_size HeldRef) in
      let at : ℕ = item_at 12 list count in
      let two : 2 + named_cells list 108 count ≡ at + 2 = omega arith in
      let n : text_at bs cells name_room at ≡ or_else (text_of t) [] = name_same at t (subst (λ (a : ℕ). HoldsValue a t.first 0 cells) z h.0) e.0 own.0 in
      let r : reference_at bs cells (at + 2) ≡ reference_of (members_in x) =
      reference_same version bs cells v (at + 2) (members_in x)
      (record_of_lem version bs cells HeldRef 108 (at + 2) schema false x (record_shape HeldRef) (subst (λ (a : ℕ). Holds version 108 a x cells) two h.1) more.1 (and_left (is_closed x) (are_all ms) c) e.1) in
      ap₂ ◌∷◌ (rw (n, r)) (refs_same schema list (suc count) (with_name seen (text_of t)) ms h.2 parts.1 (and_right (is_closed x) (are_all ms) c) e.2)

  pub refs_read : (name : List ℕ) (spot list : ℕ) (ms : Members) → shape_of spot ≡ ByName ref_room (OfKind HeldRef) → Reading version bs cells (ByName ref_room (OfKind HeldRef)) name spot list ms
      → (each (λ i. ref_at bs cells (item_at 12 list i)) (count_at cells ref_room list) ≡ refs_of (members_named name ms)) × (is_there cells list ≡ is_some (value_of name ms))
  unfolding defects size_of Holds is_closed Every named_at
  refs_read name spot list ms s (missing e z) =
      let y : get_or cells list 0 ≡ 0 = rw add-zero at (z 0 (omega arith)) in
      (rw (none_counted version bs cells ref_room list y) (sym (ap (λ (o : Option Json). refs_of (members_of o)) e)), rw (e, not_there version bs cells list y))
  refs_read name spot list ms s (present (Scalar t) schema of_schema e h d c g) = absurd (impossible d)
  refs_read name spot list ms s (present (Array place xs closed) schema of_schema e h d c g) = absurd (impossible d)
  refs_read name spot list ms s (present (Object place us closed) schema of_schema e h d c g) =
      let parts = both_empty (unless (leb (members_count us) ref_room) place over_capacity) (named_defects version schema (OfKind HeldRef) [] us) d in
      let l : members_count us ≤ ref_room = leb-true (members_count us) ref_room (passed (leb (members_count us) ref_room) place over_capacity parts.0) in
      let i : named_in (shape_of spot) ≡ 108 = ap named_in s in
      let q = h.1 (ap (λ (n : ℕ). eqb n 0) i) in (
        rw (count_is version bs cells ref_room list (members_count us) q.0 l)
            (refs_same schema list 0 [] us (subst (λ (n : ℕ). HoldNamed version n list 0 us cells) i q.1) parts.1 (and_right closed (are_all us) c) g ∙ sym (ap (λ (o : Option Json). refs_of (members_of o)) e)),
        rw (e, is_there_lem version bs cells list (members_count us) q.0),
      )
