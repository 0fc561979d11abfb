-- Lists of records, and records under names of their own: as many as there are, and each from its cells what its members say.
use Prim.Native.Nat.{ℕ, suc, ◌+◌, ◌*◌, ◌-◌, ◌≤◌}
use native.Mathlib.Omega.{arith}
use native.Mathlib.Nat.{add-zero}
use mathlib.Core.Path.{◌≡◌, refl, sym, ap, ap₂, subst, ◌∙◌}
use mathlib.Core.Bool.{true, false}
use mathlib.Core.List.{List, [], ◌∷◌, map}
use mathlib.Core.Option.{Option, none, some}
use borrow.Author.Tests.{lt-ltb, leb-true, le-leb, ne_eqb}
use lib.Dec.{eqb, leb}
use lib.ListN.{get_or}
use Rattle.rules.specs.Words.{is_some}
use Rattle.rules.proofs.Checks.{and_left, and_right}
use Rattle.json_rule.specs.Tree.{Json, Scalar, Array, Object, Items, no_item, item, Members, over_capacity}
use Rattle.json_rule.specs.Members.{value_of, members_in, items_in}
use Rattle.json_rule.specs.Records.{records_of}
use Rattle.json_rule.specs.Defects.{unless, count_of}
use Rattle.json_judge.proofs.Right.{both_empty}
use Rattle.json_judge.proofs.Follow.{is_closed, are_closed}
use Rattle.json_store.specs.Made.{counted_up, each}
use Rattle.file_rule.specs.Tables.{FileKind, Several, OfKind}
use Rattle.file_rule.specs.FileDefects.{defects, item_defects}
use Rattle.file_cells.specs.Wants.{kind_number, shape_of, item_in, item_at}
use Rattle.file_cells.specs.Cells.{kind_size, size_of, size_at}
use Rattle.file_cells.specs.Filled.{item_cells}
use Rattle.file_holds.specs.Holds.{Holds, HoldItems}
use Rattle.file_holds.specs.Lexemes.{Every, EveryItem}
use Rattle.file_holds.proofs.Right.{impossible, passed, record_shape}
use Rattle.file_records.specs.Decoded as decoded
use Rattle.file_records.specs.Decoded.{is_there, count_at}
use Rattle.file_decoded.proofs.Reading.{Sound, HeldRecord, record_of_lem, Reading, missing, present}

abbrev items_of : Option Json → Items
items_of o = elim o [ none ↦ no_item | some x ↦ items_in x ]

abbrev pub items_named : List ℕ → Members → Items
items_named name ms = items_of (value_of name ms)

-- the size of a record, by its number
pub record_size : (k : FileKind) → size_at (100 + kind_number k) ≡ kind_size k
unfolding size_at size_of
record_size k = ap size_of (record_shape k)

module _ (version : ℕ) (bs cells : List ℕ) where
  pub count_is : (room list n : ℕ) → get_or cells list 0 ≡ suc n → n ≤ room → count_at cells room list ≡ n
  unfolding count_at
  count_is room list n e h = let p : suc n - 1 ≡ n = omega arith in rw (e, p, le-leb n room h)

  pub none_counted : (room list : ℕ) → get_or cells list 0 ≡ 0 → count_at cells room list ≡ 0
  unfolding count_at
  none_counted room list e = rw (e, le-leb 0 room (omega arith))

  pub is_there_lem : (list n : ℕ) → get_or cells list 0 ≡ suc n → is_there cells list ≡ true
  unfolding is_there
  is_there_lem list n e = rw (e, lt-ltb 0 (suc n) (omega arith))

  pub not_there : (list : ℕ) → get_or cells list 0 ≡ 0 → is_there cells list ≡ false
  unfolding is_there
  not_there list e = rw e

  module _ {A : Type 0} (k : FileKind) (f : ℕ → A) (make : Members → A) (same : (base : ℕ) (ms : Members) → HeldRecord version bs cells k base ms → f base ≡ make ms) where
    -- the elements from so many on
    items_same : (schema list count : ℕ) (xs : Items) → HoldItems version (100 + kind_number k) list count xs cells → item_defects version schema (OfKind k) xs ≡ [] → are_closed xs ≡ true → EveryItem (Sound version bs cells) xs
        → map (λ i. f (decoded.item_at (kind_size k) list i)) (counted_up count (count_of xs)) ≡ records_of make xs
    unfolding Holds defects is_closed Every
    items_same schema list count no_item h d c e = refl
    items_same schema list count (item x xs) h d c e =
        let parts = both_empty (defects version schema false (OfKind k) x) (item_defects version schema (OfKind k) xs) d in
        let s : item_cells list (100 + kind_number k) count ≡ decoded.item_at (kind_size k) list count = ap (λ (n : ℕ). suc list + count * n) (record_size k) in
        ap₂ ◌∷◌
        (ap f (sym s) ∙ same (item_cells list (100 + kind_number k) count) (members_in x) (record_of_lem version bs cells k (100 + kind_number k) (item_cells list (100 + kind_number k) count) schema false x (record_shape k) h.0 parts.0 (and_left (is_closed x) (are_closed xs) c) e.0))
        (items_same schema list (suc count) xs h.1 parts.1 (and_right (is_closed x) (are_closed xs) c) e.1)

    pub list_read : (room : ℕ) (name : List ℕ) (spot list : ℕ) (ms : Members) → shape_of spot ≡ Several room (OfKind k) → Reading version bs cells (Several room (OfKind k)) name spot list ms
        → (each (λ i. f (decoded.item_at (kind_size k) list i)) (count_at cells room list) ≡ records_of make (items_named name ms)) × (is_there cells list ≡ is_some (value_of name ms))
    unfolding defects size_of Holds is_closed Every item_at
    list_read room name spot list ms s (missing e z) =
        let y : get_or cells list 0 ≡ 0 = rw add-zero at (z 0 (omega arith)) in
        (rw (none_counted room list y) (sym (ap (λ (o : Option Json). records_of make (items_of o)) e)), rw (e, not_there list y))
    list_read room name spot list ms s (present (Scalar t) schema of_schema e h d c g) = absurd (impossible d)
    list_read room name spot list ms s (present (Object place ms' closed) schema of_schema e h d c g) = absurd (impossible d)
    list_read room name spot list ms s (present (Array place xs closed) schema of_schema e h d c g) =
        let parts = both_empty (unless (leb (count_of xs) room) place over_capacity) (item_defects version schema (OfKind k) xs) d in
        let l : count_of xs ≤ room = leb-true (count_of xs) room (passed (leb (count_of xs) room) place over_capacity parts.0) in
        let i : item_in (shape_of spot) ≡ 100 + kind_number k = ap item_in s in
        let q = h (ap (λ (n : ℕ). eqb n 0) i ∙ not_zero (kind_number k)) in (
          rw (count_is room list (count_of xs) q.0 l) (items_same schema list 0 xs (subst (λ (n : ℕ). HoldItems version n list 0 xs cells) i q.1) parts.1 (and_right closed (are_closed xs) c) g ∙ sym (ap (λ (o : Option Json). records_of make (items_of o)) e)),
          rw (e, is_there_lem list (count_of xs) q.0),
        )
      where
        not_zero : (n : ℕ) → eqb (100 + n) 0 ≡ false
        not_zero n = ne_eqb (100 + n) 0 (λ e. omega arith)
