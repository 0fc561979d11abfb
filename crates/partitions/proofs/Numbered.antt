-- The fields of a spec numbered from the front: of each what it gets, and where the next goes on.
use Prim.Native.Nat.{ℕ, suc, ◌+◌, ◌≤◌, ◌<◌}
use native.Mathlib.Omega.{arith}
use native.Mathlib.Numerals.{add-one}
use mathlib.Core.Path.{◌≡◌, refl, sym, ap, ◌∙◌}
use mathlib.Core.Bool.{Bool, true, false, ◌||◌, or-false}
use mathlib.Core.List.{List, [], ◌∷◌, map}
use mathlib.Core.Option.{Option, none, some}
use lib.IntN.{ℤ, pos}
use lib.ListN.{length, get_or, drop, set, length-map, drop_of_length-le}
use lib.Seq.{drop-cons}
use lib.Signed.{lt_z}
use mir.Syntax.{w32}
use mir.Val.{SFits}
use Rattle.records.specs.Blanks.{no_partition_field}
use Rattle.records.specs.declared.counters.FieldId.{FieldId}
use Rattle.records.specs.declared.partition.PartitionField.{PartitionField}
use Rattle.records.specs.declared.partition.PartitionSpec.{PartitionSpec}
use Rattle.rules.specs.Words.{larger, any}
use Rattle.rules.specs.Capacities.{largest_field_id, partition_field_room}
use Rattle.rules.specs.Register as plain
use Rattle.rules.specs.Partitions.{partition_ids}
use Rattle.rules.specs.SpecUpdates.{with_field_id, next_free, numbered, fresh_ids, completed}
use Rattle.rules.specs.Layout.{pad, read_partition_field, laid_partition_field, read_partition_spec, laid_partition_spec}
use Rattle.rules.proofs.Slots.Reread.{reread_partition_spec}
use Rattle.tables.specs.Laid.{LaidSpec}
use Rattle.tables.proofs.Table.{read_length}
use Rattle.tables.proofs.Each.{tidy_partition_spec}
use Rattle.partitions.specs.Numbering.{reached, with_fresh, IsNumbered}
use Rattle.partitions.proofs.Overwritten.{overwritten, overwrite, overwritten_all}

abbrev pub too_large : ℤ → Bool
too_large = lt_z (pos largest_field_id)

-- ---- one field

module _ (taken : List ℤ) (n : ℤ) (f : plain.PartitionField) where
  module _ {id : ℤ} (e : f.id ≡ some id) where
    pub kept_none : any too_large (fresh_ids taken n (f ∷ [])) ≡ false
    unfolding fresh_ids
    kept_none = rw e

    pub kept_number : reached taken n f ≡ larger n id
    kept_number = rw e

    pub kept_field : with_fresh taken n f ≡ f
    kept_field = rw e

  module _ (e : f.id ≡ none) where
    pub new_one : any too_large (fresh_ids taken n (f ∷ [])) ≡ too_large (next_free taken n)
    unfolding fresh_ids
    new_one = rw e (or-false (too_large (next_free taken n)))

    pub new_number : reached taken n f ≡ next_free taken n
    new_number = rw e

    pub new_field : with_fresh taken n f ≡ with_field_id (some (next_free taken n)) f
    new_field = rw e

-- a field as it is laid out, with an id
pub laid_new : (f : PartitionField) (x : FieldId) {z : ℤ} → laid_partition_field (read_partition_field f) ≡ f → x.0 ≡ z
    → record { source_id = f.source_id; field_id = x; buckets = f.buckets; transform = f.transform; has_id = true; name = f.name } ≡ laid_partition_field (with_field_id (some z) (read_partition_field f))
unfolding laid_partition_field
laid_new f x e q =
    λ j. record {
      source_id = f.source_id;
      field_id = record { 0 = q j };
      buckets = f.buckets;
      transform = f.transform;
      has_id = true;
      name = ap (λ (g : PartitionField). g.name) (sym e) j;
    }

-- ---- one field and more

module _ (taken : List ℤ) (n : ℤ) (f : plain.PartitionField) (fs : List plain.PartitionField) where
  numbered_cons : numbered taken n (f ∷ fs) ≡ with_fresh taken n f ∷ numbered taken (reached taken n f) fs
  unfolding numbered
  numbered_cons = go f.id
    where
      go : (o : Option ℤ) → ◌≡◌ {A = List plain.PartitionField}
          (elim o [ none ↦ with_field_id (some (next_free taken n)) f ∷ numbered taken (next_free taken n) fs | some id ↦ f ∷ numbered taken (larger n id) fs ])
          (elim o [ none ↦ with_field_id (some (next_free taken n)) f | some id ↦ f ] ∷ numbered taken (elim o [ none ↦ next_free taken n | some id ↦ larger n id ]) fs)
      go none = refl
      go (some id) = refl

  fresh_cons : any too_large (fresh_ids taken n (f ∷ fs)) ≡ any too_large (fresh_ids taken n (f ∷ [])) || any too_large (fresh_ids taken (reached taken n f) fs)
  unfolding fresh_ids
  fresh_cons = go f.id refl
    where
      go : (o : Option ℤ) → f.id ≡ o → any too_large (fresh_ids taken n (f ∷ fs)) ≡ any too_large (fresh_ids taken n (f ∷ [])) || any too_large (fresh_ids taken (reached taken n f) fs)
      go none e = rw (e, or-false (too_large (next_free taken n)))
      go (some id) e = rw e

numbered_length : (taken : List ℤ) (n : ℤ) (fs : List plain.PartitionField) → length (numbered taken n fs) ≡ length fs
unfolding numbered
numbered_length taken n [] = refl
numbered_length taken n (f ∷ fs) = ap length (numbered_cons taken n f fs) ∙ ap suc (numbered_length taken (reached taken n f) fs)

-- ---- the loop over the fields

-- of the fields the first i have their ids, none of which is too large, and the next goes on from the number
pub record Numbering (taken : List ℤ) (start : ℤ) (fields : List PartitionField) (number : ℤ) (items : List PartitionField) (i : ℕ) : Type 0 where
  pub small : SFits w32 number
  pub over : any too_large (fresh_ids taken start (map read_partition_field fields)) ≡ any too_large (fresh_ids taken number (map read_partition_field (drop i fields)))
  pub left : drop i (numbered taken start (map read_partition_field fields)) ≡ numbered taken number (map read_partition_field (drop i fields))
  pub made : items ≡ overwritten laid_partition_field partition_field_room no_partition_field (numbered taken start (map read_partition_field fields)) (map read_partition_field fields) i

module _ (taken : List ℤ) (start : ℤ) (fields : List PartitionField) where
  abbrev old : List plain.PartitionField
  old = map read_partition_field fields

  abbrev new : List plain.PartitionField
  new = numbered taken start old

  old_long : length old ≡ length fields
  old_long = length-map fields read_partition_field

  new_long : length new ≡ length fields
  new_long = numbered_length taken start old ∙ old_long

  module _ {number : ℤ} {items : List PartitionField} {i : ℕ} (d : PartitionField) (b : i < length fields) (s : Numbering taken start fields number items i) where
    abbrev here : plain.PartitionField
    here = read_partition_field (get_or fields i d)

    rest : map read_partition_field (drop i fields) ≡ here ∷ map read_partition_field (drop (i + 1) fields)
    rest = rw (add-one, drop-cons fields i d b)

    over_here : any too_large (fresh_ids taken start old) ≡ any too_large (fresh_ids taken number (here ∷ [])) || any too_large (fresh_ids taken (reached taken number here) (map read_partition_field (drop (i + 1) fields)))
    over_here = s.over ∙ ap (λ (l : List plain.PartitionField). any too_large (fresh_ids taken number l)) rest ∙ fresh_cons taken number here (map read_partition_field (drop (i + 1) fields))

    -- an id would be too large
    pub numbering_over : any too_large (fresh_ids taken number (here ∷ [])) ≡ true → true ≡ any too_large (fresh_ids taken start old)
    numbering_over e = sym (over_here ∙ rw e)

    left_here_lem : get_or new i here ∷ drop (i + 1) new ≡ with_fresh taken number here ∷ numbered taken (reached taken number here) (map read_partition_field (drop (i + 1) fields))
    left_here_lem =
        let c : drop i new ≡ get_or new i here ∷ drop (i + 1) new = rw add-one (drop-cons new i here (omega (arith, new_long))) in
        sym c ∙ s.left ∙ ap (numbered taken number) rest ∙ numbered_cons taken number here (map read_partition_field (drop (i + 1) fields))

    pub numbering_on : {x : PartitionField} {k : ℤ} → IsNumbered taken number here k x → Numbering taken start fields k (set items i x) (i + 1)
    numbering_on {x} {k} n =
        let q = n.number_value in
        let g : get_or new i here ≡ with_fresh taken number here = cc left_here_lem in
        let r : drop (i + 1) new ≡ numbered taken (reached taken number here) (map read_partition_field (drop (i + 1) fields)) = cc left_here_lem in
        record {
          small = n.number_fits;
          over = over_here ∙ rw (n.fresh_small, q);
          left = r ∙ rw q;
          made = rw (s.made, n.field_value, ← g) (overwrite laid_partition_field partition_field_room no_partition_field new old i here (omega (arith, old_long, new_long)) (omega (arith, old_long)));
        }

  module _ {number : ℤ} {items : List PartitionField} {i : ℕ} (b : length fields ≤ i) (s : Numbering taken start fields number items i) where
    none_left : drop i fields ≡ []
    none_left = drop_of_length-le fields {i = i} b

    pub numbering_none : false ≡ any too_large (fresh_ids taken start old)
    unfolding fresh_ids
    numbering_none = sym (s.over ∙ rw none_left)

    numbering_all : items ≡ pad partition_field_room no_partition_field (map laid_partition_field new)
    numbering_all = s.made ∙ overwritten_all laid_partition_field partition_field_room no_partition_field new old i (omega (arith, new_long)) (omega (arith, old_long))

module _ {p : PartitionSpec} (h : LaidSpec p) {fields : List PartitionField} (f : map read_partition_field fields ≡ (read_partition_spec p).fields) (last : ℤ) where
  pub numbering_start : SFits w32 last → Numbering (partition_ids (read_partition_spec p)) last fields last p.items 0
  numbering_start s = record { small = s; over = refl; left = refl; made = rw f (tidy_partition_spec h).slots }

  pub numbering_end : {number : ℤ} {items : List PartitionField} {i : ℕ} → length fields ≤ i → Numbering (partition_ids (read_partition_spec p)) last fields number items i
      → record { spec_id = p.spec_id; items = items; count = p.count } ≡ laid_partition_spec (completed last (read_partition_spec p))
  unfolding laid_partition_spec completed
  numbering_end b s =
      let n : length (numbered (partition_ids (read_partition_spec p)) last (read_partition_spec p).fields) ≡ p.count = numbered_length (partition_ids (read_partition_spec p)) last (read_partition_spec p).fields ∙ read_length (tidy_partition_spec h) in
      let e = numbering_all (partition_ids (read_partition_spec p)) last fields b s ∙ ap (λ (l : List plain.PartitionField). pad partition_field_room no_partition_field (map laid_partition_field (numbered (partition_ids (read_partition_spec p)) last l))) f in
      λ j. record { spec_id = p.spec_id; items = e j; count = sym n j }

-- a spec that is laid out from as many fields as another has
pub completed_laid : {p r : PartitionSpec} (last : ℤ) → LaidSpec p → r ≡ laid_partition_spec (completed last (read_partition_spec p)) → LaidSpec r
unfolding completed
completed_laid {p} {r} last h e =
    let s : read_partition_spec r ≡ completed last (read_partition_spec p) = ap read_partition_spec e ∙ reread_partition_spec (completed last (read_partition_spec p)) in
    record {
      back = ap laid_partition_spec s ∙ sym e;
      fits = omega (arith, ap (λ (q : plain.PartitionSpec). length q.fields) s, numbered_length (partition_ids (read_partition_spec p)) last (read_partition_spec p).fields, h.fits);
    }
