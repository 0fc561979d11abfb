-- The comparison is exact: no part is reported exactly if the two metadata are equal (`same_exactly`), and what is reported is the first
-- difference in the order of the parts (`first_reported`).
use Prim.Native.Nat.{ℕ, zero, suc, ◌+◌}
use native.Mathlib.Omega.{arith}
use mathlib.Core.Path.{◌≡◌, refl, sym, ap}
use mathlib.Core.Bool.{beq}
use mathlib.Core.List.{List, [], ◌∷◌}
use mathlib.Core.Option.{Option}
use lib.ListN.{take}
use Rattle.rules.specs.Words.{eq_z}
use Rattle.rules.proofs.Orders.{Tells, numbers_told, names_told_lem}
use Rattle.rules.proofs.Checks.{parts as tests, both}
use Rattle.equality.proofs.Told.{counts_told, flags_told, texts_told, snapshots_told, refs_told, log_entries_told, file_entries_told, schemas_told, sort_orders_told, statistics_files_told, partition_specs_told}
use Rattle.records.specs.declared.metadata.TableMetadata.{TableMetadata}
use Rattle.compare.specs.declared.difference.Difference.{Difference}
use Rattle.compare.specs.First.{Part, in_part, first}
use Rattle.compare.specs.Parts.{same_flagged, parts, no_difference, first_difference}
use Rattle.compare.proofs.Places.{FirstPlace, Compared, compared}

-- ---- parts

-- all its records are equal, and so are their counts
abbrev pub Equal : Part → Type 0
Equal p = (p.ours ≡ p.theirs) × (p.our_count ≡ p.their_count)

abbrev pub AllEqual : List Part → Type 0
AllEqual [] = Unit {0}
AllEqual (p ∷ ps) = Equal p × AllEqual ps

-- the first k parts are equal, and the next differs first at the place
abbrev pub Reported : ℕ → ℕ → List Part → Type 0
Reported k at [] = ⊥
Reported zero at (p ∷ ps) = FirstPlace p.ours p.theirs p.our_count p.their_count at
Reported (suc k) at (p ∷ ps) = Equal p × Reported k at ps

abbrev AllTold : List Part → Type 0
AllTold [] = Unit {0}
AllTold (p ∷ ps) = Tells p.same × AllTold ps

-- ---- what is found

-- parts that are numbered from n on are equal, or a difference is reported
data Found (n : ℕ) (ps : List Part) : Difference → Type 0 where
  nowhere : AllEqual ps → Found n ps no_difference
  somewhere : (k part at : ℕ) → part ≡ k + n → Reported k at ps → Found n ps (record { part = part; place = at })

found : (n : ℕ) (ps : List Part) → AllTold ps → Found n ps (first n ps no_difference)
found n [] t = nowhere tt
found n (p ∷ ps) t = here (compared t.0 0 p.ours p.theirs p.our_count p.their_count) (found (suc n) ps t.1)
  where
    later : Equal p → {d : Difference} → Found (suc n) ps d → Found n (p ∷ ps) d
    later e (nowhere es) = nowhere (e, es)
    later e (somewhere k part at q f) = somewhere (suc k) part at (omega arith) (e, f)

    here : {o : Option ℕ} → Compared 0 p.ours p.theirs p.our_count p.their_count o → {d : Difference} → Found (suc n) ps d → Found n (p ∷ ps) (in_part n o d)
    here (Compared.equal e q) f = later (e, q) f
    here (Compared.differs k at q w) f = somewhere 0 n at (omega arith) (let e : at ≡ k = omega arith in rw e w)

-- what is reported differs
differs : (k at : ℕ) (ps : List Part) → Reported k at ps → AllEqual ps → ⊥
differs k at [] r e = r
differs zero at (p ∷ ps) r e = (r.there (ap (take (suc at)) e.0.0)).2 e.0.1
differs (suc k) at (p ∷ ps) r e = differs k at ps r.1 e.1

-- ---- metadata

infixr 67 ◌and◌
◌and◌ : {P Q : Type 0} → P → Q → P × Q
p and q = (p, q)

flagged_told : Tells same_flagged
flagged_told =
    record {
      equal = λ a b e. let k = tests (beq a.0 b.0) (eq_z a.1 b.1 ∷ []) e in λ i. (flags_told.equal a.0 b.0 k.0 i, numbers_told.equal a.1 b.1 k.1.0 i);
      itself = λ a. both (flags_told.itself a.0) (numbers_told.itself a.1);
    }

parts_told : (a b : TableMetadata) → AllTold (parts a b)
unfolding parts
parts_told a b =
    counts_told
    and names_told_lem
    and texts_told
    and numbers_told
    and numbers_told
    and counts_told
    and numbers_told
    and flagged_told
    and snapshots_told
    and refs_told
    and log_entries_told
    and file_entries_told
    and schemas_told
    and numbers_told
    and sort_orders_told
    and numbers_told
    and statistics_files_told
    and statistics_files_told
    and partition_specs_told
    and numbers_told
    and numbers_told
    and tt

only : {A : Type 0} {x y : A} → (x ∷ []) ≡ (y ∷ []) → x ≡ y
only e = cc

-- the parts are all that there is
all_parts : (a b : TableMetadata) → AllEqual (parts a b) → a ≡ b
unfolding parts
all_parts a b e =
    let t = e.1.1.1.1.1.1.1.1 in
    let u = t.1.1.1.1.1.1.1.1.1.1 in
    λ i. record {
      fields = record {
        format_version = only e.0.0 i;
        table_uuid = only e.1.0.0 i;
        location = only e.1.1.0.0 i;
        last_updated_ms = record { 0 = only e.1.1.1.0.0 i };
        last_sequence_number = record { 0 = only e.1.1.1.1.0.0 i };
        next_row_id = record { 0 = only e.1.1.1.1.1.0.0 i };
        last_column_id = record { 0 = only e.1.1.1.1.1.1.0.0 i };
        has_current = (only e.1.1.1.1.1.1.1.0.0 i).0;
        current_snapshot_id = record { 0 = (only e.1.1.1.1.1.1.1.0.0 i).1 };
        current_schema_id = record { 0 = only t.1.1.1.1.1.0.0 i };
        default_sort_order_id = record { 0 = only t.1.1.1.1.1.1.1.0.0 i };
        default_spec_id = record { 0 = only u.1.0.0 i };
        last_partition_id = record { 0 = only u.1.1.0.0 i };
      };
      snapshots = record { items = t.0.0 i; count = t.0.1 i };
      refs = record { items = t.1.0.0 i; count = t.1.0.1 i };
      snapshot_log = record { items = t.1.1.0.0 i; count = t.1.1.0.1 i };
      metadata_log = record { items = t.1.1.1.0.0 i; count = t.1.1.1.0.1 i };
      schemas = record { items = t.1.1.1.1.0.0 i; count = t.1.1.1.1.0.1 i };
      sort_orders = record { items = t.1.1.1.1.1.1.0.0 i; count = t.1.1.1.1.1.1.0.1 i };
      statistics = record { items = t.1.1.1.1.1.1.1.1.0.0 i; count = t.1.1.1.1.1.1.1.1.0.1 i };
      partition_statistics = record { items = t.1.1.1.1.1.1.1.1.1.0.0 i; count = t.1.1.1.1.1.1.1.1.1.0.1 i };
      partition_specs = record { items = u.0.0 i; count = u.0.1 i };
    }

unchanged : {A : Type 0} {xs : List A} {n : ℕ} → (xs ≡ xs) × (n ≡ n)
unchanged = (refl, refl)

itself : (a : TableMetadata) → AllEqual (parts a a)
unfolding parts
itself a =
    unchanged and unchanged and unchanged and unchanged and unchanged and unchanged and unchanged and unchanged
    and unchanged and unchanged and unchanged and unchanged and unchanged and unchanged and unchanged and unchanged and unchanged and unchanged
    and unchanged and unchanged and unchanged
    and tt

-- ---- the theorems

pub same_exactly : (a b : TableMetadata) → ((first_difference a b).part ≡ 0 → a ≡ b) × (a ≡ b → (first_difference a b).part ≡ 0)
unfolding first_difference
same_exactly a b = (to (found 1 (parts a b) (parts_told a b)), λ e. rw (sym e) (from (found 1 (parts a a) (parts_told a a))))
  where
    to : {d : Difference} → Found 1 (parts a b) d → d.part ≡ 0 → a ≡ b
    to (nowhere e) z = all_parts a b e
    to (somewhere k part at q f) z = absurd (omega arith)

    from : {d : Difference} → Found 1 (parts a a) d → d.part ≡ 0
    from (nowhere e) = refl
    from (somewhere k part at q f) = absurd (differs k at (parts a a) f (itself a))

-- the parts before the one that is reported are equal, and that one differs first at the place
pub first_reported : (a b : TableMetadata) (k : ℕ) → (first_difference a b).part ≡ suc k → Reported k (first_difference a b).place (parts a b)
unfolding first_difference
first_reported a b k = go (found 1 (parts a b) (parts_told a b))
  where
    go : {d : Difference} → Found 1 (parts a b) d → d.part ≡ suc k → Reported k d.place (parts a b)
    go (nowhere e) z = absurd (omega arith)
    go (somewhere j part at q f) z = let e : k ≡ j = omega arith in rw e f
