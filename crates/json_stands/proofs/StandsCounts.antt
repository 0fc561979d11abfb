-- A value begins: one more element of the innermost list, if it is judged.
use Prim.Native.Nat.{ℕ, suc}
use native.Mathlib.Nat.{suc-ne-zero}
use native.Mathlib.Numerals.{add-one}
use mathlib.Core.Path.{◌≡◌, refl, sym, ap, ◌∙◌}
use mathlib.Core.Bool.{true, false, cond, not}
use mathlib.Core.List.{List, [], ◌∷◌}
use mathlib.Core.Logic.{◌⊎◌}
use mathlib.Core.Option.{Option}
use native.Mathlib.Omega.{arith}
use borrow.Author.Tests.{ne_eqb}
use borrow.Table.Steps.{cases}
use lib.Dec.{eqb, ltb}
use Rattle.rules.specs.Words.{is_some}
use Rattle.rules.specs.Capacities.{schema_field_room, sort_field_room, partition_field_room}
use Rattle.json_rule.specs.Tree.{Defect, over_capacity}
use Rattle.json_rule.specs.Shapes.{ASchema, AField, AnOrder, ASortField, ASpec, APartitionField, i32, i64}
use Rattle.json_rule.specs.Defects.{listing_of}
use Rattle.json_judge.specs.Refusal.{refusing as withDefects}
use Rattle.json_judge.specs.Frames.{OpenList, Frame, Outside, InList, InObject, PassedList, PassedObject, Bracket, bracket_of, counted, count_said}
use Rattle.json_members.specs.Refusing.{refusing}
use Rattle.json_members.specs.Spots.{row_at, shape_at}
use Rattle.json_members.specs.Opening.{slot_of, count_slot, counting_in, counting}
use Rattle.json_stands.proofs.Laid.{Held, hold, State, state, Sized, laid, changed}
use Rattle.json_stands.proofs.Refused.{RefusalIs, Refused, not_refused, refuse_laid}
use Rattle.json_stands.proofs.Open.{updates_open, ids_open, fields_open, Open, nothing, updates, update, ids, part, fields, field, Ids, snapshot_ids, schema_ids, spec_ids, Part, snapshot, schema, order, spec, Fields, schema_fields, order_fields, spec_fields, Passed, here, list, object}
use Rattle.json_stands.proofs.Bits.{bits, bits_with}
use Rattle.json_stands.proofs.Stands.{Frames}

-- the slots are those of a state with the element counted
pub record Counts (f : Frame) (fs : List Frame) (r : Option Defect) (s : State) : Type 0 where
  pub number : ℕ
  pub place : ℕ
  pub held : Held
  pub laid_so : counting (laid s) ≡ laid (changed number place held s)
  pub opens : Open held s.within (counted f ∷ fs)
  pub sized : Sized s.held.marks s.held.places → Sized held.marks held.places
  pub is : RefusalIs number place (withDefects (count_said f) r)

abbrev pub more_updates : Held → Held
more_updates h = hold h.kind h.list h.update h.part h.fields h.field (suc h.updates) h.items h.spare h.marks h.places

abbrev pub more_items : Held → Held
more_items h = hold h.kind h.list h.update h.part h.fields h.field h.updates (suc h.items) h.spare h.marks h.places

full : over_capacity ≡ 0 → ⊥
full e = omega arith

-- a list with its count, and with one more
count_list : (s : State) (l : OpenList) (more : Held) {fs : List Frame} {r : Option Defect} → RefusalIs s.number s.place r
    → counting (laid s) ≡ cond (ltb l.count l.room) (laid (changed s.number s.place more s)) (refusing over_capacity l.place (laid s))
    → Open s.held s.within (InList l ∷ fs)
    → Open more s.within (InList (record { room = l.room; each = l.each; place = l.place; schema = l.schema; count = suc l.count }) ∷ fs)
    → (Sized s.held.marks s.held.places → Sized more.marks more.places)
    → Counts (InList l) fs r s
count_list s l more rf c o a z =
    cases (ltb l.count l.room)
    (λ t. record { number = s.number; place = s.place; held = more; laid_so = c ∙ rw t; opens = rw t a; sized = z; is = rw t rf })
    (λ t. let x = refuse_laid s rf over_capacity l.place full in
    record { number = x.number; place = x.place; held = s.held; laid_so = c ∙ rw t x.laid_so; opens = rw t o; sized = λ y. y; is = rw t x.is })

module _ (e k v n p : ℕ) {r : Option Defect} (rf : RefusalIs n p r) where
  -- no list
  count_none : {h : Held} {w : ℕ} {f : Frame} {fs : List Frame} → is_some (listing_of (shape_at w)) ≡ false → counted f ≡ f → count_said f ≡ [] → Open h w (f ∷ fs) → Counts f fs r (state e k w v 0 n p h)
  unfolding counting
  count_none {h} {fs = fs} z c d o =
      record { number = n; place = p; held = h; laid_so = rw z; opens = rw c o; sized = λ y. y; is = rw d rf }

  count_open : {h : Held} {w : ℕ} {f : Frame} {fs : List Frame} → Open h w (f ∷ fs) → Counts f fs r (state e k w v 0 n p h)
  unfolding counting counting_in count_slot slot_of row_at
  count_open nothing = count_none refl refl refl nothing
  count_open {h} updates = count_list (state e k 1 v 0 n p h) (updates_open h) (more_updates h) rf (rw (add-one h.updates)) updates updates (λ z. z)
  count_open (update u) = count_none refl refl refl (update u)
  count_open {h} (ids snapshot_ids u) = count_list (state e k 8 v 0 n p h) (ids_open h i64) (more_items h) rf (rw (add-one h.items)) (ids snapshot_ids u) (ids snapshot_ids u) (λ z. z)
  count_open {h} (ids schema_ids u) = count_list (state e k 18 v 0 n p h) (ids_open h i32) (more_items h) rf (rw (add-one h.items)) (ids schema_ids u) (ids schema_ids u) (λ z. z)
  count_open {h} (ids spec_ids u) = count_list (state e k 23 v 0 n p h) (ids_open h i32) (more_items h) rf (rw (add-one h.items)) (ids spec_ids u) (ids spec_ids u) (λ z. z)
  count_open (part snapshot m u) = count_none refl refl refl (part snapshot m u)
  count_open (part schema m u) = count_none refl refl refl (part schema m u)
  count_open (part order m u) = count_none refl refl refl (part order m u)
  count_open (part spec m u) = count_none refl refl refl (part spec m u)
  count_open {h} (fields schema_fields m u) = count_list (state e k 38 v 0 n p h) (fields_open h schema_field_room AField ASchema) (more_items h) rf (rw (add-one h.items)) (fields schema_fields m u) (fields schema_fields m u) (λ z. z)
  count_open {h} (fields order_fields m u) = count_list (state e k 45 v 0 n p h) (fields_open h sort_field_room ASortField AnOrder) (more_items h) rf (rw (add-one h.items)) (fields order_fields m u) (fields order_fields m u) (λ z. z)
  count_open {h} (fields spec_fields m u) = count_list (state e k 52 v 0 n p h) (fields_open h partition_field_room APartitionField ASpec) (more_items h) rf (rw (add-one h.items)) (fields spec_fields m u) (fields spec_fields m u) (λ z. z)
  count_open (field schema_fields a m u) = count_none refl refl refl (field schema_fields a m u)
  count_open (field order_fields a m u) = count_none refl refl refl (field order_fields a m u)
  count_open (field spec_fields a m u) = count_none refl refl refl (field spec_fields a m u)

-- ---- in whatever is open

pub record CountsIn (f : Frame) (around : List Frame) (r : Option Defect) (s : State) : Type 0 where
  pub number : ℕ
  pub place : ℕ
  pub held : Held
  pub laid_so : counting (laid s) ≡ laid (changed number place held s)
  pub frames : Frames (counted f) around s.kinds s.within s.wanted s.passed held
  pub is : RefusalIs number place (withDefects (count_said f) r)

counted_bracket : (f : Frame) → bracket_of (counted f) ≡ bracket_of f
counted_bracket Outside = refl
counted_bracket (InList l) = refl
counted_bracket (InObject o) = refl
counted_bracket PassedList = refl
counted_bracket PassedObject = refl

module _ (e n p : ℕ) where
  counts_by : {k w v q : ℕ} {h : Held} {f : Frame} {around js : List Frame} {r : Option Defect} → Passed q (f ∷ around) js → Open h w js → Frames f around k w v q h → RefusalIs n p r → CountsIn f around r (state e k w v q n p h)
  unfolding counting
  counts_by {k} {v = v} {f = f} {around = around} here o fr rf =
      let c = count_open e k v n p rf o in
      record {
        number = c.number;
        place = c.place;
        held = c.held;
        laid_so = c.laid_so;
        frames =
            record {
              judged = counted f ∷ around;
              passing = here;
              opened = c.opens;
              sized = c.sized fr.sized;
              bit = fr.bit ∙ ap (λ (b : Bracket). bits_with b (bits around)) (sym (counted_bracket f));
              depth = fr.depth;
              idle = fr.idle;
            };
        is = c.is;
      }
  counts_by {h = h} (list {q = q} y) o fr rf =
      record { number = n; place = p; held = h; laid_so = rw (ne_eqb (suc q) 0 (suc-ne-zero q)); frames = fr; is = rf }
  counts_by {h = h} (object {q = q} y) o fr rf =
      record { number = n; place = p; held = h; laid_so = rw (ne_eqb (suc q) 0 (suc-ne-zero q)); frames = fr; is = rf }

pub counts : {f : Frame} {around : List Frame} {r : Option Defect} (s : State) → Frames f around s.kinds s.within s.wanted s.passed s.held → RefusalIs s.number s.place r → CountsIn f around r s
counts s fr rf = counts_by s.expect s.number s.place fr.passing fr.opened fr rf
