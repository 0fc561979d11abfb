-- An object that is closed and lacks nothing has its required members, by its marks.
use Prim.Native.Nat.{ℕ, zero, suc, ◌-◌, ◌<◌}
use mathlib.Core.Path.{◌≡◌, refl, sym, ap, ◌∙◌}
use mathlib.Core.Bool.{Bool, true, false, cond, not, ◌&&◌, true≢false}
use mathlib.Core.List.{List}
use native.Mathlib.Omega.{arith}
use borrow.Table.Steps.{cases}
use Rattle.rules.specs.Words.{all}
use Rattle.json_rule.specs.Shapes.{Kind, AnUpdate, ASnapshot, ASchema, AField, AnOrder, ASortField, ASpec, APartitionField}
use Rattle.json_members.specs.Slots.{kind_in, seen_in}
use Rattle.json_members.specs.Rows.{span_of, up_from, through}
use Rattle.json_members.specs.Marks.{lacking, is_half, lacks_in}
use Rattle.json_stands.proofs.Marked.{is_marked}
use Rattle.json_stands.proofs.Laid.{State, Sized, laid, seen_laid}
use Rattle.json_stands.proofs.Open.{Part, snapshot, schema, order, spec, Fields, schema_fields, order_fields, spec_fields}
use Rattle.json_gather.proofs.Claims.{Complete}

-- ---- tests

both_there : (a b : Bool) → cond a (not b) true ≡ false → a && (b && true) ≡ true
both_there true true e = refl
both_there true false e = absurd (true≢false e)
both_there false b e = absurd (true≢false e)

one_there : (a : Bool) → not a ≡ false → a && true ≡ true
one_there true e = refl
one_there false e = absurd (true≢false e)

three_there : (a b c : Bool) → cond a (cond b (not c) true) true ≡ false → a && (b && (c && true)) ≡ true
three_there true b c e = both_there b c e
three_there false b c e = absurd (true≢false e)

four_there : (a b c d : Bool) → cond a (cond b (cond c (cond d false true) true) true) true ≡ false → a && (b && (c && (d && true))) ≡ true
four_there true true true true e = refl
four_there true true true false e = absurd (true≢false e)
four_there true true false d e = absurd (true≢false e)
four_there true false c d e = absurd (true≢false e)
four_there false b c d e = absurd (true≢false e)

-- two that are required, and both of two others or neither
snapshot_there : (a b c d : Bool) → cond a (cond b (is_half c d) true) true ≡ false → (a && (b && true) ≡ true) × (c ≡ d)
snapshot_there true true true true e = (refl, refl)
snapshot_there true true true false e = absurd (true≢false e)
snapshot_there true true false true e = absurd (true≢false e)
snapshot_there true true false false e = (refl, refl)
snapshot_there true false c d e = absurd (true≢false e)
snapshot_there false b c d e = absurd (true≢false e)

abbrev is_snapshot : Kind → Bool
is_snapshot kind = elim kind [ AnUpdate ↦ false | ASnapshot ↦ true | ASchema ↦ false | AField ↦ false | AnOrder ↦ false | ASortField ↦ false | ASpec ↦ false | APartitionField ↦ false ]

-- of what is no snapshot nothing more is asked
no_halves : (kind : Kind) (marks : List ℕ) → is_snapshot kind ≡ false → kind ≡ ASnapshot → is_marked marks 31 ≡ is_marked marks 32
no_halves kind marks n e = absurd (true≢false (sym (ap is_snapshot e) ∙ n))

module _ (s : State) (z : Sized s.held.marks s.held.places) where
  abbrev marks : List ℕ
  marks = s.held.marks

  sees : (m : ℕ) → m < 64 → seen_in (laid s) m ≡ is_marked marks m
  sees m h = seen_laid s z m h

  pub part_complete : {w : ℕ} {kind : Kind} → Part w kind → lacks_in w (laid s) ≡ false → Complete kind marks
  unfolding lacks_in
  part_complete snapshot e =
      let t = snapshot_there (is_marked marks 27) (is_marked marks 30) (is_marked marks 31) (is_marked marks 32) (rw (sees 27 (omega arith), sees 30 (omega arith), sees 31 (omega arith), sees 32 (omega arith)) at e) in
      record { required = t.0; halves = λ _. t.1 }
  part_complete schema e =
      record { required = both_there (is_marked marks 36) (is_marked marks 38) (rw (sees 36 (omega arith), sees 38 (omega arith)) at e); halves = no_halves ASchema marks refl }
  part_complete order e =
      record { required = both_there (is_marked marks 44) (is_marked marks 45) (rw (sees 44 (omega arith), sees 45 (omega arith)) at e); halves = no_halves AnOrder marks refl }
  part_complete spec e = record { required = one_there (is_marked marks 52) (rw (sees 52 (omega arith)) at e); halves = no_halves ASpec marks refl }

  pub field_complete : {w room x : ℕ} {each kind : Kind} → Fields w room x each kind → lacks_in x (laid s) ≡ false → Complete each marks
  unfolding lacks_in lacking
  field_complete schema_fields e =
      record {
        required = four_there (is_marked marks 40) (is_marked marks 41) (is_marked marks 42) (is_marked marks 43) (rw (sees 40 (omega arith), sees 41 (omega arith), sees 42 (omega arith), sees 43 (omega arith)) at e);
        halves = no_halves AField marks refl;
      }
  field_complete order_fields e =
      record {
        required = four_there (is_marked marks 47) (is_marked marks 48) (is_marked marks 49) (is_marked marks 50) (rw (sees 47 (omega arith), sees 48 (omega arith), sees 49 (omega arith), sees 50 (omega arith)) at e);
        halves = no_halves ASortField marks refl;
      }
  field_complete spec_fields e =
      record {
        required = three_there (is_marked marks 54) (is_marked marks 56) (is_marked marks 57) (rw (sees 54 (omega arith), sees 56 (omega arith), sees 57 (omega arith)) at e);
        halves = no_halves APartitionField marks refl;
      }

-- of an update its action, and what that requires
lacks_none : (n m : ℕ) (slots : List ℕ) → lacking n m slots ≡ false → all (seen_in slots) (up_from m n) ≡ true
unfolding lacking
lacks_none zero m slots e = refl
lacks_none (suc n) m slots e =
    cases (seen_in slots m)
    (λ t. rw t (lacks_none n (suc m) slots (rw t at e)))
    (λ f. absurd (true≢false (rw f at e)))

pub record UpdateWhole (slots : List ℕ) : Type 0 where
  pub action : seen_in slots 3 ≡ true
  pub required : all (seen_in slots) (through (span_of (kind_in slots)).first (span_of (kind_in slots)).must) ≡ true

pub update_complete : (slots : List ℕ) → lacks_in 2 slots ≡ false → UpdateWhole slots
unfolding lacks_in
update_complete slots e = by_action (seen_in slots 3) refl e
  where
    by_action : (b : Bool) → seen_in slots 3 ≡ b → cond b (lacking (suc (span_of (kind_in slots)).must - (span_of (kind_in slots)).first) (span_of (kind_in slots)).first slots) true ≡ false → UpdateWhole slots
    by_action true q e = record { action = q; required = lacks_none (suc (span_of (kind_in slots)).must - (span_of (kind_in slots)).first) (span_of (kind_in slots)).first slots e }
    by_action false q e = absurd (true≢false e)
