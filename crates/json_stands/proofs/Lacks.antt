-- A closed object lacks a member that it must have: told of the marks as of the names that were seen.
use Prim.Native.Nat.{ℕ, zero, suc, ◌+◌, ◌-◌, ◌%◌, ◌≤◌}
use mathlib.Core.Path.{◌≡◌, refl, sym, ap, ◌∙◌}
use mathlib.Core.Bool.{Bool, true, false, cond, not, ◌&&◌, ◌||◌}
use mathlib.Core.List.{List, [], ◌∷◌, map}
use mathlib.Core.Option.{Option, none, some}
use native.Mathlib.Omega.{arith}
use Rattle.rules.specs.Words.{all, is_some}
use Rattle.rules.proofs.Checks.{and_left, and_right}
use Rattle.json_rule.specs.Members.{is_one_of}
use Rattle.json_rule.specs.Shapes.{Kind, AnUpdate, ASnapshot, ASchema, AField, AnOrder, ASortField, ASpec, APartitionField, Action, action_name}
use Rattle.json_rule.specs.Defects.{not_published, unless, required_names}
use Rattle.json_judge.specs.Frames.{Seen, names_in, OpenObject, Frame, InObject, has_all, lacking}
use Rattle.json_members.specs.Slots.{seen_in}
use Rattle.json_members.specs.Spots.{row_at, name_at}
use Rattle.json_members.specs.Rows.{action_at, span_of, up_from, through}
use Rattle.json_members.specs.Opening.{slot_of, first_in}
use Rattle.json_members.specs.Marks.{lacking as lackingIn, lacks_any, is_half, lacks_in}
use Rattle.json_members.proofs.Actions.{must_fit}
use Rattle.json_stands.proofs.Marked.{is_marked}
use Rattle.json_stands.proofs.Laid.{State, Sized, laid, seen_laid}
use Rattle.json_stands.proofs.Members.{is_member, MarksSay, before_end, ends_below}
use Rattle.json_stands.proofs.Open.{UpdateSays, update_open, part_open, field_open, Open, nothing, updates, update, ids, part, fields, field, snapshot_ids, schema_ids, spec_ids, Part, snapshot, schema, order, spec, Fields, schema_fields, order_fields, spec_fields}
use Rattle.json_stands.proofs.Spans.{no_span, span_members, span_below}

-- ---- tests

lacks_two : (a b : Bool) → cond a (not b) true ≡ not (a && (b && true))
lacks_two true true = refl
lacks_two true false = refl
lacks_two false b = refl

lacks_one : (a : Bool) → not a ≡ not (a && true)
lacks_one true = refl
lacks_one false = refl

lacks_three : (a b c : Bool) → cond a (cond b (not c) true) true ≡ not (a && (b && (c && true)))
lacks_three true b c = lacks_two b c
lacks_three false b c = refl

lacks_rest : (a b : Bool) → cond a (not b) true ≡ not (a && b)
lacks_rest true b = refl
lacks_rest false b = refl

-- both of two or neither, behind two that are needed
lacks_half_lem : (p : List ℕ → Bool) (a b c d : List ℕ) → cond (p a) (cond (p b) (is_half (p c) (p d)) true) true ≡ not (all p (a ∷ b ∷ cond (p c || p d) (c ∷ d ∷ []) []))
lacks_half_lem p a b c d = go (p a) (p b) (p c) (p d) refl refl
  where
    go : (e f g h : Bool) → p c ≡ g → p d ≡ h → cond e (cond f (is_half g h) true) true ≡ not (e && (f && all p (cond (g || h) (c ∷ d ∷ []) [])))
    go false f g h x y = refl
    go true false g h x y = refl
    go true true true true x y = rw (x, y)
    go true true true false x y = rw (x, y)
    go true true false true x y = rw x
    go true true false false x y = refl

-- ---- by the marks

module _ (marks : List ℕ) (kind : Kind) (seen : List Seen) (says : MarksSay marks kind seen) where
  all_seen : (ms : List ℕ) → all (is_member kind) ms ≡ true → all (is_one_of (names_in seen)) (map name_at ms) ≡ all (is_marked marks) ms
  all_seen [] a = refl
  all_seen (m ∷ ms) a =
      rw (says m (and_left (is_member kind m) (all (is_member kind) ms) a), all_seen ms (and_right (is_member kind m) (all (is_member kind) ms) a))

module _ (s : State) (z : Sized s.held.marks s.held.places) where
  lacks_from : (n m : ℕ) → m + n ≤ 64 → lackingIn n m (laid s) ≡ not (all (is_marked s.held.marks) (up_from m n))
  unfolding lackingIn
  lacks_from zero m h = refl
  lacks_from (suc n) m h =
      rw (seen_laid s z m (omega arith), lacks_from n (suc m) (omega arith))
      (lacks_rest (is_marked s.held.marks m) (all (is_marked s.held.marks) (up_from (suc m) n)))

  -- an object of a kind whose members are required as its rows say
  module _ (kind : Kind) (seen : List Seen) (says : MarksSay s.held.marks kind seen) where
    seen_is : (m : ℕ) → is_member kind m ≡ true → seen_in (laid s) m ≡ is_one_of (names_in seen) (name_at m)
    seen_is m e = seen_laid s z m (omega (arith, before_end kind m e, ends_below kind)) ∙ says m e

    lacks_span : (first to : ℕ) → first + (suc to - first) ≤ 64 → all (is_member kind) (through first to) ≡ true → lacks_any first to (laid s) ≡ not (all (is_one_of (names_in seen)) (map name_at (through first to)))
    lacks_span first to h a = lacks_from (suc to - first) first h ∙ ap not (sym (all_seen s.held.marks kind seen says (through first to) a))

  -- an update: its action, and what that requires
  module _ (us : List Seen) (u : UpdateSays s.held.marks s.held.places us) where
    abbrev kind : ℕ
    kind = s.held.kind % 256

    by_action : (o : Option Action) → action_at kind ≡ o → lacks_any (span_of kind).first (span_of kind).must (laid s) ≡ not (all (is_one_of (names_in us)) (elim o as (λ _. List (List ℕ)) [ none ↦ [] | some a ↦ required_names a.rows ]))
    unfolding lackingIn
    by_action none e = rw (no_span kind (ap is_some e))
    by_action (some a) e = rw (must_fit kind a e) (lacks_span AnUpdate us u.says (span_of kind).first (span_of kind).must (span_below kind) (span_members kind))

    lacks_update : lacks_in 2 (laid s) ≡ not (has_all (update_open s.held us))
    unfolding lacks_in row_at
    lacks_update =
        rw (seen_is AnUpdate us u.says 3 refl, by_action (action_at kind) refl)
        (lacks_rest (is_one_of (names_in us) action_name) (all (is_one_of (names_in us)) (elim (action_at kind) as (λ _. List (List ℕ)) [ none ↦ [] | some a ↦ required_names a.rows ])))

  -- the others
  lacks_part : {w : ℕ} {kind : Kind} → Part w kind → (ps : List Seen) → MarksSay s.held.marks kind ps → lacks_in w (laid s) ≡ not (has_all (part_open s.held kind ps))
  unfolding lacks_in row_at
  lacks_part snapshot ps m =
      rw (seen_is ASnapshot ps m 27 refl, seen_is ASnapshot ps m 30 refl, seen_is ASnapshot ps m 31 refl, seen_is ASnapshot ps m 32 refl)
      (lacks_half_lem (is_one_of (names_in ps)) (name_at 27) (name_at 30) (name_at 31) (name_at 32))
  lacks_part schema ps m = rw (seen_is ASchema ps m 36 refl, seen_is ASchema ps m 38 refl) (lacks_two (is_one_of (names_in ps) (name_at 36)) (is_one_of (names_in ps) (name_at 38)))
  lacks_part order ps m = rw (seen_is AnOrder ps m 44 refl, seen_is AnOrder ps m 45 refl) (lacks_two (is_one_of (names_in ps) (name_at 44)) (is_one_of (names_in ps) (name_at 45)))
  lacks_part spec ps m = rw (seen_is ASpec ps m 52 refl) (lacks_one (is_one_of (names_in ps) (name_at 52)))

  lacks_field : {w room x : ℕ} {each kind : Kind} → Fields w room x each kind → (fs : List Seen) → MarksSay s.held.marks each fs → lacks_in x (laid s) ≡ not (has_all (field_open s.held each kind fs))
  unfolding lacks_in row_at
  lacks_field schema_fields fs m = lacks_span AField fs m 40 43 (omega arith) refl
  lacks_field order_fields fs m = lacks_span ASortField fs m 47 50 (omega arith) refl
  lacks_field spec_fields fs m =
      rw (seen_is APartitionField fs m 54 refl, seen_is APartitionField fs m 56 refl, seen_is APartitionField fs m 57 refl)
      (lacks_three (is_one_of (names_in fs) (name_at 54)) (is_one_of (names_in fs) (name_at 56)) (is_one_of (names_in fs) (name_at 57)))

-- ---- whatever is closed

-- it has all that it must have, or is refused at its bracket
pub record Lacks (f : Frame) (w : ℕ) (s : State) : Type 0 where
  pub has_them : Bool
  pub told : lacks_in w (laid s) ≡ not has_them
  pub said : lacking f ≡ unless has_them (first_in (laid s) w) not_published

module _ (s : State) (z : Sized s.held.marks s.held.places) where
  lacks_nothing : {f : Frame} {w : ℕ} → lacks_in w (laid s) ≡ false → lacking f ≡ [] → Lacks f w s
  lacks_nothing e g = record { has_them = true; told = e; said = g }

  lacks_by : {o : OpenObject} {w : ℕ} → lacks_in w (laid s) ≡ not (has_all o) → first_in (laid s) w ≡ o.place → Lacks (InObject o) w s
  lacks_by {o} e g = record { has_them = has_all o; told = e; said = rw g }

  pub lacks_open : {f : Frame} {fs : List Frame} {w : ℕ} → Open s.held w (f ∷ fs) → Lacks f w s
  unfolding lacks_in slot_of
  lacks_open nothing = lacks_nothing refl refl
  lacks_open updates = lacks_nothing refl refl
  lacks_open (update {us} u) = lacks_by (lacks_update s z us u) refl
  lacks_open (ids snapshot_ids u) = lacks_nothing refl refl
  lacks_open (ids schema_ids u) = lacks_nothing refl refl
  lacks_open (ids spec_ids u) = lacks_nothing refl refl
  lacks_open (part {ps = ps} snapshot m u) = lacks_by (lacks_part s z snapshot ps m) refl
  lacks_open (part {ps = ps} schema m u) = lacks_by (lacks_part s z schema ps m) refl
  lacks_open (part {ps = ps} order m u) = lacks_by (lacks_part s z order ps m) refl
  lacks_open (part {ps = ps} spec m u) = lacks_by (lacks_part s z spec ps m) refl
  lacks_open (fields schema_fields m u) = lacks_nothing refl refl
  lacks_open (fields order_fields m u) = lacks_nothing refl refl
  lacks_open (fields spec_fields m u) = lacks_nothing refl refl
  lacks_open (field {fs = fs} schema_fields a m u) = lacks_by (lacks_field s z schema_fields fs a) refl
  lacks_open (field {fs = fs} order_fields a m u) = lacks_by (lacks_field s z order_fields fs a) refl
  lacks_open (field {fs = fs} spec_fields a m u) = lacks_by (lacks_field s z spec_fields fs a) refl
