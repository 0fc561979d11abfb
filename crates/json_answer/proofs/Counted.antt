-- How many updates the judge has counted, against how many were sent, where nothing is refused: as many between updates, one more within one.
use Prim.Native.Nat.{ℕ, zero, suc, ◌≤◌}
use native.Mathlib.Omega.{arith}
use mathlib.Core.Path.{◌≡◌, refl, sym, ap, ◌∙◌}
use mathlib.Core.Bool.{Bool, true, false, cond, true≢false}
use mathlib.Core.List.{List, ◌∷◌}
use mathlib.Core.Logic.{◌⊎◌, ⊎_elim}
use mathlib.Core.Option.{some}
use borrow.Author.Tests.{ne_eqb}
use lib.Dec.{eqb, ltb}
use Rattle.rules.specs.Words.{is_some}
use Rattle.json_rule.specs.Lexemes.{Lexeme}
use Rattle.json_rule.specs.Shapes.{Kind}
use Rattle.json_rule.specs.Defects.{listing_of, kind_of}
use Rattle.json_judge.specs.Frames.{Frame, Outside, InList, OpenList, ObjectBracket, ListBracket, bracket_of}
use Rattle.json_judge.specs.Course.{Happening}
use Rattle.json_members.specs.Spots.{row_at, shape_at, item_at, around_at, room_in}
use Rattle.json_members.specs.Faults.{fault_of}
use Rattle.json_stands.proofs.Laid.{Held, State, changed}
use Rattle.json_stands.proofs.Open.{snapshot_ids, schema_ids, spec_ids, snapshot, schema, order, spec, schema_fields, order_fields, spec_fields, Open, nothing, updates, update, ids, part, fields, field, Passed, here, list, object}
use Rattle.json_stands.proofs.Stands.{parent_of, Frames}
use Rattle.json_stands.proofs.Holds.{count_in, one_more}
use Rattle.json_stands.proofs.Begins.{held_then, in_judged_list, in_judged_object}
use Rattle.json_stands.proofs.Begun.{ListBegun, the_updates, some_ids, some_fields, ObjectBegun, an_update, a_part, a_field}
use Rattle.json_stands.proofs.StandsScalars.{behind as afterScalar}
use Rattle.json_stands.proofs.StandsEnds.{left}
use Rattle.json_stands.proofs.Took as took
use Rattle.json_stands.proofs.Took.{Took, ListEntered, ObjectEntered, ScalarRight, Elements}

-- ---- where an open list or object is

pub data Stays (h : Held) (w : ℕ) (f : Frame) : Type 0 where
  outside : w ≡ 0 → f ≡ Outside → Stays h w f
  in_updates : {l : OpenList} → w ≡ 1 → f ≡ InList l → Stays h w f
  in_update : w ≡ 2 → Stays h w f
  deeper : 3 ≤ w → 2 ≤ around_at w → Stays h w f

pub stays_where : {h : Held} {w : ℕ} {f : Frame} {fs : List Frame} → Open h w (f ∷ fs) → Stays h w f
unfolding around_at
stays_where nothing = outside refl refl
stays_where updates = in_updates refl refl
stays_where (update u) = in_update refl
stays_where (ids snapshot_ids u) = deeper (omega arith) (omega arith)
stays_where (ids schema_ids u) = deeper (omega arith) (omega arith)
stays_where (ids spec_ids u) = deeper (omega arith) (omega arith)
stays_where (part snapshot m u) = deeper (omega arith) (omega arith)
stays_where (part schema m u) = deeper (omega arith) (omega arith)
stays_where (part order m u) = deeper (omega arith) (omega arith)
stays_where (part spec m u) = deeper (omega arith) (omega arith)
stays_where (fields schema_fields m u) = deeper (omega arith) (omega arith)
stays_where (fields order_fields m u) = deeper (omega arith) (omega arith)
stays_where (fields spec_fields m u) = deeper (omega arith) (omega arith)
stays_where (field schema_fields a m u) = deeper (omega arith) (omega arith)
stays_where (field order_fields a m u) = deeper (omega arith) (omega arith)
stays_where (field spec_fields a m u) = deeper (omega arith) (omega arith)

-- where nothing is passed over, it is the innermost one
all_judged : {q : ℕ} {fs js : List Frame} → q ≡ 0 → Passed q fs js → js ≡ fs
all_judged e here = refl
all_judged e (list y) = absurd (omega arith)
all_judged e (object y) = absurd (omega arith)

pub frames_where : {f : Frame} {around : List Frame} {kinds w v q : ℕ} {h : Held} → Frames f around kinds w v q h → q ≡ 0 → Stays h w f
frames_where {f} {around} {w = w} {h = h} fr e =
    let o : Open h w (f ∷ around) = rw (all_judged e fr.passing) at fr.opened in
    stays_where o

-- ---- how many are counted

-- within an update
pub record Inside (s : State) (n : ℕ) : Type 0 where
  pub live : s.expect ≤ 5
  pub deep : 2 ≤ s.within
  pub more : s.held.updates ≡ suc n
  pub room : suc n ≤ 64

-- before the list; where an update may come; behind one, or behind the list
pub data Counted (s : State) (n : ℕ) : Type 0 where
  first : s.expect ≡ 0 → s.within ≡ 0 → s.wanted ≡ 1 → s.passed ≡ 0 → n ≡ 0 → Counted s n
  item : s.expect ≤ 1 → s.within ≡ 1 → s.wanted ≡ 2 → s.passed ≡ 0 → s.held.updates ≡ n → Counted s n
  behind : s.expect ≡ 5 → s.within ≤ 1 → s.passed ≡ 0 → s.held.updates ≡ n → Counted s n
  inside : Inside s n → Counted s n

-- what a lexeme does to them: nothing, but where an update ends
pub data CountsOn (s to : State) (done n : ℕ) : Type 0 where
  same : (done ≡ 2 → ⊥) → Counted to n → CountsOn s to done n
  more : done ≡ 2 → to.held.updates ≡ suc n → suc n ≤ 64 → Counted to (suc n) → CountsOn s to done n

not_two : ◌≡◌ {A = ℕ} 0 2 → ⊥
not_two e = omega arith

-- ---- what is held

-- outside the list of updates these are not counted
then_same : (s : State) → (s.within ≡ 1 → ⊥) → (held_then s).updates ≡ s.held.updates
then_same s n = by (eqb s.passed 0) (is_some (listing_of (shape_at s.within))) (ltb (count_in s.within s.held) (room_in (listing_of (shape_at s.within))))
  where
    by : (b c d : Bool) → (cond b (cond c (cond d (one_more s.within s.held) s.held) s.held) s.held).updates ≡ s.held.updates
    by true true true = rw (ne_eqb s.within 1 n)
    by true true false = refl
    by true false d = refl
    by false c d = refl

list_updates : {at v : ℕ} {h g : Held} → ListBegun at h v g → (v ≡ 1 → ⊥) → g.updates ≡ h.updates
list_updates the_updates n = absurd (n refl)
list_updates (some_ids i) n = refl
list_updates (some_fields i) n = refl

first_updates : {at v : ℕ} {h g : Held} → ListBegun at h v g → v ≡ 1 → g.updates ≡ 0
first_updates the_updates e = refl
first_updates (some_ids snapshot_ids) e = absurd (omega arith)
first_updates (some_ids schema_ids) e = absurd (omega arith)
first_updates (some_ids spec_ids) e = absurd (omega arith)
first_updates (some_fields schema_fields) e = absurd (omega arith)
first_updates (some_fields order_fields) e = absurd (omega arith)
first_updates (some_fields spec_fields) e = absurd (omega arith)

object_updates : {at v : ℕ} {h g : Held} → ObjectBegun at h v g → g.updates ≡ h.updates
object_updates an_update = refl
object_updates (a_part i) = refl
object_updates (a_field i) = refl

-- ---- spots

-- the outermost value and the list stand in no update
spot_inside : (v : ℕ) → 2 ≤ parent_of v → 2 ≤ v
unfolding parent_of
spot_inside zero h = absurd (omega arith)
spot_inside (suc zero) h = absurd (omega arith)
spot_inside (suc (suc v)) h = omega arith

-- an update is no list and no scalar, the list no object
update_no_list : is_some (listing_of (shape_at 2)) ≡ true → ⊥
unfolding row_at
update_no_list e = true≢false (sym e)

list_no_object : {kind : Kind} → kind_of (shape_at 1) ≡ some kind → ⊥
unfolding row_at
list_no_object e = true≢false (sym (ap is_some e))

update_no_scalar : (t : Lexeme) → fault_of (shape_at 2) t ≡ 0 → ⊥
unfolding row_at fault_of
update_no_scalar t e = omega arith

list_no_scalar : (t : Lexeme) → fault_of (shape_at 1) t ≡ 0 → ⊥
unfolding row_at fault_of
list_no_scalar t e = omega arith

updates_list : is_some (listing_of (shape_at 1)) ≡ true
unfolding row_at
updates_list = refl

updates_room : room_in (listing_of (shape_at 1)) ≡ 64
unfolding row_at
updates_room = refl

update_item : item_at 1 ≡ 2
unfolding item_at
update_item = refl

outside_around : around_at 0 ≡ 0
unfolding around_at
outside_around = refl

updates_around : around_at 1 ≡ 0
unfolding around_at
updates_around = refl

update_around : around_at 2 ≡ 1
unfolding around_at
update_around = refl

-- ---- within an update

-- from one place in it to another
go_inside : {s : State} {n : ℕ} → Inside s n → (to : State) → to.expect ≤ 5 → 2 ≤ to.within → to.held.updates ≡ s.held.updates → Counted to n
go_inside i to e w u = inside (record { live = e; deep = w; more = u ∙ i.more; room = i.room })

module _ {s : State} {n : ℕ} where
  -- a name, or what is behind it
  pub inside_name : Counted s n → 2 ≤ s.expect → s.expect ≤ 4 → Inside s n
  inside_name (first e w v q u) l h = absurd (omega arith)
  inside_name (item e w v q u) l h = absurd (omega arith)
  inside_name (behind e w q u) l h = absurd (omega arith)
  inside_name (inside i) l h = i

  -- a value that is passed over
  inside_any : Counted s n → s.expect ≤ 1 → s.wanted ≡ 0 → Inside s n
  inside_any (first e w v q u) l h = absurd (omega arith)
  inside_any (item e w v q u) l h = absurd (omega arith)
  inside_any (behind e w q u) l h = absurd (omega arith)
  inside_any (inside i) l h = i

  -- behind the end of what is passed over
  inside_passed : Counted s n → (s.passed ≡ 0 → ⊥) → Inside s n
  inside_passed (first e w v q u) h = absurd (h q)
  inside_passed (item e w v q u) h = absurd (h q)
  inside_passed (behind e w q u) h = absurd (h q)
  inside_passed (inside i) h = i

  -- reading has not stopped
  pub live : Counted s n → s.expect ≤ 5
  live (first e w v q u) = omega arith
  live (item e w v q u) = omega arith
  live (behind e w q u) = omega arith
  live (inside i) = i.live

  inside_deep : Counted s n → 2 ≤ s.within → Inside s n
  inside_deep (first e w v q u) l = absurd (omega arith)
  inside_deep (item e w v q u) l = absurd (omega arith)
  inside_deep (behind e w q u) l = absurd (omega arith)
  inside_deep (inside i) l = i

  then_inside : Inside s n → (held_then s).updates ≡ s.held.updates
  then_inside i = then_same s (λ e. omega (arith, i.deep))

value_may : (s : State) → took.ValueMay s → s.expect ≤ 1
value_may s v = ⊎_elim (λ a. omega arith) (λ b. omega arith) v

name_low : (s : State) → took.NameMay s → 2 ≤ s.expect
name_low s v = ⊎_elim (λ a. omega arith) (λ b. omega arith) v

name_high : (s : State) → took.NameMay s → s.expect ≤ 4
name_high s v = ⊎_elim (λ a. omega arith) (λ b. omega arith) v

end_may : (s : State) → took.EndMay s → 1 ≤ s.expect
end_may s v = ⊎_elim (λ a. omega arith) (λ b. ⊎_elim (λ c. omega arith) (λ d. omega arith) b) v

-- ---- which bracket is open around updates

no_object : {h : Held} {w : ℕ} {f : Frame} → Stays h w f → w ≤ 1 → bracket_of f ≡ ObjectBracket → ⊥
no_object (outside e g) h b = let c : ◌≡◌ {A = ℕ} 0 1 = cc in omega arith
no_object (in_updates e g) h b = let c : ◌≡◌ {A = ℕ} 0 1 = cc in omega arith
no_object (in_update e) h b = omega arith
no_object (deeper e d) h b = omega arith

in_list_lem : {h : Held} {w : ℕ} {f : Frame} → Stays h w f → w ≤ 1 → bracket_of f ≡ ListBracket → w ≡ 1
in_list_lem (outside e g) h b = let c : ◌≡◌ {A = ℕ} 0 1 = cc in absurd (omega arith)
in_list_lem (in_updates e g) h b = e
in_list_lem (in_update e) h b = absurd (omega arith)
in_list_lem (deeper e d) h b = absurd (omega arith)

-- ---- lexeme by lexeme

module _ (s : State) {n : ℕ} where
  comma_name_lem : {f : Frame} {around : List Frame} → Frames f around s.kinds s.within s.wanted s.passed s.held → Counted s n → s.expect ≡ 5 → bracket_of f ≡ ObjectBracket → Counted (took.moved 2 s.wanted s) n
  comma_name_lem fr (first e w v q u) x b = absurd (omega arith)
  comma_name_lem fr (item e w v q u) x b = absurd (omega arith)
  comma_name_lem fr (behind e w q u) x b = absurd (no_object (frames_where fr q) w b)
  comma_name_lem fr (inside i) x b = go_inside i (took.moved 2 s.wanted s) (omega arith) i.deep refl

  comma_item_lem : {f : Frame} {around : List Frame} {v : ℕ} → Frames f around s.kinds s.within s.wanted s.passed s.held → Counted s n → s.expect ≡ 5 → bracket_of f ≡ ListBracket → took.NextItem s v → Counted (took.moved 0 v s) n
  comma_item_lem fr (first e w v q u) x b y = absurd (omega arith)
  comma_item_lem fr (item e w v q u) x b y = absurd (omega arith)
  comma_item_lem fr (behind e w q u) x b y =
      let one = in_list_lem (frames_where fr q) w b in
      item (omega arith) one ((y.judged q).0 ∙ (ap item_at one ∙ update_item)) q u
  comma_item_lem {v = v} fr (inside i) x b y = go_inside i (took.moved 0 v s) (omega arith) i.deep refl

  list_counts : {at k p : ℕ} {g : Held} → Counted s n → s.expect ≤ 1 → ListEntered s at g → Counted (in_judged_list k p g s) n
  list_counts (first e w v q u) l x = item (omega arith) v (ap item_at v ∙ update_item) q (first_updates x.begun v ∙ sym u)
  list_counts (item e w v q u) l x = absurd (update_no_list (rw v at x.is_list))
  list_counts (behind e w q u) l x = absurd (omega arith)
  list_counts {k = k} {p = p} {g = g} (inside i) l x =
      let d : 2 ≤ s.wanted = spot_inside s.wanted (rw x.in_place.parent i.deep) in
      go_inside i (in_judged_list k p g s) (omega arith) d (list_updates x.begun (λ e. omega arith) ∙ then_inside i)

  -- an update, or an object in one
  object_counts : {at k p : ℕ} {g : Held} → Counted s n → s.expect ≤ 1 → ObjectEntered s at g → Counted (in_judged_object k p g s) n
  object_counts (first e w v q u) l x = absurd (list_no_object (rw v at x.is_object))
  object_counts {g = g} (item e w v q u) l x =
      let y : Elements 1 s.held g = rw w at (x.elements (rw w updates_list)) in
      inside (record { live = omega arith; deep = omega arith; more = y.more ∙ ap suc u; room = omega (arith, y.room, updates_room) })
  object_counts (behind e w q u) l x = absurd (omega arith)
  object_counts {k = k} {p = p} {g = g} (inside i) l x =
      let d : 2 ≤ s.wanted = spot_inside s.wanted (rw x.in_place.parent i.deep) in
      go_inside i (in_judged_object k p g s) (omega arith) d (object_updates x.begun ∙ then_inside i)

  -- a value that is right stands in no list of updates
  scalar_counts : {k p : ℕ} {t : Lexeme} → Counted s n → s.expect ≤ 1 → ScalarRight s t → Counted (changed k p (held_then s) (afterScalar s)) n
  scalar_counts {t = t} (first e w v q u) l x = absurd (list_no_scalar t (rw v at x.right))
  scalar_counts {t = t} (item e w v q u) l x = absurd (update_no_scalar t (rw v at x.right))
  scalar_counts (behind e w q u) l x = absurd (omega arith)
  scalar_counts {k} {p} (inside i) l x = go_inside i (changed k p (held_then s) (afterScalar s)) (omega arith) i.deep (then_inside i)

  -- the end of the list, or of what is around it
  left_outside : {k p : ℕ} → Counted s n → 1 ≤ s.expect → s.within ≤ 1 → around_at s.within ≡ 0 → Counted (left k p s) n
  left_outside (first e w v q u) l h a = absurd (omega arith)
  left_outside (item e w v q u) l h a = behind refl (omega arith) refl u
  left_outside (behind e w q u) l h a = behind refl (omega arith) refl u
  left_outside (inside i) l h a = absurd (omega (arith, i.deep))

  closes_counts : {k p : ℕ} {f : Frame} → Counted s n → 1 ≤ s.expect → Stays s.held s.within f → CountsOn s (left k p s) s.within n
  closes_counts c l (outside e g) = same (λ h. omega arith) (left_outside c l (omega arith) (ap around_at e ∙ outside_around))
  closes_counts c l (in_updates e g) = same (λ h. omega arith) (left_outside c l (omega arith) (ap around_at e ∙ updates_around))
  closes_counts c l (in_update e) =
      let i = inside_deep c (omega arith) in
      more e i.more i.room (behind refl (omega (arith, ap around_at e ∙ update_around)) refl i.more)
  closes_counts {k} {p} c l (deeper e d) = same (λ h. omega arith) (go_inside (inside_deep c (omega arith)) (left k p s) (omega arith) d refl)

scalar_done : (s : State) {t : Lexeme} → ScalarRight s t → s.wanted ≡ 2 → ⊥
scalar_done s {t} x v = update_no_scalar t (rw v at x.right)

-- ---- one lexeme

-- it stays within an update
stay_inside : {s : State} {n done : ℕ} → Inside s n → (to : State) → (done ≡ 2 → ⊥) → to.expect ≤ 5 → to.within ≡ s.within → to.held.updates ≡ s.held.updates → CountsOn s to done n
stay_inside i to d e w u = same d (go_inside i to e (rw w i.deep) u)

module _ {s : State} {n : ℕ} {t : Lexeme} {f : Frame} {around : List Frame} (fr : Frames f around s.kinds s.within s.wanted s.passed s.held) (c : Counted s n) where
  pub counts_on : {to : State} {done : ℕ} {hs : List Happening} → Took s t f around to done hs → CountsOn s to done n
  counts_on (took.stays e) = absurd (omega (arith, live c))
  counts_on (took.colon e) = stay_inside (inside_name c (omega arith) (omega arith)) _ not_two (omega arith) refl refl
  counts_on (took.comma_name e b) = same not_two (comma_name_lem s fr c e b)
  counts_on (took.comma_item e b y) = same not_two (comma_item_lem s fr c e b y)
  counts_on (took.name e m) = stay_inside (inside_name c (name_low s e) (name_high s e)) _ not_two (omega arith) refl refl
  counts_on (took.name_passed e m) = stay_inside (inside_name c (name_low s e) (name_high s e)) _ not_two (omega arith) refl refl
  counts_on (took.list e y) = same not_two (list_counts s c (value_may s e) y)
  counts_on (took.object e y) = same not_two (object_counts s c (value_may s e) y)
  counts_on (took.list_passed e v y) = let i = inside_any c (value_may s e) v in stay_inside i _ not_two (omega arith) refl (then_inside i)
  counts_on (took.object_passed e v y) = let i = inside_any c (value_may s e) v in stay_inside i _ not_two (omega arith) refl (then_inside i)
  counts_on (took.scalar_any e v y) = let i = inside_any c (value_may s e) v in stay_inside i _ not_two (omega arith) refl (then_inside i)
  counts_on (took.action y k) = let i = inside_deep c (omega (arith, y.object)) in stay_inside i _ not_two (omega arith) refl (then_inside i)
  counts_on (took.scalar e y) = same (scalar_done s y) (scalar_counts s c (value_may s e) y)
  counts_on (took.closes e y) = closes_counts s c (end_may s e) (stays_where y.opened)
  counts_on (took.closes_passed e y) = stay_inside (inside_passed c y) _ not_two (omega arith) refl refl
