-- The course over the lexemes is the course over the tree that the rule reads from them, and stops where the rule stops: one lemma a production.
use Prim.Native.Nat.{ℕ, zero, suc, ◌+◌, ◌*◌, ◌≤◌, ◌<◌}
use native.Mathlib.Omega.{arith}
use mathlib.Core.Path.{◌≡◌, refl, ap, ◌∙◌}
use mathlib.Core.Bool.{Bool, true, false, cond, ◌&&◌}
use mathlib.Core.List.{List, [], ◌∷◌, ◌++◌}
use borrow.Table.Steps.{cases}
use borrow.Author.Tests.{eqb-true}
use lib.Dec.{eqb, leb}
use lib.ListN.{length}
use Rattle.rules.proofs.Checks.{both}
use Rattle.json_rule.specs.Lexemes.{Lexeme, quote}
use Rattle.json_rule.specs.Tree as tree
use Rattle.json_rule.specs.Tree.{Defect, not_json, deepest, is_scalar, is_byte, Json, Scalar, Array, Object, Items, no_item, item, Members, no_member, bare_name, member, Value, Whole, Cut, Missing, Listed, Closed, Open, Named, ClosedBy, OpenBy, array_at, object_at_lem, with_item, with_member, scalar, bracketed, first_item, more_items, next_item, first_member, more_members, next_member, after_name, name, value}
use Rattle.json_judge.specs.Frames.{Wanted, Frame, ListBracket, ObjectBracket, bracket_of, opened_list, opened_object, each, counted, wanted_after, named}
use Rattle.json_judge.specs.Course.{Next, AValue, FirstItem, AName, FirstName, AColon, AfterValue, Stopped, Happening, ListBegins, ObjectBegins, NameStands, Stops, Step, to, stop, on_end, unless_full, on_list, on_object, on_scalar, on_value, on_name, step, at_end, happenings}
use Rattle.json_judge.proofs.Walk.{settled, behind, settled_bracket, behind_bracket, opened_list_lem, opened_object_lem, happen, items_happen, members_happen}

-- all lists and objects in it were closed, and each name has its value
unfoldable mutual
  pub is_closed : Json → Bool
  is_closed (Scalar t) = true
  is_closed (Array place xs closed) = closed && are_closed xs
  is_closed (Object place ms closed) = closed && are_all ms

  pub are_closed : Items → Bool
  are_closed no_item = true
  are_closed (item x xs) = is_closed x && are_closed xs

  pub are_all : Members → Bool
  are_all no_member = true
  are_all (bare_name t) = false
  are_all (member t x ms) = is_closed x && are_all ms

-- a lexeme is one byte alone
apart : (t : Lexeme) (a b : ℕ) → is_byte a t ≡ true → eqb a b ≡ false → is_byte b t ≡ false
apart t a b e n = ap (λ (h : ℕ). eqb h b) (eqb-true t.head a e) ∙ n

-- what holds of both pairs of choices, each under its answer, holds of the choices
either : {A B : Type 0} (P : A → B → Type 0) (b : Bool) {x y : A} {u v : B} → (b ≡ true → P x u) → (b ≡ false → P y v) → P (cond b x y) (cond b u v)
either P true h k = h refl
either P false h k = k refl

module _ (len : ℕ) where
  -- what happens from a state on, and from a step on
  abbrev pub from : Next → Frame → List Frame → List Lexeme → List Happening
  from next f around ts = happenings len (record { next = next; within = f; around = around }) ts

  abbrev then : Step → List Lexeme → List Happening
  then s ts = s.happened ++ happenings len s.course ts

  pub stays : (f : Frame) (around : List Frame) (ts : List Lexeme) → from Stopped f around ts ≡ []
  unfolding step at_end
  stays f around [] = refl
  stays f around (t ∷ ts) = stays f around ts

  stops : (f : Frame) (around : List Frame) (ts : List Lexeme) (d : Defect) → Stops d ∷ from Stopped f around ts ≡ Stops d ∷ []
  stops f around ts d = ap (λ (l : List Happening). Stops d ∷ l) (stays f around ts)

  -- ---- what is to be shown of each production: that this happens, and that so many lexemes were there

  abbrev pub FollowsValue : Wanted → Frame → List Frame → List Happening → ℕ → Value → Type 0
  FollowsValue w f around hs n (Whole x us) = (hs ≡ happen x w f (from AfterValue (settled w x f) around us)) × (length us < n) × (is_closed x ≡ true)
  FollowsValue w f around hs n (Cut x stop) = hs ≡ happen x w f (Stops stop ∷ [])
  FollowsValue w f around hs n (Missing stop) = hs ≡ Stops stop ∷ []

  -- inside a frame, with another around it
  abbrev FollowsItems : Frame → Frame → List Frame → List Happening → ℕ → Listed → Type 0
  FollowsItems f g around hs n (Closed xs us) = (hs ≡ items_happen xs true f (from AfterValue g around us)) × (length us ≤ n) × (are_closed xs ≡ true)
  FollowsItems f g around hs n (Open xs stop) = hs ≡ items_happen xs false f (Stops stop ∷ [])

  abbrev FollowsMembers : Frame → Frame → List Frame → List Happening → ℕ → Named → Type 0
  FollowsMembers f g around hs n (ClosedBy ms us) = (hs ≡ members_happen ms true f (from AfterValue g around us)) × (length us ≤ n) × (are_all ms ≡ true)
  FollowsMembers f g around hs n (OpenBy ms stop) = hs ≡ members_happen ms false f (Stops stop ∷ [])

  -- ---- values

  array_follows : (w : Wanted) (f : Frame) (around : List Frame) (hs : List Happening) (place n : ℕ) (l : Listed)
      → FollowsItems (opened_list w f place) (counted f) around hs n l → FollowsValue w f around (ListBegins w f place ∷ hs) (suc n) (array_at place l)
  unfolding happen is_closed
  array_follows w f around hs place n (Closed xs us) h = (ap (λ (l : List Happening). ListBegins w f place ∷ l) h.0, omega arith, h.2)
  array_follows w f around hs place n (Open xs stop) h = ap (λ (l : List Happening). ListBegins w f place ∷ l) h

  object_follows : (w : Wanted) (f : Frame) (around : List Frame) (hs : List Happening) (place n : ℕ) (m : Named)
      → FollowsMembers (opened_object w f place) (counted f) around hs n m → FollowsValue w f around (ObjectBegins w f place ∷ hs) (suc n) (object_at_lem place m)
  unfolding happen is_closed
  object_follows w f around hs place n (ClosedBy ms us) h = (ap (λ (l : List Happening). ObjectBegins w f place ∷ l) h.0, omega arith, h.2)
  object_follows w f around hs place n (OpenBy ms stop) h = ap (λ (l : List Happening). ObjectBegins w f place ∷ l) h

  scalar_follows : (w : Wanted) (f : Frame) (around : List Frame) (t : Lexeme) (ts : List Lexeme) → FollowsValue w f around (then (on_scalar w f around t) ts) (suc (length ts)) (scalar len t ts)
  unfolding happen is_closed
  scalar_follows w f around t ts =
      let P : Step → Value → Type 0 = λ s v. FollowsValue w f around (then s ts) (suc (length ts)) v in
      either P (is_scalar t) (λ s. either P t.whole (λ e. (refl, omega arith, refl)) (λ e. stops f around ts _)) (λ s. stops f around ts _)

  -- the 17th open bracket
  bracket_follows : (w : Wanted) (f : Frame) (around : List Frame) (t : Lexeme) (ts : List Lexeme) (s : Step) (v : Value)
      → FollowsValue w f around (then s ts) (suc (length ts)) v → FollowsValue w f around (then (unless_full f around t.first s) ts) (suc (length ts)) (bracketed len (length around) t v)
  bracket_follows w f around t ts s v h =
      either (λ (k : Step) (u : Value). FollowsValue w f around (then k ts) (suc (length ts)) u) (leb deepest (length around)) (λ d. stops f around ts _) (λ d. h)

  -- ---- lists

  as_items : (f g : Frame) (around : List Frame) (hs hs' : List Happening) (n m : ℕ) (l : Listed) → hs' ≡ hs → n ≤ m → FollowsItems f g around hs n l → FollowsItems f g around hs' m l
  as_items f g around hs hs' n m (Closed xs us) e k h = (e ∙ h.0, omega arith, h.2)
  as_items f g around hs hs' n m (Open xs stop) e k h = e ∙ h

  list_step : (f g : Frame) (around : List Frame) (t : Lexeme) → bracket_of f ≡ ListBracket
      → step (record { next = AfterValue; within = f; around = g ∷ around }) t ≡ cond (is_byte 93 t) (on_end f (g ∷ around)) (cond (is_byte 44 t) (to (AValue (each f)) f (g ∷ around) []) (stop f (g ∷ around) t.first not_json))
  unfolding step
  list_step f g around t i = rw i

  -- `,` and one more, or `]`
  more_items_lem : (f g : Frame) (around : List Frame) (again : List Lexeme → Listed) (us : List Lexeme) → bracket_of f ≡ ListBracket
      → ((vs : List Lexeme) → length vs < length us → FollowsItems f g around (from (AValue (each f)) f (g ∷ around) vs) (length vs) (again vs))
      → FollowsItems f g around (from AfterValue f (g ∷ around) us) (length us) (more_items len again us)
  unfolding happen at_end is_closed
  more_items_lem f g around again [] i h = rw i
  more_items_lem f g around again (t ∷ vs) i h =
      rw (list_step f g around t i)
      (cases (is_byte 44 t)
      (λ e. let c : is_byte 93 t ≡ false = apart t 44 93 e refl in
      rw (c, e) (as_items f g around _ _ (length vs) (suc (length vs)) (again vs) refl (omega arith) (h vs (omega arith))))
      (λ e. cases (is_byte 93 t) (λ c. rw (c, e) (refl, omega arith, refl)) (λ c. rw (c, e) (stops f (g ∷ around) vs _))))

  -- `]` at once, or an item
  first_items : (f g : Frame) (around : List Frame) (again : List Lexeme → Listed) (ts : List Lexeme)
      → FollowsItems f g around (from (AValue (each f)) f (g ∷ around) ts) (length ts) (again ts) → FollowsItems f g around (from (FirstItem (each f)) f (g ∷ around) ts) (length ts) (first_item len again ts)
  unfolding happen step at_end is_closed
  first_items f g around again [] h = h
  first_items f g around again (t ∷ ts) h = cases (is_byte 93 t) (λ c. rw c (refl, omega arith, refl)) (λ c. rw c h)

  -- an element, and what follows it
  with_item_lem : (f g : Frame) (around : List Frame) (hs : List Happening) (n : ℕ) (x : Json) (us : List Lexeme) (l : Listed)
      → FollowsValue (each f) f (g ∷ around) hs n (Whole x us) → FollowsItems (settled (each f) x f) g around (from AfterValue (settled (each f) x f) (g ∷ around) us) (length us) l
      → FollowsItems f g around hs n (with_item x l)
  unfolding happen is_closed
  with_item_lem f g around hs n x us (Closed xs vs) v h = (v.0 ∙ ap (λ (later : List Happening). happen x (each f) f later) h.0, omega arith, both v.2 h.2)
  with_item_lem f g around hs n x us (Open xs stop) v h = v.0 ∙ ap (λ (later : List Happening). happen x (each f) f later) h

  next_item_lem : (f g : Frame) (around : List Frame) (hs : List Happening) (n : ℕ) (again : List Lexeme → Listed) (v : Value) → bracket_of f ≡ ListBracket → FollowsValue (each f) f (g ∷ around) hs n v
      → ((f' : Frame) (us : List Lexeme) → bracket_of f' ≡ ListBracket → suc (length us) < n → FollowsItems f' g around (from (AValue (each f')) f' (g ∷ around) us) (length us) (again us))
      → FollowsItems f g around hs n (next_item len again v)
  unfolding happen
  next_item_lem f g around hs n again (Whole x us) i v h =
      let b : bracket_of (settled (each f) x f) ≡ ListBracket = settled_bracket (each f) x f ∙ i in
      with_item_lem f g around hs n x us (more_items len again us) v (more_items_lem (settled (each f) x f) g around again us b (λ vs k. h _ vs b (omega (arith, v.1))))
  next_item_lem f g around hs n again (Cut x stop) i v h = v
  next_item_lem f g around hs n again (Missing stop) i v h = v

  -- ---- objects

  as_members : (f g : Frame) (around : List Frame) (hs hs' : List Happening) (n m : ℕ) (l : Named) → hs' ≡ hs → n ≤ m → FollowsMembers f g around hs n l → FollowsMembers f g around hs' m l
  as_members f g around hs hs' n m (ClosedBy ms us) e k h = (e ∙ h.0, omega arith, h.2)
  as_members f g around hs hs' n m (OpenBy ms stop) e k h = e ∙ h

  object_step : (f g : Frame) (around : List Frame) (t : Lexeme) → bracket_of f ≡ ObjectBracket
      → step (record { next = AfterValue; within = f; around = g ∷ around }) t ≡ cond (is_byte 125 t) (on_end f (g ∷ around)) (cond (is_byte 44 t) (to AName f (g ∷ around) []) (stop f (g ∷ around) t.first not_json))
  unfolding step
  object_step f g around t i = rw i

  -- `,` and one more, or `}`
  more_members_lem : (f g : Frame) (around : List Frame) (again : List Lexeme → Named) (us : List Lexeme) → bracket_of f ≡ ObjectBracket
      → ((vs : List Lexeme) → length vs < length us → FollowsMembers f g around (from AName f (g ∷ around) vs) (length vs) (again vs))
      → FollowsMembers f g around (from AfterValue f (g ∷ around) us) (length us) (more_members len again us)
  unfolding happen at_end is_closed
  more_members_lem f g around again [] i h = rw i
  more_members_lem f g around again (t ∷ vs) i h =
      rw (object_step f g around t i)
      (cases (is_byte 44 t)
      (λ e. let c : is_byte 125 t ≡ false = apart t 44 125 e refl in
      rw (c, e) (as_members f g around _ _ (length vs) (suc (length vs)) (again vs) refl (omega arith) (h vs (omega arith))))
      (λ e. cases (is_byte 125 t) (λ c. rw (c, e) (refl, omega arith, refl)) (λ c. rw (c, e) (stops f (g ∷ around) vs _))))

  -- `}` at once, or a member
  first_members : (f g : Frame) (around : List Frame) (again : List Lexeme → Named) (ts : List Lexeme)
      → FollowsMembers f g around (from AName f (g ∷ around) ts) (length ts) (again ts) → FollowsMembers f g around (from FirstName f (g ∷ around) ts) (length ts) (first_member len again ts)
  unfolding happen step at_end is_closed
  first_members f g around again [] h = h
  first_members f g around again (t ∷ ts) h = cases (is_byte 125 t) (λ c. rw c (refl, omega arith, refl)) (λ c. rw c h)

  -- a name, its value, and what follows them
  with_member_lem : (f g : Frame) (around : List Frame) (hs : List Happening) (n : ℕ) (t : Lexeme) (x : Json) (us : List Lexeme) (m : Named)
      → FollowsValue (wanted_after f t) (named f t) (g ∷ around) hs n (Whole x us) → FollowsMembers (behind f t x) g around (from AfterValue (behind f t x) (g ∷ around) us) (length us) m
      → FollowsMembers f g around (NameStands f t ∷ hs) n (with_member t x m)
  unfolding happen is_closed
  with_member_lem f g around hs n t x us (ClosedBy ms vs) v h =
      (ap (λ (l : List Happening). NameStands f t ∷ l) (v.0 ∙ ap (λ (later : List Happening). happen x (wanted_after f t) (named f t) later) h.0), omega arith, both v.2 h.2)
  with_member_lem f g around hs n t x us (OpenBy ms stop) v h =
      ap (λ (l : List Happening). NameStands f t ∷ l) (v.0 ∙ ap (λ (later : List Happening). happen x (wanted_after f t) (named f t) later) h)

  next_member_lem : (f g : Frame) (around : List Frame) (hs : List Happening) (n : ℕ) (t : Lexeme) (again : List Lexeme → Named) (v : Value) → bracket_of f ≡ ObjectBracket
      → FollowsValue (wanted_after f t) (named f t) (g ∷ around) hs n v
      → ((f' : Frame) (us : List Lexeme) → bracket_of f' ≡ ObjectBracket → suc (length us) < n → FollowsMembers f' g around (from AName f' (g ∷ around) us) (length us) (again us))
      → FollowsMembers f g around (NameStands f t ∷ hs) n (next_member len t again v)
  unfolding happen
  next_member_lem f g around hs n t again (Whole x us) i v h =
      let b : bracket_of (behind f t x) ≡ ObjectBracket = behind_bracket f t x ∙ i in
      with_member_lem f g around hs n t x us (more_members len again us) v (more_members_lem (behind f t x) g around again us b (λ vs k. h _ vs b (omega (arith, v.1))))
  next_member_lem f g around hs n t again (Cut x stop) i v h = ap (λ (l : List Happening). NameStands f t ∷ l) v
  next_member_lem f g around hs n t again (Missing stop) i v h = ap (λ (l : List Happening). NameStands f t ∷ l) v

  -- `:` behind a name
  colon_follows : (f g : Frame) (around : List Frame) (t : Lexeme) (us : List Lexeme) (again : List Lexeme → Named)
      → ((vs : List Lexeme) → length vs < length us → FollowsMembers f g around (NameStands f t ∷ from (AValue (wanted_after f t)) (named f t) (g ∷ around) vs) (length vs) (again vs))
      → FollowsMembers f g around (NameStands f t ∷ from (AColon (wanted_after f t)) (named f t) (g ∷ around) us) (length us) (after_name len t again us)
  unfolding happen step at_end
  colon_follows f g around t [] again h = refl
  colon_follows f g around t (c ∷ vs) again h =
      either (λ (s : Step) (m : Named). FollowsMembers f g around (NameStands f t ∷ then s vs) (suc (length vs)) m) (is_byte 58 c)
      (λ e. as_members f g around _ _ (length vs) (suc (length vs)) (again vs) refl (omega arith) (h vs (omega arith)))
      (λ e. ap (λ (l : List Happening). NameStands f t ∷ l) (stops (named f t) (g ∷ around) vs _))

  name_follows : (f g : Frame) (around : List Frame) (ts : List Lexeme) (again : Lexeme → List Lexeme → Named)
      → ((t : Lexeme) (us : List Lexeme) → length us < length ts → FollowsMembers f g around (NameStands f t ∷ from (AColon (wanted_after f t)) (named f t) (g ∷ around) us) (length us) (again t us))
      → FollowsMembers f g around (from AName f (g ∷ around) ts) (length ts) (name len again ts)
  unfolding happen step at_end on_name
  name_follows f g around [] again h = refl
  name_follows f g around (t ∷ us) again h =
      let P : Step → Named → Type 0 = λ s m. FollowsMembers f g around (then s us) (suc (length us)) m in
      either P (is_byte quote t)
      (λ q. either P t.whole
      (λ e. as_members f g around _ _ (length us) (suc (length us)) (again t us) refl (omega arith) (h t us (omega arith)))
      (λ e. stops f (g ∷ around) us _))
      (λ q. stops f (g ∷ around) us _)

  -- ---- a list and an object, from their first brackets on

  list_follows : (w : Wanted) (f : Frame) (around : List Frame) (t : Lexeme) (ts : List Lexeme) (again : List Lexeme → Listed)
      → FollowsItems (opened_list w f t.first) (counted f) around (from (AValue (each (opened_list w f t.first))) (opened_list w f t.first) (counted f ∷ around) ts) (length ts) (again ts)
      → FollowsValue w f around (then (unless_full f around t.first (on_list w f around t.first)) ts) (suc (length ts)) (bracketed len (length around) t (array_at t.first (first_item len again ts)))
  list_follows w f around t ts again h =
      bracket_follows w f around t ts (on_list w f around t.first) (array_at t.first (first_item len again ts))
      (array_follows w f around _ t.first (length ts) (first_item len again ts) (first_items (opened_list w f t.first) (counted f) around again ts h))

  braced_follows : (w : Wanted) (f : Frame) (around : List Frame) (t : Lexeme) (ts : List Lexeme) (again : List Lexeme → Named)
      → FollowsMembers (opened_object w f t.first) (counted f) around (from AName (opened_object w f t.first) (counted f ∷ around) ts) (length ts) (again ts)
      → FollowsValue w f around (then (unless_full f around t.first (on_object w f around t.first)) ts) (suc (length ts)) (bracketed len (length around) t (object_at_lem t.first (first_member len again ts)))
  braced_follows w f around t ts again h =
      bracket_follows w f around t ts (on_object w f around t.first) (object_at_lem t.first (first_member len again ts))
      (object_follows w f around _ t.first (length ts) (first_member len again ts) (first_members (opened_object w f t.first) (counted f) around again ts h))

  -- ---- all of them, with enough steps

  mutual
    unfolding value step on_value at_end

    pub value_follows : (n : ℕ) (w : Wanted) (f : Frame) (around : List Frame) (ts : List Lexeme) → 2 * length ts < n
        → FollowsValue w f around (from (AValue w) f around ts) (length ts) (value len n (length around) ts)
    value_follows zero w f around ts h = absurd (omega arith)
    value_follows (suc n) w f around [] h = refl
    value_follows (suc n) w f around (t ∷ ts) h =
        let P : Step → Value → Type 0 = λ s v. FollowsValue w f around (then s ts) (suc (length ts)) v in
        either P (is_byte 91 t)
        (λ a. list_follows w f around t ts (λ us. tree.items len n (suc (length around)) us)
        (items_follow n (opened_list w f t.first) (counted f) around ts (opened_list_lem w f t.first) (omega arith)))
        (λ a. either P (is_byte 123 t)
        (λ b. braced_follows w f around t ts (λ us. tree.members len n (suc (length around)) us)
        (members_follow n (opened_object w f t.first) (counted f) around ts (opened_object_lem w f t.first) (omega arith)))
        (λ b. scalar_follows w f around t ts))

    items_follow : (n : ℕ) (f g : Frame) (around : List Frame) (ts : List Lexeme) → bracket_of f ≡ ListBracket → 2 * length ts + 1 < n
        → FollowsItems f g around (from (AValue (each f)) f (g ∷ around) ts) (length ts) (tree.items len n (suc (length around)) ts)
    items_follow zero f g around ts i h = absurd (omega arith)
    items_follow (suc n) f g around ts i h =
        next_item_lem f g around _ (length ts) (λ us. tree.items len n (suc (length around)) us) (value len n (suc (length around)) ts) i
        (value_follows n (each f) f (g ∷ around) ts (omega arith))
        (λ f' us i' k. items_follow n f' g around us i' (omega arith))

    members_follow : (n : ℕ) (f g : Frame) (around : List Frame) (ts : List Lexeme) → bracket_of f ≡ ObjectBracket → 2 * length ts + 1 < n
        → FollowsMembers f g around (from AName f (g ∷ around) ts) (length ts) (tree.members len n (suc (length around)) ts)
    members_follow zero f g around ts i h = absurd (omega arith)
    members_follow (suc n) f g around ts i h =
        name_follows f g around ts _
        (λ t us k. colon_follows f g around t us _
        (λ vs l. next_member_lem f g around _ (length vs) t (λ ws. tree.members len n (suc (length around)) ws) (value len n (suc (length around)) vs) i
        (value_follows n (wanted_after f t) (named f t) (g ∷ around) vs (omega arith))
        (λ f' ws i' m. members_follow n f' g around ws i' (omega arith))))
