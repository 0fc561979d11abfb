-- The grammar as a walk over lexemes: what may stand next, and the brackets that are open around it. Where reading stops is what the walk says (`text_walk`),
-- and the walk takes one lexeme after another, so that it hangs on nothing behind the place where it stops.
use Prim.Native.Nat.{ℕ, zero, suc, ◌+◌, ◌*◌, ◌≤◌, ◌<◌}
use native.Mathlib.Omega.{arith}
use mathlib.Core.Path.{◌≡◌, refl, ◌∙◌}
use mathlib.Core.Bool.{Bool, true, false, cond}
use mathlib.Core.List.{List, [], ◌∷◌}
use mathlib.Core.Option.{Option, none, some}
use lib.Dec.{leb}
use lib.ListN.{length}
use Rattle.rules.proofs.Checks.{by_test}
use Rattle.json_rule.specs.Lexemes.{Lexeme, quote, lexemes}
use Rattle.json_rule.specs.Tree.{Defect, not_json, over_capacity, deepest, Json, Value, Whole, Cut, Missing, Listed, Closed, Open, Named, ClosedBy, OpenBy, array_at, object_at_lem, with_item, with_member, is_scalar, is_byte, first_item, more_items, next_item, first_member, more_members, next_member, after_name, name, value, items, members, text_of_value, text}

-- ---- the walk

-- what may stand next
pub data Want : Type 0 where
  AValue ItemOrClose CommaOrCloseList AName NameOrClose AColon CommaOrCloseObject TheEnd : Want

-- one lexeme further, inside these brackets (a list is true, an object false), or where reading stops
pub data Turn : Type 0 where
  Goes : Want → List Bool → Turn
  Stops : Defect → Turn

-- what may follow a value inside these brackets
abbrev pub after : List Bool → Want
after [] = TheEnd
after (true ∷ around) = CommaOrCloseList
after (false ∷ around) = CommaOrCloseObject

-- the innermost bracket is closed
abbrev pub closing : List Bool → Turn
closing [] = Goes TheEnd []
closing (b ∷ around) = Goes (after around) around

abbrev pub opening : Lexeme → Bool → Want → List Bool → Turn
opening t b want around = cond (leb deepest (length around)) (Stops (record { place = t.first; number = over_capacity })) (Goes want (b ∷ around))

-- the lexeme cannot stand there, or breaks off
abbrev pub cannot_stand : Lexeme → Turn
cannot_stand t = Stops (record { place = t.first; number = not_json })

abbrev pub breaks_off : Lexeme → Turn
breaks_off t = Stops (record { place = t.stop; number = not_json })

abbrev pub value_turn : List Bool → Lexeme → Turn
value_turn around t =
    cond (is_byte 91 t) (opening t true ItemOrClose around)
    (cond (is_byte 123 t) (opening t false NameOrClose around)
    (cond (is_scalar t) (cond t.whole (Goes (after around) around) (breaks_off t)) (cannot_stand t)))

abbrev pub name_turn : List Bool → Lexeme → Turn
name_turn around t = cond (is_byte quote t) (cond t.whole (Goes AColon around) (breaks_off t)) (cannot_stand t)

abbrev pub turn : Want → List Bool → Lexeme → Turn
turn AValue around t = value_turn around t
turn ItemOrClose around t = cond (is_byte 93 t) (closing around) (value_turn around t)
turn CommaOrCloseList around t = cond (is_byte 44 t) (Goes AValue around) (cond (is_byte 93 t) (closing around) (cannot_stand t))
turn AName around t = name_turn around t
turn NameOrClose around t = cond (is_byte 125 t) (closing around) (name_turn around t)
turn AColon around t = cond (is_byte 58 t) (Goes AValue around) (cannot_stand t)
turn CommaOrCloseObject around t = cond (is_byte 44 t) (Goes AName around) (cond (is_byte 125 t) (closing around) (cannot_stand t))
turn TheEnd around t = cannot_stand t

abbrev pub onward : (Want → List Bool → Option Defect) → Turn → Option Defect
onward further (Goes want around) = further want around
onward further (Stops d) = some d

module _ (len : ℕ) where
  -- the text may end there
  abbrev pub at_end : Want → Option Defect
  at_end AValue = some (record { place = len; number = not_json })
  at_end ItemOrClose = some (record { place = len; number = not_json })
  at_end CommaOrCloseList = some (record { place = len; number = not_json })
  at_end AName = some (record { place = len; number = not_json })
  at_end NameOrClose = some (record { place = len; number = not_json })
  at_end AColon = some (record { place = len; number = not_json })
  at_end CommaOrCloseObject = some (record { place = len; number = not_json })
  at_end TheEnd = none

  abbrev pub walk : Want → List Bool → List Lexeme → Option Defect
  walk want around [] = at_end want
  walk want around (t ∷ ts) = onward (λ w o. walk w o ts) (turn want around t)

-- what holds of every turn that a lexeme may lead to holds of the one that it leads to
module _ (P : Turn → Type 0) (t : Lexeme) (goes : (want : Want) (around : List Bool) → P (Goes want around)) (deep : P (Stops (record { place = t.first; number = over_capacity }))) (cannot : P (cannot_stand t)) (breaks : t.whole ≡ false → P (breaks_off t)) where
  closing_says : (around : List Bool) → P (closing around)
  closing_says [] = goes TheEnd []
  closing_says (b ∷ around) = goes (after around) around

  opening_says : (b : Bool) (want : Want) (around : List Bool) → P (opening t b want around)
  opening_says b want around = by_test P (leb deepest (length around)) (λ _. deep) (λ _. goes want (b ∷ around))

  value_says : (around : List Bool) → P (value_turn around t)
  value_says around =
      by_test P (is_byte 91 t) (λ _. opening_says true ItemOrClose around)
      (λ _. by_test P (is_byte 123 t) (λ _. opening_says false NameOrClose around)
      (λ _. by_test P (is_scalar t) (λ _. by_test P t.whole (λ _. goes (after around) around) breaks) (λ _. cannot)))

  name_says : (around : List Bool) → P (name_turn around t)
  name_says around = by_test P (is_byte quote t) (λ _. by_test P t.whole (λ _. goes AColon around) breaks) (λ _. cannot)

  pub turn_says : (want : Want) (around : List Bool) → P (turn want around t)
  turn_says AValue around = value_says around
  turn_says ItemOrClose around = by_test P (is_byte 93 t) (λ _. closing_says around) (λ _. value_says around)
  turn_says CommaOrCloseList around = by_test P (is_byte 44 t) (λ _. goes AValue around) (λ _. by_test P (is_byte 93 t) (λ _. closing_says around) (λ _. cannot))
  turn_says AName around = name_says around
  turn_says NameOrClose around = by_test P (is_byte 125 t) (λ _. closing_says around) (λ _. name_says around)
  turn_says AColon around = by_test P (is_byte 58 t) (λ _. goes AValue around) (λ _. cannot)
  turn_says CommaOrCloseObject around = by_test P (is_byte 44 t) (λ _. goes AName around) (λ _. by_test P (is_byte 125 t) (λ _. closing_says around) (λ _. cannot))
  turn_says TheEnd around = cannot

-- the same of the end of the text
pub end_says : (P : Option Defect → Type 0) (len : ℕ) → P (some (record { place = len; number = not_json })) → P none → (want : Want) → P (at_end len want)
end_says P len p q AValue = p
end_says P len p q ItemOrClose = p
end_says P len p q CommaOrCloseList = p
end_says P len p q AName = p
end_says P len p q NameOrClose = p
end_says P len p q AColon = p
end_says P len p q CommaOrCloseObject = p
end_says P len p q TheEnd = q

-- ---- where each part of the grammar stops, given what is said of what follows it

abbrev value_end : (List Lexeme → Option Defect) → Value → Option Defect
value_end k (Whole x ts) = k ts
value_end k (Cut x d) = some d
value_end k (Missing d) = some d

abbrev listed_end : (List Lexeme → Option Defect) → Listed → Option Defect
listed_end k (Closed xs ts) = k ts
listed_end k (Open xs d) = some d

abbrev named_end : (List Lexeme → Option Defect) → Named → Option Defect
named_end k (ClosedBy ms ts) = k ts
named_end k (OpenBy ms d) = some d

-- what follows is shorter
abbrev ShortValue : ℕ → Value → Type 0
ShortValue n (Whole x ts) = length ts < n
ShortValue n (Cut x d) = Unit {0}
ShortValue n (Missing d) = Unit {0}

abbrev ShortListed : ℕ → Listed → Type 0
ShortListed n (Closed xs ts) = length ts < n
ShortListed n (Open xs d) = Unit {0}

abbrev ShortNamed : ℕ → Named → Type 0
ShortNamed n (ClosedBy ms ts) = length ts < n
ShortNamed n (OpenBy ms d) = Unit {0}

-- a choice on each side, by one test
pub by_tests : {A B : Type 0} (P : A → B → Type 0) (b : Bool) {x y : A} {u v : B} → P x u → P y v → P (cond b x y) (cond b u v)
by_tests P true p q = p
by_tests P false p q = q

-- What is said of items and of members is said of the list and of the object, of one more in front, and of a longer list of lexemes.
module _ (k : List Lexeme → Option Defect) {n m : ℕ} {e : Option Defect} where
  array_end : (first : ℕ) (l : Listed) → (listed_end k l ≡ e) × ShortListed n l → n ≤ m → (value_end k (array_at first l) ≡ e) × ShortValue m (array_at first l)
  array_end first (Closed xs ts) h w = (h.0, omega arith)
  array_end first (Open xs d) h w = (h.0, tt)

  object_end : (first : ℕ) (l : Named) → (named_end k l ≡ e) × ShortNamed n l → n ≤ m → (value_end k (object_at_lem first l) ≡ e) × ShortValue m (object_at_lem first l)
  object_end first (ClosedBy ms ts) h w = (h.0, omega arith)
  object_end first (OpenBy ms d) h w = (h.0, tt)

  item_end : (x : Json) (l : Listed) → (listed_end k l ≡ e) × ShortListed n l → n ≤ m → (listed_end k (with_item x l) ≡ e) × ShortListed m (with_item x l)
  item_end x (Closed xs ts) h w = (h.0, omega arith)
  item_end x (Open xs d) h w = (h.0, tt)

  member_end : (t : Lexeme) (x : Json) (l : Named) → (named_end k l ≡ e) × ShortNamed n l → n ≤ m → (named_end k (with_member t x l) ≡ e) × ShortNamed m (with_member t x l)
  member_end t x (ClosedBy ms ts) h w = (h.0, omega arith)
  member_end t x (OpenBy ms d) h w = (h.0, tt)

  longer_listed : (l : Listed) → (listed_end k l ≡ e) × ShortListed n l → n ≤ m → (listed_end k l ≡ e) × ShortListed m l
  longer_listed (Closed xs ts) h w = (h.0, omega arith)
  longer_listed (Open xs d) h w = (h.0, tt)

  longer_named : (l : Named) → (named_end k l ≡ e) × ShortNamed n l → n ≤ m → (named_end k l ≡ e) × ShortNamed m l
  longer_named (ClosedBy ms ts) h w = (h.0, omega arith)
  longer_named (OpenBy ms d) h w = (h.0, tt)

-- ---- the grammar stops where the walk does

module _ (len : ℕ) (around : List Bool) where
  -- what is said behind the value that these brackets hold
  abbrev behind : List Lexeme → Option Defect
  behind ts = walk len (after around) around ts

  -- of a value, of items and of members: the same as the walk says, and what follows is shorter
  abbrev ValueSays : ℕ → Value → Option Defect → Type 0
  ValueSays n v e = (value_end behind v ≡ e) × ShortValue n v

  abbrev ListedSays : ℕ → Listed → Option Defect → Type 0
  ListedSays n l e = (listed_end behind l ≡ e) × ShortListed n l

  abbrev NamedSays : ℕ → Named → Option Defect → Type 0
  NamedSays n l e = (named_end behind l ≡ e) × ShortNamed n l

-- of the items of a list around these brackets, where the rest of them agrees
module _ (len : ℕ) (around : List Bool) (again : List Lexeme → Listed) where
  first_item_lem : (ts : List Lexeme) → ListedSays len around (length ts) (again ts) (walk len AValue (true ∷ around) ts)
      → ListedSays len around (length ts) (first_item len again ts) (walk len ItemOrClose (true ∷ around) ts)
  first_item_lem [] h = h
  first_item_lem (t ∷ ts) h = by_tests (λ l u. ListedSays len around (suc (length ts)) l (onward (λ w o. walk len w o ts) u)) (is_byte 93 t) (refl, omega arith) h

  more_items_lem : (ts : List Lexeme) → ((us : List Lexeme) → length us < length ts → ListedSays len around (length us) (again us) (walk len AValue (true ∷ around) us))
      → ListedSays len around (length ts) (more_items len again ts) (walk len CommaOrCloseList (true ∷ around) ts)
  more_items_lem [] r = (refl, tt)
  more_items_lem (t ∷ ts) r =
      by_tests P (is_byte 44 t) (longer_listed (behind len around) (again ts) (r ts (omega arith)) (omega arith)) (by_tests P (is_byte 93 t) (refl, omega arith) (refl, tt))
    where
      P : Listed → Turn → Type 0
      P l u = ListedSays len around (suc (length ts)) l (onward (λ w o. walk len w o ts) u)

  next_item_lem : (n : ℕ) {e : Option Defect} (v : Value) → ValueSays len (true ∷ around) n v e
      → ((us : List Lexeme) → length us < n → ListedSays len around (length us) (again us) (walk len AValue (true ∷ around) us)) → ListedSays len around n (next_item len again v) e
  next_item_lem n (Whole x ts) h r =
      let s : length ts < n = h.1 in
      rw (← h.0) (item_end (behind len around) x (more_items len again ts) (more_items_lem ts (λ us l. r us (omega arith))) (omega arith))
  next_item_lem n (Cut x d) h r = h
  next_item_lem n (Missing d) h r = h

-- of the members of an object
module _ (len : ℕ) (around : List Bool) (again : List Lexeme → Named) where
  first_member_lem : (ts : List Lexeme) → NamedSays len around (length ts) (again ts) (walk len AName (false ∷ around) ts)
      → NamedSays len around (length ts) (first_member len again ts) (walk len NameOrClose (false ∷ around) ts)
  first_member_lem [] h = h
  first_member_lem (t ∷ ts) h = by_tests (λ l u. NamedSays len around (suc (length ts)) l (onward (λ w o. walk len w o ts) u)) (is_byte 125 t) (refl, omega arith) h

  more_members_lem : (ts : List Lexeme) → ((us : List Lexeme) → length us < length ts → NamedSays len around (length us) (again us) (walk len AName (false ∷ around) us))
      → NamedSays len around (length ts) (more_members len again ts) (walk len CommaOrCloseObject (false ∷ around) ts)
  more_members_lem [] r = (refl, tt)
  more_members_lem (t ∷ ts) r =
      by_tests P (is_byte 44 t) (longer_named (behind len around) (again ts) (r ts (omega arith)) (omega arith)) (by_tests P (is_byte 125 t) (refl, omega arith) (refl, tt))
    where
      P : Named → Turn → Type 0
      P l u = NamedSays len around (suc (length ts)) l (onward (λ w o. walk len w o ts) u)

  next_member_lem : (t : Lexeme) (n : ℕ) {e : Option Defect} (v : Value) → ValueSays len (false ∷ around) n v e
      → ((us : List Lexeme) → length us < n → NamedSays len around (length us) (again us) (walk len AName (false ∷ around) us)) → NamedSays len around n (next_member len t again v) e
  next_member_lem t n (Whole x ts) h r =
      let s : length ts < n = h.1 in
      rw (← h.0) (member_end (behind len around) t x (more_members len again ts) (more_members_lem ts (λ us l. r us (omega arith))) (omega arith))
  next_member_lem t n (Cut x d) h r = h
  next_member_lem t n (Missing d) h r = h

  after_name_lem : (t : Lexeme) (ts : List Lexeme) → ((us : List Lexeme) → length us < length ts → NamedSays len around (length us) (again us) (walk len AValue (false ∷ around) us))
      → NamedSays len around (length ts) (after_name len t again ts) (walk len AColon (false ∷ around) ts)
  after_name_lem t [] r = (refl, tt)
  after_name_lem t (c ∷ ts) r =
      by_tests (λ l u. NamedSays len around (suc (length ts)) l (onward (λ w o. walk len w o ts) u)) (is_byte 58 c)
      (longer_named (behind len around) (again ts) (r ts (omega arith)) (omega arith))
      (refl, tt)

a_name_lem : (len : ℕ) (around : List Bool) (again : Lexeme → List Lexeme → Named) (ts : List Lexeme)
    → ((t : Lexeme) (us : List Lexeme) → length us < length ts → NamedSays len around (length us) (again t us) (walk len AColon (false ∷ around) us))
    → NamedSays len around (length ts) (name len again ts) (walk len AName (false ∷ around) ts)
a_name_lem len around again [] r = (refl, tt)
a_name_lem len around again (t ∷ ts) r =
    by_tests P (is_byte quote t) (by_tests P t.whole (longer_named (behind len around) (again t ts) (r t ts (omega arith)) (omega arith)) (refl, tt)) (refl, tt)
  where
    P : Named → Turn → Type 0
    P l u = NamedSays len around (suc (length ts)) l (onward (λ w o. walk len w o ts) u)

module _ (len : ℕ) where
  mutual
    unfolding value

    value_walk : (steps : ℕ) (around : List Bool) (ts : List Lexeme) → 2 * length ts < steps
        → ValueSays len around (length ts) (value len steps (length around) ts) (walk len AValue around ts)
    value_walk zero around ts f = absurd (omega arith)
    value_walk (suc steps) around [] f = (refl, tt)
    value_walk (suc steps) around (t ∷ ts) f =
        by_tests P (is_byte 91 t)
        (by_tests P (leb deepest (length around)) (refl, tt)
        (array_end (behind len around) t.first (first_item len (λ us. items len steps (suc (length around)) us) ts) (first_item_lem len around (λ us. items len steps (suc (length around)) us) ts (items_walk steps around ts (omega arith))) (omega arith)))
        (by_tests P (is_byte 123 t)
        (by_tests P (leb deepest (length around)) (refl, tt)
        (object_end (behind len around) t.first (first_member len (λ us. members len steps (suc (length around)) us) ts) (first_member_lem len around (λ us. members len steps (suc (length around)) us) ts (members_walk steps around ts (omega arith))) (omega arith)))
        (by_tests P (is_scalar t) (by_tests P t.whole (refl, omega arith) (refl, tt)) (refl, tt)))
      where
        P : Value → Turn → Type 0
        P v u = ValueSays len around (suc (length ts)) v (onward (λ w o. walk len w o ts) u)

    items_walk : (steps : ℕ) (around : List Bool) (ts : List Lexeme) → 2 * length ts + 1 < steps
        → ListedSays len around (length ts) (items len steps (suc (length around)) ts) (walk len AValue (true ∷ around) ts)
    items_walk zero around ts f = absurd (omega arith)
    items_walk (suc steps) around ts f =
        next_item_lem len around (λ us. items len steps (suc (length around)) us) (length ts) (value len steps (suc (length around)) ts)
        (value_walk steps (true ∷ around) ts (omega arith))
        (λ us l. items_walk steps around us (omega arith))

    members_walk : (steps : ℕ) (around : List Bool) (ts : List Lexeme) → 2 * length ts + 1 < steps
        → NamedSays len around (length ts) (members len steps (suc (length around)) ts) (walk len AName (false ∷ around) ts)
    members_walk zero around ts f = absurd (omega arith)
    members_walk (suc steps) around ts f =
        a_name_lem len around _ ts
        (λ t us l. after_name_lem len around _ t us
        (λ vs m. next_member_lem len around (λ ws. members len steps (suc (length around)) ws) t (length vs) (value len steps (suc (length around)) vs)
        (value_walk steps (false ∷ around) vs (omega arith))
        (λ ws n. members_walk steps around ws (omega arith))))

  -- what the value of a whole text says, and what may follow it
  text_end : (v : Value) → (text_of_value len v).stop ≡ value_end (λ ts. walk len TheEnd [] ts) v
  text_end (Whole x []) = refl
  text_end (Whole x (t ∷ ts)) = refl
  text_end (Cut x d) = refl
  text_end (Missing d) = refl

-- where a text stops, by its lexemes
pub text_walk : (bs : List ℕ) → (text bs).stop ≡ walk (length bs) AValue [] (lexemes (length bs) 0 bs)
unfolding text
text_walk bs =
    let ts = lexemes (length bs) 0 bs in
    text_end (length bs) (value (length bs) (2 * length ts + 1) 0 ts) ∙ (value_walk (length bs) (2 * length ts + 1) [] ts (omega arith)).0
