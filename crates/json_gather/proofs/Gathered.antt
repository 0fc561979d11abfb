-- What is gathered in a state of the judge: what is at hand against all holdings, those of what is passed over too.
use Prim.Native.Nat.{ℕ}
use native.Mathlib.Nat.{suc-ne-zero}
use mathlib.Core.Path.{◌≡◌, refl, sym, ◌∙◌}
use mathlib.Core.Bool.{Bool, true, false, not, ◌||◌, true≢false}
use mathlib.Core.List.{List}
use mathlib.Core.Logic.{◌⊎◌, inl, inr}
use borrow.Author.Tests.{eqb-true, eqb-false, eq-eqb, ne_eqb}
use borrow.Table.Steps.{cases}
use lib.Dec.{eqb}
use lib.ListN.{length}
use Rattle.rules.specs.Words.{is_some}
use Rattle.json_rule.specs.Lexemes.{Lexeme}
use Rattle.json_rule.specs.Tree.{Json}
use Rattle.json_rule.specs.Defects.{listing_of}
use Rattle.json_judge.specs.Sending.{Holding, HoldsItems, HoldsMembers, HoldsName, put, naming}
use Rattle.json_members.specs.Spots.{shape_at, item_at}
use Rattle.json_members.proofs.Tables.{is_list_at}
use Rattle.json_store.specs.Puts.{Store}
use Rattle.json_stands.proofs.Laid.{Held, State}
use Rattle.json_stands.proofs.Begins.{held_then}
use Rattle.json_gather.proofs.Owners.{Hand, hand}
use Rattle.json_gather.proofs.Values.{Long}
use Rattle.json_gather.proofs.Gathers.{Gathers, Above, here, more, is_waiting, is_asking, list_item, as_list}

abbrev pub hand_of : State → Store → Hand
hand_of s st = hand s.held.kind s.held.marks st

pub record Gathered (s : State) (st : Store) (holdings : List Holding) : Type 0 where
  pub judged : List Holding
  pub above : Above s.passed holdings judged
  pub gathers : Gathers (hand_of s st) s.held.items (is_waiting s.expect s.passed) (is_asking s.expect s.passed) s.wanted s.within judged
  pub long : Long (hand_of s st)
  pub sized : length s.held.marks ≡ 64
  pub idle : (s.passed ≡ 0 → ⊥) → s.wanted ≡ 0
  pub first : s.expect ≡ 1 → s.passed ≡ 0 → is_some (listing_of (shape_at s.within)) ≡ true
  pub goes : s.expect ≡ 6 → ⊥

-- ---- flags

or_true : (b : Bool) → b || true ≡ true
or_true true = refl
or_true false = refl

pub passed_waits : (e q : ℕ) → (q ≡ 0 → ⊥) → is_waiting e q ≡ true
passed_waits e q n = rw (ne_eqb q 0 n)

pub waits_at : (e q : ℕ) → eqb e 0 || eqb e 4 ≡ true → is_waiting e q ≡ true
waits_at e q h = rw h (or_true (not (eqb q 0)))

pub asks_too : (e q : ℕ) → is_waiting e q ≡ true → is_asking e q ≡ true
asks_too e q h = rw h

pub asks_first : (q : ℕ) → is_asking 1 q ≡ true
asks_first q = or_true (is_waiting 1 q)

pub waits_none : (e q : ℕ) → q ≡ 0 → eqb e 0 || eqb e 4 ≡ false → is_waiting e q ≡ false
waits_none e q z h = rw (z, h)

pub asks_none : (e q : ℕ) → is_waiting e q ≡ false → eqb e 1 ≡ false → is_asking e q ≡ false
asks_none e q h n = rw (h, n)

pub with_flags : {a : Hand} {items wanted w : ℕ} {p q p' q' : Bool} {js : List Holding} → p ≡ p' → q ≡ q' → Gathers a items p q wanted w js → Gathers a items p' q' wanted w js
with_flags {a} {items} {wanted} {w} {p} {q} {p'} {q'} {js} e f g =
    let h : Gathers a items p' q wanted w js = rw e at g in
    rw f at h

pub with_wanted : {a : Hand} {items wanted wanted' w : ℕ} {p q : Bool} {js : List Holding} → wanted ≡ wanted' → Gathers a items p q wanted w js → Gathers a items p q wanted' w js
with_wanted e g = rw e at g

-- with what is held in its place
pub with_held : (s : State) (st : Store) {h : Held} {wanted w : ℕ} {p q : Bool} {js : List Holding} → h ≡ s.held → Gathers (hand_of s st) s.held.items p q wanted w js → Gathers (hand h.kind h.marks st) h.items p q wanted w js
with_held s st e g = rw e g

-- ---- what is passed over

pub above_none : {q : ℕ} {hs js : List Holding} → q ≡ 0 → Above q hs js → hs ≡ js
above_none e here = refl
above_none e (more {q = q} a) = absurd (suc-ne-zero q e)

pub here_at : {q : ℕ} {hs : List Holding} → q ≡ 0 → Above q hs hs
here_at e = rw e here

-- the innermost changes, and is still passed over
pub put_above : {q : ℕ} {hs js : List Holding} (x : Json) → (q ≡ 0 → ⊥) → Above q hs js → Above q (put x hs) js
put_above x n here = absurd (n refl)
put_above x n (more {h = HoldsItems place xs} a) = more a
put_above x n (more {h = HoldsMembers place hs} a) = more a
put_above x n (more {h = HoldsName place hs t} a) = more a

pub naming_above : {q : ℕ} {hs js : List Holding} (t : Lexeme) → (q ≡ 0 → ⊥) → Above q hs js → Above q (naming t hs) js
naming_above t n here = absurd (n refl)
naming_above t n (more {h = HoldsItems place xs} a) = more a
naming_above t n (more {h = HoldsMembers place hs} a) = more a
naming_above t n (more {h = HoldsName place hs u} a) = more a

-- ---- what is held then

-- where nothing is counted
pub held_same : (s : State) → is_some (listing_of (shape_at s.within)) ≡ false → held_then s ≡ s.held
held_same s n = cases (eqb s.passed 0) (λ t. rw (t, n)) (λ f. rw f)

pub held_passed : (s : State) → (s.passed ≡ 0 → ⊥) → held_then s ≡ s.held
held_passed s n = rw (ne_eqb s.passed 0 n)

-- ---- a value may come

module _ {s : State} {st : Store} {holdings : List Holding} (g : Gathered s st holdings) where
  -- one is asked for, and an object waits for it
  pub value_ready : (s.expect ≡ 0) ⊎ (s.expect ≡ 1) → Gathers (hand_of s st) s.held.items true true s.wanted s.within g.judged
  value_ready (inl e) =
      let w = waits_at s.expect s.passed (rw e) in
      with_flags w (asks_too s.expect s.passed w) g.gathers
  value_ready (inr e) =
      cases (eqb s.passed 0)
      (λ t. let i = g.first e (eqb-true s.passed 0 t) in
      let a : is_asking s.expect s.passed ≡ true = rw e (asks_first s.passed) in
      as_list true true s.wanted i (λ _. list_item i a g.gathers) g.gathers)
      (λ f. let w = passed_waits s.expect s.passed (eqb-false s.passed 0 f) in
      with_flags w (asks_too s.expect s.passed w) g.gathers)

-- a list asks for its elements, and they have a spot
pub nothing_in_list : {a : Hand} {items wanted w : ℕ} {waits : Bool} {js : List Holding} → wanted ≡ 0 → Gathers a items waits true wanted w js → is_some (listing_of (shape_at w)) ≡ false
nothing_in_list {w = w} e g =
    cases (is_some (listing_of (shape_at w)))
    (λ i. absurd (true≢false (sym i ∙ (sym (is_list_at w) ∙ rw (eq-eqb (item_at w) 0 (sym (list_item i refl g) ∙ e))))))
    (λ f. f)
