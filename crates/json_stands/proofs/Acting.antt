-- The action of an update becomes known.
use Prim.Native.Nat.{ℕ, ◌%◌, ◌<◌}
use mathlib.Core.Path.{◌≡◌, refl, sym, ap, ◌∙◌}
use mathlib.Core.Bool.{Bool, true, false, cond, true≢false}
use mathlib.Core.List.{List, ◌∷◌}
use mathlib.Core.Option.{Option, none, some}
use native.Mathlib.Omega.{arith}
use borrow.Author.Tests.{eqb-true, ne_eqb, ltb-true, not-false}
use lib.Dec.{eqb, ltb}
use Rattle.rules.specs.Words.{is_some}
use Rattle.json_rule.specs.Lexemes.{Lexeme, quote}
use Rattle.json_rule.specs.Values.{text_of}
use Rattle.json_rule.specs.Tree.{Defect}
use Rattle.json_rule.specs.Shapes.{Action}
use Rattle.json_rule.specs.Defects.{listed_action}
use Rattle.json_judge.specs.Refusal.{refusing as withDefects}
use Rattle.json_judge.specs.Frames.{Seen, Frame, InObject, bracket_of, knowing, known_said}
use Rattle.json_members.specs.Kept.{front, LexemeKept}
use Rattle.json_members.specs.Words.{number_of, action_words}
use Rattle.json_members.specs.Rows.{action_at}
use Rattle.json_members.specs.Model.{knowing as knowingIn}
use Rattle.json_members.proofs.Words.{no_word, ◌+++◌, by_words, number_told}
use Rattle.json_members.proofs.Actions.{action_kept}
use Rattle.json_stands.proofs.Laid.{Held, hold, State, Sized, laid, changed}
use Rattle.json_stands.proofs.Refused.{RefusalIs}
use Rattle.json_stands.proofs.Open.{Open, update, update_open, field, fields, ids, part}
use Rattle.json_stands.proofs.Foreigns.{refuse_foreigns}

-- ---- the kind of a word

-- a kind stands for an action, and fits into its slot
pub record KindOf (kind : ℕ) (a : Action) : Type 0 where
  pub action : action_at kind ≡ some a
  pub small : kind < 256

pub kind_some : {kind : ℕ} {a : Action} → KindOf kind a → eqb kind 0 ≡ false
unfolding action_at
kind_some {kind} {a} k = ne_eqb kind 0 (λ z. true≢false (sym (ap is_some (sym (ap action_at z) ∙ k.action))))

-- it is 0, or that of an action
abbrev is_kind : ℕ → Bool
is_kind kind = cond (eqb kind 0) true (cond (is_some (action_at kind)) (ltb kind 256) false)

word_kind : (text : List ℕ) → is_kind (number_of 0 action_words text) ≡ true
unfolding number_of action_at
word_kind text =
    by_words (λ l. is_kind (number_of 0 action_words l) ≡ true) action_words text
    (refl +++ refl +++ refl +++ refl +++ refl +++ refl +++ refl +++ refl +++ refl +++ refl +++ refl +++ refl +++ refl +++ refl +++ refl +++ no_word)
    (λ n. ap is_kind (eqb-true (number_of 0 action_words text) 0 (not-false (eqb (number_of 0 action_words text) 0) (number_told 0 action_words text refl ∙ n))))

pub data KindIs (kind : ℕ) : Option Action → Type 0 where
  no_kind : kind ≡ 0 → KindIs kind none
  some_kind : {a : Action} → KindOf kind a → KindIs kind (some a)

kind_is : (kind : ℕ) → is_kind kind ≡ true → KindIs kind (action_at kind)
unfolding action_at
kind_is kind e = by_zero (eqb kind 0) refl
  where
    by_action : (o : Option Action) → action_at kind ≡ o → cond (is_some o) (ltb kind 256) false ≡ true → KindIs kind o
    by_action none i h = absurd (true≢false (sym h))
    by_action (some a) i h = some_kind (record { action = i; small = ltb-true kind 256 h })

    by_zero : (b : Bool) → eqb kind 0 ≡ b → KindIs kind (action_at kind)
    by_zero true z = rw (eqb-true kind 0 z) (no_kind refl)
    by_zero false z = by_action (action_at kind) refl (rw z at e)

-- the kind of what a lexeme says, against the action that is listed under it
module _ {kept : List ℕ} {len : ℕ} {integer : Bool} {magnitude : ℕ} (t : Lexeme) (k : LexemeKept kept len integer magnitude t) where
  pub kind_told : eqb t.head quote ≡ true → KindIs (number_of 0 action_words (front len kept)) (listed_action (text_of t))
  kind_told q = rw (action_kept kept len (text_of t) (k.text q)) (kind_is (number_of 0 action_words (front len kept)) (word_kind (front len kept)))

-- ---- what is held then

abbrev pub acted : ℕ → Held → Held
acted kind h = hold kind h.list h.update h.part h.fields h.field h.updates h.items h.spare h.marks h.places

-- the slots are those of a state with the kind
pub record Acts (s : State) (g : Frame) (fs : List Frame) (kind : ℕ) (a : Action) (r : Option Defect) : Type 0 where
  pub number : ℕ
  pub place : ℕ
  pub laid_so : knowingIn kind (laid s) ≡ laid (changed number place (acted kind s.held) s)
  pub opens : Open (acted kind s.held) 2 (knowing (some a) g ∷ fs)
  pub bracket : bracket_of (knowing (some a) g) ≡ bracket_of g
  pub is : RefusalIs number place (withDefects (known_said (some a) g) r)

-- an update whose action is known by its kind
acting_open : (h : Held) {kind : ℕ} {a : Action} {us : List Seen} {fs : List Frame} → KindOf kind a → Open (acted kind h) 2 (InObject (update_open (acted kind h) us) ∷ fs) → Open (acted kind h) 2 (knowing (some a) (InObject (update_open h us)) ∷ fs)
acting_open h {kind} {a} {us} {fs} k o =
    let e : kind % 256 ≡ kind = omega (arith, k.small) in
    let i : action_at (kind % 256) ≡ some a = ap action_at e ∙ k.action in
    rw i at o

pub act : (s : State) {g : Frame} {fs : List Frame} {r : Option Defect} {kind : ℕ} {a : Action} → KindOf kind a → Open s.held 2 (g ∷ fs) → Sized s.held.marks s.held.places → RefusalIs s.number s.place r → Acts s g fs kind a r
act s {kind = kind} {a = a} k (update u) z rf =
    let x = refuse_foreigns kind a k.action (changed s.number s.place (acted kind s.held) s) z u rf in
    record {
      number = x.number;
      place = x.place;
      laid_so = x.laid_so;
      opens = acting_open s.held k (update u);
      bracket = refl;
      is = x.is;
    }
act s {r = r} {kind = kind} {a = a} k (ids {each = each} {us = us} x10 _) z rf = elim x10 [ ]
act s {r = r} {kind = kind} {a = a} k (part {ps = ps} {us = us} x14 _ _) z rf = elim x14 [ ]
act s {r = r} {kind = kind} {a = a} k (fields {room = room} {each = each} {ps = ps} {us = us} x19 _ _) z rf = elim x19 [ ]
act s {r = r} {kind = kind} {a = a} k (field {w = w} {room = room} {each = each} {fs = fs} {ps = ps} {us = us} x20 _ _ _) z rf = elim x20 [ ]
