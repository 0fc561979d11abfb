-- The members that an open object holds, against the marks and the store: a name, a value behind it, and what stays beside them.
use Prim.Native.Nat.{ℕ}
use mathlib.Core.Path.{◌≡◌, refl, sym, ap, ◌∙◌}
use mathlib.Core.Bool.{Bool, true, false, cond, true≢false}
use mathlib.Core.List.{List, [], ◌∷◌}
use mathlib.Core.Option.{Option, none, some}
use borrow.Author.Tests.{eqb-true}
use lib.Dec.{eqb}
use Rattle.rules.specs.Words.{some_with, same_bytes}
use Rattle.json_rule.specs.Lexemes.{Lexeme}
use Rattle.json_rule.specs.Values.{text_of}
use Rattle.json_rule.specs.Tree.{Json, Members, no_member, member}
use Rattle.json_rule.specs.Members.{is_named, value_of}
use Rattle.json_rule.specs.Shapes.{Kind}
use Rattle.json_judge.specs.Sending.{Held, Holding, HoldsMembers, HoldsName, members_before}
use Rattle.json_members.specs.Spots.{name_at, value_at}
use Rattle.json_stands.proofs.Marked.{is_marked}
use Rattle.json_stands.proofs.Members.{is_member, names_apart}
use Rattle.json_gather.proofs.Owners.{Hand, Agree}
use Rattle.json_gather.proofs.Claims.{HeldAs, StoredIn}
use Rattle.json_gather.proofs.Footprints.{footprint, own_footprint, stored_kept}

-- ---- the value of a member

-- the value of the member of a spot
abbrev pub held_at : ℕ → List Held → Option Json
held_at m hs = value_of (name_at m) (members_before hs no_member)

abbrev or_else_later : Option Json → Option Json → Option Json
or_else_later none later = later
or_else_later (some x) later = some x

first_of : (o : Option Json) (b : Bool) (x : Json) (later : Option Json) → or_else_later o (cond b (some x) later) ≡ or_else_later (or_else_later o (cond b (some x) none)) later
first_of none true x later = refl
first_of none false x later = refl
first_of (some y) b x later = refl

value_before : (n : List ℕ) (hs : List Held) (ms : Members) → value_of n (members_before hs ms) ≡ or_else_later (value_of n (members_before hs no_member)) (value_of n ms)
value_before n [] ms = refl
value_before n (h ∷ hs) ms =
    value_before n hs (member h.name h.value ms)
    ∙ (first_of (value_of n (members_before hs no_member)) (is_named n h.name) h.value (value_of n ms)
    ∙ ap (λ (o : Option Json). or_else_later o (value_of n ms)) (sym (value_before n hs (member h.name h.value no_member))))

-- ---- an object

-- all members are held as the marks say
pub record AllHeld (kind : Kind) (a : Hand) (hs : List Held) : Type 0 where
  pub each : (x : ℕ) → is_member kind x ≡ true → HeldAs (StoredIn kind a) a.marks x (held_at x hs)

-- a member was named, and its value is awaited
pub record Awaits (kind : Kind) (a : Hand) (m : ℕ) (hs : List Held) (t : Lexeme) : Type 0 where
  pub a_member : is_member kind m ≡ true
  pub text : text_of t ≡ some (name_at m)
  pub marked : is_marked a.marks m ≡ true
  pub absent : held_at m hs ≡ none
  pub others : (x : ℕ) → is_member kind x ≡ true → eqb x m ≡ false → HeldAs (StoredIn kind a) a.marks x (held_at x hs)

-- by whether a value is awaited, and by the spot of that
pub data Holds (kind : Kind) (a : Hand) : Bool → ℕ → Holding → Type 0 where
  members : {v place : ℕ} {hs : List Held} → AllHeld kind a hs → Holds kind a false v (HoldsMembers place hs)
  awaits : {v m place : ℕ} {hs : List Held} {t : Lexeme} → value_at m ≡ v → Awaits kind a m hs t → Holds kind a true v (HoldsName place hs t)

-- ---- what stays

-- all members but one rest on what stays
pub record KeptBut (kind : Kind) (m : ℕ) (a b : Hand) : Type 0 where
  pub agree : (x : ℕ) → is_member kind x ≡ true → eqb x m ≡ false → Agree (footprint kind x) a b

module _ (kind : Kind) {a b : Hand} where
  held_kept : (x : ℕ) → is_member kind x ≡ true → Agree (footprint kind x) a b → (o : Option Json) → HeldAs (StoredIn kind a) a.marks x o → HeldAs (StoredIn kind b) b.marks x o
  held_kept x e g none h = g.marks x (own_footprint kind x e) ∙ h
  held_kept x e g (some y) h = (g.marks x (own_footprint kind x e) ∙ h.0, stored_kept kind x e g y h.1)

  pub awaits_kept : {m : ℕ} {hs : List Held} {t : Lexeme} → KeptBut kind m a b → is_marked b.marks m ≡ is_marked a.marks m → Awaits kind a m hs t → Awaits kind b m hs t
  awaits_kept {hs = hs} k e w =
      record {
        a_member = w.a_member;
        text = w.text;
        marked = e ∙ w.marked;
        absent = w.absent;
        others = λ x i n. held_kept x i (k.agree x i n) (held_at x hs) (w.others x i n);
      }

  pub all_kept : {hs : List Held} → ((x : ℕ) → is_member kind x ≡ true → Agree (footprint kind x) a b) → AllHeld kind a hs → AllHeld kind b hs
  all_kept {hs} k h = record { each = λ x i. held_kept x i (k x i) (held_at x hs) (h.each x i) }

-- ---- a name

named_as : (t : Lexeme) (m x : ℕ) → text_of t ≡ some (name_at m) → is_named (name_at x) t ≡ same_bytes (name_at x) (name_at m)
named_as t m x e = ap (some_with (same_bytes (name_at x))) e

none_held : (stored : ℕ → Json → Type 0) (marks : List ℕ) (m : ℕ) (o : Option Json) → is_marked marks m ≡ false → HeldAs stored marks m o → o ≡ none
none_held stored marks m none e h = refl
none_held stored marks m (some x) e h = absurd (true≢false (sym h.0 ∙ e))

module _ {kind : Kind} {a b : Hand} {m : ℕ} {hs : List Held} {t : Lexeme} where
  -- a member that was not seen
  pub naming_held : is_member kind m ≡ true → text_of t ≡ some (name_at m) → is_marked a.marks m ≡ false → is_marked b.marks m ≡ true → KeptBut kind m a b → AllHeld kind a hs → Awaits kind b m hs t
  naming_held i e new now k h =
      record {
        a_member = i;
        text = e;
        marked = now;
        absent = none_held (StoredIn kind a) a.marks m (held_at m hs) new (h.each m i);
        others = λ x j n. held_kept kind x j (k.agree x j n) (held_at x hs) (h.each x j);
      }

  -- ---- its value

  pub value_held : (y : Json) → KeptBut kind m a b → is_marked b.marks m ≡ is_marked a.marks m → StoredIn kind b m y → Awaits kind a m hs t → AllHeld kind b (record { name = t; value = y } ∷ hs)
  value_held y k e c w = record { each = λ x i. rw (now x i) (by_spot x i (eqb x m) refl) }
    where
      now : (x : ℕ) → is_member kind x ≡ true → held_at x (record { name = t; value = y } ∷ hs) ≡ or_else_later (held_at x hs) (cond (eqb x m) (some y) none)
      now x i =
          value_before (name_at x) hs (member t y no_member)
          ∙ ap (λ (b : Bool). or_else_later (held_at x hs) (cond b (some y) none)) (named_as t m x w.text ∙ names_apart kind x m i w.a_member)

      kept : (x : ℕ) → is_member kind x ≡ true → (o : Option Json) → HeldAs (StoredIn kind a) a.marks x o → Agree (footprint kind x) a b → HeldAs (StoredIn kind b) b.marks x (or_else_later o none)
      kept x i none h g = held_kept kind x i g none h
      kept x i (some z) h g = held_kept kind x i g (some z) h

      by_spot : (x : ℕ) → is_member kind x ≡ true → (q : Bool) → eqb x m ≡ q → HeldAs (StoredIn kind b) b.marks x (or_else_later (held_at x hs) (cond q (some y) none))
      by_spot x i true q =
          let s : x ≡ m = eqb-true x m q in
          rw (s, w.absent) (e ∙ w.marked, c)
      by_spot x i false q = kept x i (held_at x hs) (w.others x i q) (k.agree x i q)
