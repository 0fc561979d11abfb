-- Names in another order: a name that may stand behind another may stand before it.
use Prim.Native.Nat.{ℕ}
use mathlib.Core.Path.{◌≡◌, refl, sym, ap, ◌∙◌}
use mathlib.Core.Bool.{Bool, true, false, cond, not, ◌||◌, true≢false}
use mathlib.Core.List.{List}
use mathlib.Core.Option.{Option, none, some}
use borrow.Table.Steps.{cases}
use borrow.Author.Tests.{not-true}
use Rattle.rules.specs.Words.{is_some, same_bytes}
use Rattle.rules.proofs.Checks.{or_left}
use Rattle.rules.proofs.Orders.{names_told_lem}
use Rattle.json_rule.specs.Members.{is_one_of}
use Rattle.json_rule.specs.Defects.{with_name}
use Rattle.file_rule.specs.Tables.{FileKind, Published}
use Rattle.file_rule.specs.FileDefects.{row_by, is_repeated, skips_unknown}

-- ---- names that were seen

-- the same names, in whatever order
abbrev pub SameSeen : List (List ℕ) → List (List ℕ) → Type 0
SameSeen seen other = (w : List ℕ) → is_one_of seen w ≡ is_one_of other w

pub with_seen : (seen other : List (List ℕ)) → SameSeen seen other → (o : Option (List ℕ)) → SameSeen (with_name seen o) (with_name other o)
with_seen seen other h none = h
with_seen seen other h (some name) = λ w. ap (λ (b : Bool). same_bytes w name || b) (h w)

or_turned : (a b c : Bool) → (a || (b || c)) ≡ (b || (a || c))
or_turned true true c = refl
or_turned true false c = refl
or_turned false b c = refl

pub turned_seen : (seen : List (List ℕ)) (o p : Option (List ℕ)) → SameSeen (with_name (with_name seen o) p) (with_name (with_name seen p) o)
turned_seen seen none none w = refl
turned_seen seen none (some b) w = refl
turned_seen seen (some a) none w = refl
turned_seen seen (some a) (some b) w = or_turned (same_bytes w b) (same_bytes w a) (is_one_of seen w)

pub repeated_seen : (seen other : List (List ℕ)) → SameSeen seen other → (o : Option (List ℕ)) → is_repeated seen o ≡ is_repeated other o
repeated_seen seen other h none = refl
repeated_seen seen other h (some name) = h name

or_false_left : (a b : Bool) → (a || b) ≡ false → a ≡ false
or_false_left true b e = absurd (true≢false e)
or_false_left false b e = refl

or_false_right : (a b : Bool) → (a || b) ≡ false → b ≡ false
or_false_right true b e = absurd (true≢false e)
or_false_right false b e = e

-- what is new behind a name is new without it
pub new_before : (seen : List (List ℕ)) (o p : Option (List ℕ)) → is_repeated (with_name seen o) p ≡ false → is_repeated seen p ≡ false
new_before seen none p e = e
new_before seen (some a) none e = refl
new_before seen (some a) (some b) e = or_false_right (same_bytes b a) (is_one_of seen b) e

-- two names that are new one behind the other are new the other way round, or are one name that was not tested
pub new_behind : (seen : List (List ℕ)) (o p : Option (List ℕ)) → is_repeated seen o ≡ false → (o ≡ p → is_repeated (with_name seen o) p ≡ false) → is_repeated (with_name seen p) o ≡ false
new_behind seen none p e d = refl
new_behind seen (some a) none e d = e
new_behind seen (some a) (some b) e d =
    cases (same_bytes a b)
    (λ s. let q : a ≡ b = names_told_lem.equal a b s in
    absurd (true≢false (sym (or_left (is_one_of seen b) (ap (λ (x : List ℕ). same_bytes b x) q ∙ names_told_lem.itself b)) ∙ d (ap some q))))
    (λ s. rw (s, e))

-- ---- names by a table

-- a name that is published and new, or may be skipped
abbrev pub name_test : FileKind → List Published → List (List ℕ) → Option (List ℕ) → Bool
name_test kind rows seen o = cond (is_some (row_by rows o)) (not (is_repeated seen o)) (skips_unknown kind)

-- the row of a new name
abbrev pub new_row : List Published → List (List ℕ) → Option (List ℕ) → Option Published
new_row rows seen o = cond (is_repeated seen o) none (row_by rows o)

pub record TurnedNames (kind : FileKind) (rows : List Published) (seen : List (List ℕ)) (o p : Option (List ℕ)) : Type 0 where
  pub first : name_test kind rows seen p ≡ true
  pub second : name_test kind rows (with_name seen p) o ≡ true
  pub first_row : new_row rows seen p ≡ new_row rows (with_name seen o) p
  pub second_row : new_row rows (with_name seen p) o ≡ new_row rows seen o

either_none : (b c : Bool) → ◌≡◌ {A = Option Published} (cond b none none) (cond c none none)
either_none true true = refl
either_none true false = refl
either_none false true = refl
either_none false false = refl

module _ (kind : FileKind) (rows : List Published) (seen : List (List ℕ)) where
  -- of one name, with two lists of names before it
  same_test : (other : List (List ℕ)) (o : Option (List ℕ)) (r : Option Published) → row_by rows o ≡ r → (is_some r ≡ true → is_repeated seen o ≡ is_repeated other o) → name_test kind rows seen o ≡ name_test kind rows other o
  same_test other o none e h = rw e
  same_test other o (some r) e h = rw (e, h refl)

  same_row : (other : List (List ℕ)) (o : Option (List ℕ)) (r : Option Published) → row_by rows o ≡ r → (is_some r ≡ true → is_repeated seen o ≡ is_repeated other o) → new_row rows seen o ≡ new_row rows other o
  same_row other o none e h = rw e (either_none (is_repeated seen o) (is_repeated other o))
  same_row other o (some r) e h = rw (e, h refl)

  -- a name that passed and is published is new
  passed_new : (o : Option (List ℕ)) → name_test kind rows seen o ≡ true → is_some (row_by rows o) ≡ true → is_repeated seen o ≡ false
  passed_new o e s = not-true (is_repeated seen o) (rw s at e)

module _ (kind : FileKind) (rows : List Published) (seen : List (List ℕ)) (o p : Option (List ℕ)) (e : name_test kind rows seen o ≡ true) (d : name_test kind rows (with_name seen o) p ≡ true) where
  -- both ways round, where they are published
  p_new : is_some (row_by rows p) ≡ true → is_repeated (with_name seen o) p ≡ false
  p_new s = passed_new kind rows (with_name seen o) p d s

  o_new : is_some (row_by rows o) ≡ true → is_repeated (with_name seen p) o ≡ false
  o_new s = new_behind seen o p (passed_new kind rows seen o e s) (λ q. p_new (ap (λ (n : Option (List ℕ)). is_some (row_by rows n)) (sym q) ∙ s))

  p_same : (r : Option Published) → row_by rows p ≡ r → is_some r ≡ true → is_repeated seen p ≡ is_repeated (with_name seen o) p
  p_same r q s = let n : is_repeated (with_name seen o) p ≡ false = p_new (ap is_some q ∙ s) in new_before seen o p n ∙ sym n

  o_same : (r : Option Published) → row_by rows o ≡ r → is_some r ≡ true → is_repeated (with_name seen p) o ≡ is_repeated seen o
  o_same r q s = o_new (ap is_some q ∙ s) ∙ sym (passed_new kind rows seen o e (ap is_some q ∙ s))

  pub turned_names : TurnedNames kind rows seen o p
  turned_names = record {
    first = same_test kind rows seen (with_name seen o) p (row_by rows p) refl (p_same (row_by rows p) refl) ∙ d;
    second = same_test kind rows (with_name seen p) seen o (row_by rows o) refl (o_same (row_by rows o) refl) ∙ e;
    first_row = same_row kind rows seen (with_name seen o) p (row_by rows p) refl (p_same (row_by rows p) refl);
    second_row = same_row kind rows (with_name seen p) seen o (row_by rows o) refl (o_same (row_by rows o) refl);
  }
