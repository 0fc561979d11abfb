-- A choice among ids, where -1 stands for the last added, as the code makes it: of a flag and a number, and of checks one after the other.
use Prim.Native.Nat.{ℕ}
use mathlib.Core.Path.{◌≡◌, refl, sym, ap, ap₂, subst, ◌∙◌}
use mathlib.Core.Bool.{Bool, true, false, cond, not, ◌&&◌}
use mathlib.Core.Option.{Option, none, some}
use lib.IntN.{ℤ, pos}
use lib.Pow.{pow_pos}
use mir.Syntax.{Width}
use mir.Val.{SFits, hbits}
use Rattle.rules.specs.Words.{eq_z, is_some, or_else, some_with, first_of}
use Rattle.rules.specs.Register.{last_added}
use Rattle.rules.specs.SchemaUpdates.{chosen, choice_checks, choice_logged}
use Rattle.rules.specs.Layout.{given}
use Rattle.rules.proofs.Checks.{by_test}
use Rattle.rules.proofs.Slots.Relaid.{flag_given}
use Rattle.builder.specs.Added.{Chosen}

-- a number laid behind its flag is read back
pub given_back : (o : Option ℤ) → given (is_some o) (or_else o (pos 0)) ≡ o
given_back none = refl
given_back (some z) = refl

-- it is the last added: the flag is set, and the number is the same
pub is_last : (h : Bool) (x : ℤ) (p : ℤ → Bool) → (h && p x) ≡ some_with p (given h x)
is_last true x p = refl
is_last false x p = refl

-- the last added one where it is asked for and there is one, else the id itself
picked : (asked h : Bool) (x id : ℤ) → cond (asked && h) x id ≡ cond asked (or_else (given h x) id) id
picked true true x id = refl
picked true false x id = refl
picked false true x id = refl
picked false false x id = refl

pub chosen_is : (h : Bool) (x id : ℤ) → cond (eq_z id last_added && h) x id ≡ chosen id (given h x)
chosen_is h x id = picked (eq_z id last_added) h x id

-- 14, then 15
choice_number : (id : ℤ) (h : Bool) (x current : ℤ) (held : ℤ → Bool) (c : ℤ) → c ≡ chosen id (given h x)
    → cond (eq_z id last_added && not h) 14 (cond (not (eq_z c current) && not (held c)) 15 0) ≡ first_of (choice_checks id (given h x) current held)
choice_number id h x current held c e = rw (e, flag_given h x)

-- from what each call gives, where the last added, the current and the held ones are a state's
module _ (id : ℤ) (h : Bool) (y : ℤ) {now x logged current : ℤ} {last : Option ℤ} {held held' : ℤ → Bool} {asked same has : Bool} {later number : ℕ}
    (o : given h y ≡ last) (k : now ≡ current) (m : held ≡ held')
    (a : asked ≡ eq_z id last_added) (c : x ≡ chosen id (given h y)) (s : same ≡ eq_z x now) (g : has ≡ held x)
    (l : later ≡ cond (not same && not has) 15 0) (n : number ≡ cond (asked && not h) 14 later) (w : logged ≡ choice_logged x (given h y)) where
  pub choice : Chosen id last current held' number same x logged
  choice =
      let v : x ≡ chosen id last = c ∙ ap (chosen id) o in
      let u : number ≡ first_of (choice_checks id (given h y) now held) = n ∙ rw (l, s, g, a) (choice_number id h y now held x c) in
      record {
        checked = u ∙ rw (o, k, m);
        unchanged = s ∙ ap₂ eq_z v k;
        takes = v;
        logs = w ∙ ap₂ choice_logged v o;
      }

-- the same of the ids by other names
pub chosen_as : {id id' : ℤ} {last last' : Option ℤ} {current current' : ℤ} {held held' : ℤ → Bool} {number : ℕ} {same : Bool} {x logged : ℤ} → id ≡ id' → last ≡ last' → current ≡ current' → held ≡ held'
    → Chosen id last current held number same x logged → Chosen id' last' current' held' number same x logged
chosen_as e f g h k = rw (← e, ← f, ← g, ← h) k

-- ---- what is chosen and what is logged fit where the id and the last added do

module _ (w : Width) {id : ℤ} (h : Bool) (y : ℤ) {current : ℤ} {held : ℤ → Bool} {number : ℕ} {same : Bool} {x logged : ℤ} (k : Chosen id (given h y) current held number same x logged) (f : SFits w id) (g : SFits w y) where
  chosen_fits : SFits w (chosen id (given h y))
  chosen_fits = by_test (λ (z : ℤ). SFits w z) (eq_z id last_added) (λ e. last_fits h) (λ e. f)
    where
      last_fits : (t : Bool) → SFits w (or_else (given t y) id)
      last_fits true = g
      last_fits false = f

  pub takes_fits : SFits w x
  takes_fits = subst (SFits w) (sym k.takes) chosen_fits

  pub logs_fits : SFits w logged
  logs_fits = subst (SFits w) (sym k.logs) (by_test (λ (z : ℤ). SFits w z) (some_with (eq_z (chosen id (given h y))) (given h y)) (λ e. record { sfits = pow_pos (hbits w) }) (λ e. chosen_fits))
