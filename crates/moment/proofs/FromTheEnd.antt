-- Reading from the end. One entry more at the end decides alone if it is a hit; otherwise it is read, and the answer is that of the others.
use Prim.Native.Nat.{◌+◌}
use mathlib.Core.Path.{◌≡◌, refl, ◌∙◌}
use mathlib.Core.Bool.{Bool, true, false, or-false}
use mathlib.Core.List.{List, [], ◌∷◌, ◌++◌, reverse, append-nil, reverse-cons, reverse-reverse}
use mathlib.Core.Option.{some}
use native.Mathlib.Omega.{arith}
use borrow.Table.Steps.{cases}
use lib.IntN.{ℤ}
use lib.ListN.{length-append}
use Rattle.rules.specs.Words.{any, keep, last_of, after_last}
use Rattle.rules.specs.Register.{LogEntry}
use Rattle.rules.specs.Moment.{is_by, current_at, entries_read}
use Rattle.rules.proofs.Checks.{or_right}
use Rattle.rules.proofs.Replay.Lists.{keep_append, any_append}
use Rattle.moment.specs.Reading.{until_hit}

-- ---- one element more at the end

module _ {A : Type 0} where
  last_added_lem : (l : List A) (x : A) → last_of (l ++ (x ∷ [])) ≡ some x
  last_added_lem [] x = refl
  last_added_lem (y ∷ l) x = rw (last_added_lem l x)

module _ {A : Type 0} (p : A → Bool) (x : A) where
  any_hit : (l : List A) → p x ≡ true → any p (l ++ (x ∷ [])) ≡ true
  any_hit l e = any_append p l (x ∷ []) ∙ or_right (any p l) (rw e)

  any_late : (l : List A) → p x ≡ false → any p (l ++ (x ∷ [])) ≡ any p l
  any_late l e = any_append p l (x ∷ []) ∙ rw e (or-false (any p l))

  after_hit : (l : List A) → p x ≡ true → after_last p (l ++ (x ∷ [])) ≡ []
  after_hit [] e = rw e
  after_hit (y ∷ l) e = rw (any_hit l e) (after_hit l e)

  after_late : (l : List A) → p x ≡ false → any p l ≡ true → after_last p (l ++ (x ∷ [])) ≡ after_last p l ++ (x ∷ [])
  after_late [] e h = rw e
  after_late (y ∷ l) e h =
      cases (any p l)
      (λ t. rw (any_late l e, t) (after_late l e t))
      (λ f. rw (any_late l e, f, rw (f, or-false) at h))

module _ (time : ℤ) (log : List LogEntry) (x : LogEntry) where
  abbrev longer : List LogEntry
  longer = log ++ (x ∷ [])

  pub current_hit : is_by time x ≡ true → current_at time longer ≡ some x
  unfolding current_at
  current_hit e = rw (keep_append (is_by time) log (x ∷ []), e) (last_added_lem (keep (is_by time) log) x)

  pub read_hit : is_by time x ≡ true → entries_read time longer ≡ 1
  unfolding entries_read
  read_hit e = rw (any_hit (is_by time) x log e, after_hit (is_by time) x log e)

  pub current_late : is_by time x ≡ false → current_at time longer ≡ current_at time log
  unfolding current_at
  current_late e = rw (keep_append (is_by time) log (x ∷ []), e, append-nil)

  pub read_late : is_by time x ≡ false → entries_read time longer ≡ entries_read time log + 1
  unfolding entries_read
  read_late e =
      cases (any (is_by time) log)
      (λ t. rw (any_late (is_by time) x log e, t, after_late (is_by time) x log e t) (simp length-append (omega arith)))
      (λ f. rw (any_late (is_by time) x log e, f) (simp length-append (omega arith)))

-- ---- the reading itself

back : (time : ℤ) (read : List LogEntry) → until_hit (is_by time) read ≡ (current_at time (reverse read), entries_read time (reverse read))
unfolding current_at entries_read
back time [] = refl
back time (x ∷ read) =
    cases (is_by time x)
    (λ t. rw (t, reverse-cons x read, current_hit time (reverse read) x t, read_hit time (reverse read) x t))
    (λ f. rw (f, back time read, reverse-cons x read, current_late time (reverse read) x f, read_late time (reverse read) x f))

-- a reading from the end that stops at the first hit finds what the rule finds in the whole log, and reads as many entries as the rule says
pub from_the_end : (time : ℤ) (log : List LogEntry) → until_hit (is_by time) (reverse log) ≡ (current_at time log, entries_read time log)
from_the_end time log = back time (reverse log) ∙ rw (reverse-reverse log)
