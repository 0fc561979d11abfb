-- A reading from the end: where it starts, what a hit and an entry that is too late change, and what it has found when it ends.
use Prim.Native.Nat.{ℕ, ◌+◌, ◌-◌, ◌≤◌, ◌<◌}
use mathlib.Core.Path.{◌≡◌, sym, ap, ◌∙◌}
use mathlib.Core.Bool.{true, false}
use mathlib.Core.List.{List, [], ◌∷◌, ◌++◌}
use mathlib.Core.Option.{none, some}
use native.Mathlib.Numerals.{add-one}
use native.Mathlib.Omega.{arith}
use lib.IntN.{ℤ}
use lib.ListN.{length, take, drop}
use lib.Seq.{take-length, take-suc, drop-length, drop-cons}
use Rattle.rules.specs.Moment.{is_by, current_at, entries_read}
use Rattle.rules.specs.Register.{LogEntry}
use Rattle.moment.specs.Reading.{entry_at, Read}
use Rattle.moment.proofs.FromTheEnd.{current_hit, read_hit, current_late, read_late}

-- up to a place and it, the log ends with what stands there
up_to : (log : List LogEntry) (at : ℕ) → at < length log → take (at + 1) log ≡ take at log ++ (entry_at log at ∷ [])
up_to log at h = rw add-one (take-suc log at _ h)

-- from a place on, the log begins with what stands there
pub from : (log : List LogEntry) (at : ℕ) → at < length log → drop at log ≡ entry_at log at ∷ drop (at + 1) log
from log at h = rw add-one (drop-cons log at _ h)

module _ {time : ℤ} {log : List LogEntry} where
  pub starts : (n : ℕ) → n ≡ length log → Read time log 0 n
  starts n e =
      record {
        before = omega arith;
        within = omega arith;
        late = rw (e, drop-length log);
        current = rw (e, take-length log);
        read = rw (e, take-length log) (omega arith);
        by = λ h. absurd (omega arith);
      }

  module _ {hit end : ℕ} (r : Read time log hit end) where
    pub hits : (at : ℕ) → at < end → is_by time (entry_at log at) ≡ true → Read time log (at + 1) end
    hits at h e =
        record {
          before = omega arith;
          within = r.within;
          late = r.late;
          current = r.current;
          read = r.read;
          by = λ _. let s : (at + 1) - 1 ≡ at = omega arith in rw s e;
        }

    -- only the last that is not read yet may be passed over
    pub passes : (at : ℕ) → hit ≤ at → at + 1 ≡ end → is_by time (entry_at log at) ≡ false → Read time log hit at
    passes at h s e =
        let u : take end log ≡ take at log ++ (entry_at log at ∷ []) = rw (sym s) (up_to log at (omega (arith, r.within))) in
        record {
          before = h;
          within = omega (arith, r.within);
          late = rw (from log at (omega (arith, r.within)), e, s) r.late;
          current = r.current ∙ ap (current_at time) u ∙ current_late time (take at log) _ e;
          read = omega (arith, r.within, r.read ∙ ap (λ (l : List LogEntry). entries_read time l + (length log - end)) u, read_late time (take at log) (entry_at log at) e);
          by = r.by;
        }

  -- ---- at the end

  module _ {k : ℕ} (r : Read time log k k) where
    module _ (z : k ≡ 0) where
      pub current_none : current_at time log ≡ none
      unfolding current_at
      current_none = r.current ∙ rw z

      pub read_all : entries_read time log ≡ length log
      unfolding entries_read
      read_all = r.read ∙ rw z (omega arith)

    module _ (at : ℕ) (s : at + 1 ≡ k) where
      here : is_by time (entry_at log at) ≡ true
      here = let p : k - 1 ≡ at = omega arith in rw p at (r.by (omega arith))

      up_to_hit : take k log ≡ take at log ++ (entry_at log at ∷ [])
      up_to_hit = rw (sym s) (up_to log at (omega (arith, r.within)))

      pub current_here : current_at time log ≡ some (entry_at log at)
      current_here = r.current ∙ ap (current_at time) up_to_hit ∙ current_hit time (take at log) _ here

      pub read_here : entries_read time log ≡ length log - at
      read_here = omega (arith, r.within, r.read ∙ ap (λ (l : List LogEntry). entries_read time l + (length log - k)) up_to_hit, read_hit time (take at log) (entry_at log at) here)
