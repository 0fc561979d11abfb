-- The entries of a span, gathered from the front: whether the next is one of them is what a reading from the end says at its time.
use Prim.Native.Nat.{ℕ, zero, suc, ◌+◌, ◌-◌, ◌≤◌, ◌<◌}
use mathlib.Core.Path.{◌≡◌, refl, sym, ap, ◌∙◌}
use mathlib.Core.Bool.{Bool, true, false, cond, not, ◌&&◌, true≢false}
use mathlib.Core.List.{List, [], ◌∷◌, ◌++◌, map, map-append, append_assoc, append-nil}
use native.Mathlib.Omega.{arith}
use borrow.Author.Tests.{eqb-true, eqb-false, leb-true, leb-false, le-leb, lt-leb}
use borrow.Table.Steps.{cases}
use lib.Dec.{leb, eqb}
use lib.IntN.{ℤ}
use lib.ListN.{length, get_or, set, drop, length-append, length-map, length-drop, drop_of_length-le}
use lib.Seq.{get_or-drop}
use Rattle.records.specs.Blanks.{no_log_entry, no_snapshot_log}
use Rattle.records.specs.declared.counters.Time.{Time}
use Rattle.records.specs.declared.snapshot.SnapshotLogEntry.{SnapshotLogEntry}
use Rattle.records.specs.declared.snapshot.SnapshotLog.{SnapshotLog}
use Rattle.rules.specs.Capacities.{snapshot_log_room}
use Rattle.rules.specs.During.{is_within, answers_itself, answered_within}
use Rattle.rules.specs.Layout.{pad, read_log_entry, laid_log_entry, read_snapshot_log, laid_snapshot_log}
use Rattle.rules.specs.Moment.{is_by}
use Rattle.rules.specs.Register.{LogEntry}
use Rattle.rules.specs.Words.{any}
use Rattle.rules.proofs.Checks.{or_left, or_right}
use Rattle.rules.proofs.History.During.{at_most_itself}
use Rattle.rules.proofs.Slots.Relaid.{set_pad}
use Rattle.moment.specs.Answers.{moment_of, during_of}
use Rattle.moment.specs.Reading.{entry_at, Read}
use Rattle.moment.proofs.Reading.{from}

-- ---- whether an entry is the answer at its own time

any_at : {A : Type 0} (p : A → Bool) (d : A) (l : List A) (i : ℕ) → i < length l → p (get_or l i d) ≡ true → any p l ≡ true
any_at p d [] i h e = absurd (omega arith)
any_at p d (x ∷ l) zero h e = or_left (any p l) e
any_at p d (x ∷ l) (suc i) h e = or_right (p x) (any_at p d l i (omega arith) e)

-- an entry by the time, from a place on
by_from : (time : ℤ) (log : List LogEntry) (k i : ℕ) → k ≤ i → i < length log → is_by time (entry_at log i) ≡ true → any (is_by time) (drop k log) ≡ true
by_from time log k i h b e =
    let s : k + (i - k) ≡ i = omega arith in
    any_at (is_by time) (read_log_entry no_log_entry) (drop k log) (i - k) (simp length-drop (omega arith)) (rw (get_or-drop, s) e)

module _ (log : List LogEntry) (at : ℕ) (b : at < length log) where
  abbrev here : LogEntry
  here = entry_at log at

  module _ {k : ℕ} (r : Read here.time log k k) where
    -- a reading that stops at the entry
    pub stops_here : k ≡ at + 1 → answers_itself here (drop (at + 1) log) ≡ true
    stops_here e = ap not (rw e at r.late)

    -- a reading can not pass over the entry, so another place is behind a later one
    pub stops_later : (k ≡ at + 1 → ⊥) → answers_itself here (drop (at + 1) log) ≡ false
    stops_later n = ap not (by_from here.time log (at + 1) (k - 1) (omega (arith, passed)) (omega (arith, passed, r.within)) (r.by (omega (arith, passed))))
      where
        passed : at < k
        passed =
            cases (leb k at)
            (λ t. absurd (true≢false (sym (by_from here.time log k at (leb-true k at t) b (at_most_itself here.time)) ∙ r.late)))
            (λ f. leb-false k at f)

-- what is asked of a slot x is asked of the entry
module _ (first last : ℤ) (log : List LogEntry) (at : ℕ) (b : at < length log) {x : LogEntry} (d : entry_at log at ≡ x) where
  abbrev answers : Bool
  answers = is_within first last (entry_at log at) && answers_itself (entry_at log at) (drop (at + 1) log)

  pub too_early : is_by first x ≡ true → false ≡ answers
  too_early t = rw (d, t)

  module _ (t : is_by first x ≡ false) where
    pub too_late : is_by last x ≡ false → false ≡ answers
    too_late u = rw (d, t, u)

    pub decided : is_by last x ≡ true → {k : ℕ} → Read x.time log k k → eqb k (at + 1) ≡ answers
    decided u {k} r =
        let s : Read (entry_at log at).time log k k = rw d r in
        cases (eqb k (at + 1))
        (λ e. e ∙ sym (rw (d, t, u) (rw d at (stops_here log at b s (eqb-true k (at + 1) e)))))
        (λ e. e ∙ sym (rw (d, t, u) (rw d at (stops_later log at b s (eqb-false k (at + 1) e)))))

-- ---- the entries of a span

-- r has those of the first i
pub record Gathered (first last : ℤ) (log : List LogEntry) (r : SnapshotLog) (i : ℕ) : Type 0 where
  pub sofar : i ≤ length log
  pub out : List LogEntry
  pub short : length out ≤ i
  pub laid : r ≡ laid_snapshot_log out
  pub whole : answered_within first last log ≡ out ++ answered_within first last (drop i log)

-- one entry more in a log that was laid
pushed : (l : List LogEntry) (x : SnapshotLogEntry) {r u : SnapshotLog} → r ≡ laid_snapshot_log l → length l < snapshot_log_room
    → u.items ≡ set r.items r.count x → u.count ≡ r.count + 1 → u ≡ laid_snapshot_log (l ++ (read_log_entry x ∷ []))
unfolding laid_snapshot_log
pushed l x {r} {u} e h p q = same items count
  where
    same : {a b : SnapshotLog} → a.items ≡ b.items → a.count ≡ b.count → a ≡ b
    same v w i = record { items = v i; count = w i }

    items : u.items ≡ pad snapshot_log_room no_log_entry (map laid_log_entry (l ++ (read_log_entry x ∷ [])))
    items =
        p
        ∙ ap (λ (t : SnapshotLog). set t.items t.count x) e
        ∙ set_pad snapshot_log_room no_log_entry (map laid_log_entry l) (length l) x (length-map l laid_log_entry) h
        ∙ ap (pad snapshot_log_room no_log_entry) (sym (map-append laid_log_entry l (read_log_entry x ∷ [])))

    count : u.count ≡ length (l ++ (read_log_entry x ∷ []))
    count = q ∙ ap (λ (t : SnapshotLog). t.count + 1) e ∙ sym (length-append l (read_log_entry x ∷ []))

module _ {first last : ℤ} {log : List LogEntry} where
  pub gather_starts : {r : SnapshotLog} → r ≡ no_snapshot_log → Gathered first last log r 0
  unfolding no_snapshot_log laid_snapshot_log
  gather_starts e = record { sofar = omega arith; out = []; short = omega arith; laid = e; whole = refl }

  module _ {r : SnapshotLog} {i : ℕ} (g : Gathered first last log r i) where
    pub gathered_count : r.count ≡ length g.out
    unfolding laid_snapshot_log
    gathered_count = ap (λ (t : SnapshotLog). t.count) g.laid

    module _ (b : i < length log) where
      abbrev is_next : Bool
      is_next = is_within first last (entry_at log i) && answers_itself (entry_at log i) (drop (i + 1) log)

      next : answered_within first last (drop i log) ≡ cond is_next (entry_at log i ∷ answered_within first last (drop (i + 1) log)) (answered_within first last (drop (i + 1) log))
      unfolding answered_within
      next = rw (from log i b)

      pub gathers : (x : SnapshotLogEntry) {u : SnapshotLog} {t : Bool} → entry_at log i ≡ read_log_entry x → t ≡ is_next → t ≡ true → length log ≤ snapshot_log_room
          → u.items ≡ set r.items r.count x → u.count ≡ r.count + 1 → Gathered first last log u (i + 1)
      gathers x d e t room p q =
          record {
            sofar = omega arith;
            out = g.out ++ (read_log_entry x ∷ []);
            short = simp length-append (omega (arith, g.short));
            laid = pushed g.out x g.laid (omega (arith, g.short)) p q;
            whole = g.whole ∙ rw (next, sym e ∙ t, d, append_assoc);
          }

      pub leaves : {t : Bool} → t ≡ is_next → t ≡ false → Gathered first last log r (i + 1)
      leaves e f = record { sofar = omega arith; out = g.out; short = omega (arith, g.short); laid = g.laid; whole = g.whole ∙ rw (next, sym e ∙ f) }

    pub gathered_all : length log ≤ i → r ≡ laid_snapshot_log (answered_within first last log)
    unfolding answered_within
    gathered_all h = g.laid ∙ ap laid_snapshot_log (sym (g.whole ∙ ap (λ (l : List LogEntry). g.out ++ answered_within first last l) (drop_of_length-le log h) ∙ append-nil g.out))

-- ---- the answer

module _ (log : SnapshotLog) (first last : Time) where
  pub during_refused : snapshot_log_room < log.count → during_of log first last ≡ record { beginning = moment_of log first; later = no_snapshot_log }
  unfolding during_of
  during_refused h = rw (lt-leb log.count snapshot_log_room h)

  pub during : log.count ≤ snapshot_log_room → during_of log first last ≡ record { beginning = moment_of log first; later = laid_snapshot_log (answered_within first.0 last.0 (read_snapshot_log log)) }
  unfolding during_of
  during h = rw (le-leb log.count snapshot_log_room h)
