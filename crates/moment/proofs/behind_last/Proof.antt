-- The loop goes back from the end: a turn finds a hit, and is the last, or passes over the last entry that is not read yet.
use Prim.Native.Nat.{ℕ, ◌-◌, ◌≤◌, ◌<◌}
use mathlib.Core.Path.{◌≡◌, sym, ap, ◌∙◌}
use mathlib.Core.Bool.{Bool}
use native.Mathlib.Omega.{arith}
use borrow.Author.Rules.{rules}
use lib.ListN.{length, get_or}
use Rattle.records.specs.Blanks.{no_log_entry}
use Rattle.rules.specs.Moment.{is_by}
use Rattle.rules.specs.Layout.{read_log_entry, read_snapshot_log}
use Rattle.moment.specs.Reading.{entry_at, Read}
use Rattle.moment.proofs.Slots.{slots, read_length, read_at}
use Rattle.moment.proofs.Reading.{starts, hits, passes}
use Rattle.moment.proofs.behind_last.Statement.{statement}
use Rattle.moment.proofs.behind_last.Tie as tie

abbrev invariant_loop : tie.invariant-loop-hit
invariant_loop time log hit₀ end₀ hit end = Read time.0 (read_snapshot_log log) hit end

abbrev decreases_loop : tie.decreases-loop-hit
decreases_loop time log hit₀ end₀ hit end = end - hit

module _ (l : tie.At-loop-hit invariant_loop decreases_loop) where
  fits : l.loop-hit.end ≤ 128
  fits = omega (arith, read_length l.args.log)

  -- what is asked of a slot is asked of the entry
  asked : (at : ℕ) {t : Bool} → at < l.loop-hit.end → t ≡ is_by l.args.time.0 (read_log_entry (get_or l.args.log.items at no_log_entry)) → is_by l.args.time.0 (entry_at (read_snapshot_log l.args.log) at) ≡ t
  asked at h e =
      let room : length l.args.log.items ≡ 128 = search (rules, slots) in
      ap (is_by l.args.time.0) (read_at l.args.log at (omega (arith, read_length l.args.log)) (omega arith)) ∙ sym e

pub behind_last_spec : {M : Type 1} → statement M
behind_last_spec =
    tie.close
    (tie.spec
    invariant_loop
    decreases_loop
    (λ c. starts c.args.log.count (sym (read_length c.args.log)))
    (λ c. omega (arith, fits c.before))
    (λ c. omega (arith, fits c.before))
    (λ c. omega (arith, fits c.before))
    (λ c κs. search rules)
    (λ c. omega (arith, fits c.before.before.before.before.before))
    (λ c. omega arith)
    (λ c. let l = c.before.before.before.before.before in hits l.loop-hit.invariant _ (omega arith) (asked l _ (omega arith) c.is_by.ensures ∙ c.if-is_by.true))
    (λ c. omega arith)
    (λ c. let l = c.before.before.before.before.before in passes l.loop-hit.invariant _ (omega arith) (omega arith) (asked l _ (omega arith) c.is_by.ensures ∙ c.if-is_by.false))
    (λ c. let e : c.loop-hit.hit ≡ c.loop-hit.end = omega arith in rw e (rw e at c.loop-hit.invariant)))
