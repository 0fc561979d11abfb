-- The loop has those of the entries up to `i`.
use Prim.Native.Nat.{◌-◌, ◌≤◌, ◌<◌}
use mathlib.Core.Path.{◌≡◌, refl}
use native.Mathlib.Omega.{arith}
use borrow.Author.Rules.{rules}
use lib.ListN.{length, get_or}
use Rattle.records.specs.Blanks.{no_log_entry}
use Rattle.rules.specs.Layout.{read_log_entry, read_snapshot_log}
use Rattle.moment.specs.Reading.{entry_at}
use Rattle.moment.proofs.Slots.{slots, read_length, read_at}
use Rattle.moment.proofs.Spans.{Gathered, gather_starts, gathered_count, gathers, leaves, gathered_all}
use Rattle.moment.proofs.answered_within.Statement.{statement}
use Rattle.moment.proofs.answered_within.Tie as tie

abbrev invariant_loop : tie.invariant-loop-i
invariant_loop first last log n r₀ i₀ r i = Gathered first.0 last.0 (read_snapshot_log log) r i

abbrev decreases_loop : tie.decreases-loop-i
decreases_loop first last log n r₀ i₀ r i = n - i

module _ (l : tie.At-loop-i invariant_loop decreases_loop) where
  fits : length (read_snapshot_log l.args.log) ≤ 128
  fits = omega (arith, read_length l.args.log, l.requires)

  -- no more were gathered than entries were passed
  counts : l.loop-i.r.count ≤ l.loop-i.i
  counts = omega (arith, gathered_count l.loop-i.invariant, l.loop-i.invariant.short)

  module _ (h : l.loop-i.i < l.args.log.count) where
    inside : l.loop-i.i < length (read_snapshot_log l.args.log)
    inside = omega (arith, read_length l.args.log)

    slot : entry_at (read_snapshot_log l.args.log) l.loop-i.i ≡ read_log_entry (get_or l.args.log.items l.loop-i.i no_log_entry)
    slot =
        let room : length l.args.log.items ≡ 128 = search (rules, slots) in
        read_at l.args.log l.loop-i.i h (omega (arith, l.requires))

pub answered_within_spec : {M : Type 1} → statement M
answered_within_spec =
    tie.close
    (tie.spec
    invariant_loop
    decreases_loop
    (λ c κs. search rules)
    (λ c. gather_starts c.blank-r.ensures)
    (λ c. search rules)
    (λ c κs. search rules)
    (λ c. search rules)
    (λ c. search rules)
    (λ c. omega (arith, counts c.before.before.before.before))
    (λ c. omega (arith, counts c.before.before.before.before))
    (λ c. omega (arith, counts c.before.before.before.before))
    (λ c. search rules)
    (λ c. let l = c.before.before.before.before in
    let h = c.loop-i-test.true in
    gathers l.loop-i.invariant (inside l h) _ (slot l h) c.answers_within.ensures c.if-answers_within.true (fits l) refl refl)
    (λ c. search rules)
    (λ c. let l = c.before.before.before in leaves l.loop-i.invariant (inside l c.loop-i-test.true) c.answers_within.ensures c.if-answers_within.false)
    (λ c. gathered_all c.loop-i.invariant (omega (arith, read_length c.args.log))))
