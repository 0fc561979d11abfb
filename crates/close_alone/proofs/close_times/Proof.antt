-- The loop ends since its turns are counted; the ids that are lent are those of the table, which no turn changes.
use mathlib.Core.Path.{◌≡◌, refl, sym}
use mathlib.Core.List.{List}
use borrow.Author.Rules.{rules}
use lib.IntN.{pos}
use Rattle.rules.specs.Register as plain
use Rattle.rules.specs.Layout.{pad, read_snapshots}
use Rattle.tables.specs.Laid.{LaidSnapshots}
use Rattle.builder.specs.Pieces.{ids_of}
use Rattle.refinement.proofs.Beginning.{start_snapshots}
use Rattle.refinement.proofs.Closed.{lent, lent_within, lent_slice}
use Rattle.close_alone.proofs.Before.{asked}
use Rattle.close_alone.proofs.close_times.Statement.{statement}
use Rattle.close_alone.proofs.close_times.Tie as tie

abbrev invariant_loop : tie.invariant-loop-left
invariant_loop times m terms text held ids none closed₀ left₀ closed left = Unit {0}

abbrev decreases_loop : tie.decreases-loop-left
decreases_loop times m terms text held ids none closed₀ left₀ closed left = left

module _ (c : tie.After-ids_of-ids invariant_loop decreases_loop) where
  abbrev start : tie.Start invariant_loop decreases_loop
  start = c.before.before.before

  abbrev held : List plain.Snapshot
  held = read_snapshots start.args.m.snapshots

  table : LaidSnapshots start.args.m.snapshots
  table = start_snapshots (asked start.args.m start.args.terms start.args.text.now) start.requires

  ids : c.ids_of-ids.result ≡ pad 64 (pos 0) (ids_of held)
  ids = c.ids_of-ids.ensures table

pub close_times_spec : {M : Type 1} → statement M
close_times_spec =
    tie.close
    (tie.spec
    invariant_loop
    decreases_loop
    (λ c κs. search rules)
    (λ c κs. search rules)
    (λ c. tt)
    (λ c. let t = c.before.before.before in lent_within (held t) (sym (table t).back) (ids t) (table t).fits)
    (λ c. let t = c.before.before.before.before in lent_slice (held t) (sym (table t).back) (ids t))
    (λ c. search rules)
    (λ c. search rules)
    (λ c κs. let t = c.before.before.before.before.before in ((start t).requires, (lent (held t) (sym (table t).back) (ids t), refl)))
    (λ c. search rules)
    (λ c. search rules)
    (λ c. tt)
    (λ c. search rules))
