use Rattle.std.proofs.Common.{ap₂, ◌∙◌, List, arith}
use Rattle.rules.specs.Register.{Snapshot, NamedRef}
use Rattle.rules.specs.Walk.{snapshot_ids}
use Rattle.rules.specs.Layout.{read_refs, read_snapshots}
use Rattle.rules.specs.Kinds.{laid_updates}
use Rattle.tables.proofs.Table.{within}
use Rattle.tables.proofs.Each.{tidy_snapshots}
use Rattle.expiry.specs.List.{list_of}
use Rattle.expiry.proofs.Stored.{stored, whole, refs_read, refs_laid, snapshots_read, snapshots_laid, counted, few, short}
use Rattle.expiry.proofs.list.list_of.Goals as goal

pub parts-requires : goal.parts-requires
parts-requires c = within (tidy_snapshots (snapshots_laid c.requires.laid_snapshots c.args.reasons.stays c.leaving-gone.ensures))

pub overflow_add-count : goal.overflow_add-count
overflow_add-count c = omega (arith, few c.requires.laid_refs c.args.reasons.goes c.dropped-refs_gone.ensures c.requires.laid_snapshots c.args.reasons.stays c.leaving-gone.ensures c.parts.result c.parts.ensures.0 c.parts.ensures.1)

pub update_at-requires-clause-laid_refs : goal.update_at-requires-clause-laid_refs
update_at-requires-clause-laid_refs c = refs_laid c.requires.laid_refs c.args.reasons.goes c.dropped-refs_gone.ensures

pub update_at-requires-clause-laid_snapshots : goal.update_at-requires-clause-laid_snapshots
update_at-requires-clause-laid_snapshots c = snapshots_laid c.requires.laid_snapshots c.args.reasons.stays c.leaving-gone.ensures

pub update_at-requires-clause-place_lt_list_room :
    goal.update_at-requires-clause-place_lt_list_room
update_at-requires-clause-place_lt_list_room c = omega (arith, c.loop-place-test.true, few c.requires.laid_refs c.args.reasons.goes c.dropped-refs_gone.ensures c.requires.laid_snapshots c.args.reasons.stays c.leaving-gone.ensures c.parts.result c.parts.ensures.0 c.parts.ensures.1)

pub offset_bounds-items-place : goal.offset_bounds-items-place
offset_bounds-items-place c = omega (arith, c.loop-place-test.true, few c.requires.laid_refs c.args.reasons.goes c.dropped-refs_gone.ensures c.requires.laid_snapshots c.args.reasons.stays c.leaving-gone.ensures c.parts.result c.parts.ensures.0 c.parts.ensures.1)

pub bounds-items-place : goal.bounds-items-place
bounds-items-place c = omega (arith, c.loop-place-test.true, few c.requires.laid_refs c.args.reasons.goes c.dropped-refs_gone.ensures c.requires.laid_snapshots c.args.reasons.stays c.leaving-gone.ensures c.parts.result c.parts.ensures.0 c.parts.ensures.1)

pub loop-place-preserved : goal.loop-place-preserved
loop-place-preserved c =
    stored (read_refs c.dropped-refs_gone.result) (snapshot_ids (read_snapshots c.leaving-gone.result))
    (short c.requires.laid_refs c.args.reasons.goes c.dropped-refs_gone.ensures c.requires.laid_snapshots c.args.reasons.stays c.leaving-gone.ensures c.parts.result c.parts.ensures.0 c.parts.ensures.1)
    (omega (arith, c.loop-place-test.true, counted c.requires.laid_refs c.args.reasons.goes c.dropped-refs_gone.ensures c.requires.laid_snapshots c.args.reasons.stays c.leaving-gone.ensures c.parts.result c.parts.ensures.0 c.parts.ensures.1))
    c.loop-place.invariant
    c.update_at.ensures

pub returns : goal.returns
returns c =
    whole (read_refs c.dropped-refs_gone.result) (snapshot_ids (read_snapshots c.leaving-gone.result))
    (short c.requires.laid_refs c.args.reasons.goes c.dropped-refs_gone.ensures c.requires.laid_snapshots c.args.reasons.stays c.leaving-gone.ensures c.parts.result c.parts.ensures.0 c.parts.ensures.1)
    (counted c.requires.laid_refs c.args.reasons.goes c.dropped-refs_gone.ensures c.requires.laid_snapshots c.args.reasons.stays c.leaving-gone.ensures c.parts.result c.parts.ensures.0 c.parts.ensures.1)
    c.loop-place-test.false
    c.loop-place.invariant
    ∙ ap₂ (λ (x : List NamedRef) (y : List Snapshot). laid_updates (list_of x (snapshot_ids y)))
    (refs_read c.requires.laid_refs c.args.reasons.goes c.dropped-refs_gone.ensures)
    (snapshots_read c.requires.laid_snapshots c.args.reasons.stays c.leaving-gone.ensures)
