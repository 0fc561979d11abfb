-- Each part is given what the later ones found.
use mathlib.Core.Path.{refl}
use borrow.Author.Rules.{rules}
use Rattle.faults.specs.Faults.{field_faults, snapshot_faults, ref_faults, snapshot_log_faults, metadata_log_faults, schema_faults, order_faults, spec_faults, statistics_faults, part_faults}
use Rattle.faults.proofs.Picked.{join}
use Rattle.faults.proofs.Parts.{from_snapshots, from_refs, from_snapshot_log, from_metadata_log, from_schemas, from_orders, from_statistics, from_partition, from_specs}
use Rattle.faults.proofs.part_fault.Statement.{statement}
use Rattle.faults.proofs.part_fault.Tie as tie

returns : tie.Need-returns
unfolding part_faults field_faults snapshot_faults ref_faults snapshot_log_faults metadata_log_faults schema_faults order_faults spec_faults statistics_faults
returns c =
    let r = c.before.before in
    let l = r.before.before in
    let g = l.before.before in
    let s = g.before.before in
    let o = s.before.before in
    let t = o.before.before in
    let q = t.before.before in
    let p = q.before.before in
    let m = p.args.m in
    join (field_faults m.fields) (from_snapshots m) refl c.fields_fault.ensures
    (join (snapshot_faults m.snapshots) (from_refs m) refl r.snapshots_fault.ensures
    (join (ref_faults m.refs) (from_snapshot_log m) refl l.refs_fault.ensures
    (join (snapshot_log_faults m.snapshot_log) (from_metadata_log m) refl g.snapshot_log_fault.ensures
    (join (metadata_log_faults m.metadata_log) (from_schemas m) refl s.metadata_log_fault.ensures
    (join (schema_faults m.schemas) (from_orders m) refl o.schemas_fault.ensures
    (join (order_faults m.sort_orders) (from_statistics m) refl t.orders_fault.ensures
    (join (statistics_faults 22 m.statistics) (from_partition m) refl q.statistics_fault-2.ensures
    (join (statistics_faults 25 m.partition_statistics) (from_specs m) refl p.statistics_fault.ensures
    p.specs_fault-specs.ensures
    p.or_later-partition.ensures)
    q.or_later-statistics.ensures)
    t.or_later-orders.ensures)
    o.or_later-schemas.ensures)
    s.or_later-files.ensures)
    g.or_later-log.ensures)
    l.or_later-refs.ensures)
    r.or_later-snapshots.ensures)
    c.or_later.ensures

pub part_fault_spec : {M : Type 1} → statement M
part_fault_spec =
    tie.close
    (tie.spec
    (λ c κs. search rules)
    (λ c κs. search rules)
    (λ c κs. search rules)
    (λ c κs. search rules)
    (λ c κs. search rules)
    (λ c κs. search rules)
    (λ c κs. search rules)
    (λ c κs. search rules)
    (λ c κs. search rules)
    (λ c κs. search rules)
    (λ c κs. search rules)
    (λ c κs. search rules)
    (λ c κs. search rules)
    (λ c κs. search rules)
    (λ c κs. search rules)
    (λ c κs. search rules)
    (λ c κs. search rules)
    (λ c κs. search rules)
    (λ c κs. search rules)
    returns)
