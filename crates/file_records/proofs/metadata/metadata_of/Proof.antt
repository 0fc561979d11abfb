-- Table by table.
use borrow.Author.Rules.{rules}
use Rattle.rules.specs.Layout.{laid_metadata}
use Rattle.file_records.specs.Decoded.{metadata_in}
use Rattle.file_records.proofs.metadata.metadata_of.Statement.{statement}
use Rattle.file_records.proofs.metadata.metadata_of.Tie as tie

returns : tie.Need-returns
unfolding laid_metadata metadata_in
returns c =
    let q = c.before in
    let p = q.before in
    let o = p.before in
    let s = o.before in
    let m = s.before in
    let l = m.before in
    let r = l.before in
    let n = r.before in
    λ t.
    record {
      fields = n.fields_of-fields.ensures t;
      snapshots = n.snapshots-snapshots.ensures t;
      refs = r.refs-refs.ensures t;
      snapshot_log = l.snapshot_log-snapshot_log.ensures t;
      metadata_log = m.metadata_log-metadata_log.ensures t;
      schemas = s.schemas-schemas.ensures t;
      sort_orders = o.sort_orders-sort_orders.ensures t;
      statistics = p.statistics-statistics.ensures t;
      partition_statistics = q.statistics-partition_statistics.ensures t;
      partition_specs = c.partition_specs-partition_specs.ensures t;
    }

pub metadata_of_spec : {M : Type 1} → statement M
metadata_of_spec =
    tie.close
    (tie.spec
    (λ c κs. search rules)
    (λ c κs. search rules)
    (λ c κs. search rules)
    (λ c κs. search rules)
    (λ c κs. search rules)
    (λ c κs. search rules)
    (λ c κs. search rules)
    (λ c κs. search rules)
    (λ c κs. search rules)
    (λ c κs. search rules)
    returns)
