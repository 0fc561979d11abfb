-- Well-formed metadata has its snapshots laid out, so that the table fits its slots.
use Rattle.std.proofs.Common.{◌≡◌, true, ◌&&◌, sym, ap, ◌∙◌, arith}
use borrow.Author.Tests.{eq-eqb, ne_eqb}
use Rattle.records.specs.declared.metadata.TableMetadata.{TableMetadata}
use Rattle.rules.specs.Capacities.{snapshot_room}
use Rattle.rules.specs.WellFormed.{snapshot_formed, snapshot_below, snapshots_formed, metadata_formed}
use Rattle.rules.specs.Blanks.{is_tidy_metadata}
use Rattle.rules.specs.Layout.{read_snapshots, read_metadata, laid_metadata}
use Rattle.rules.specs.Rows.{is_apart}
use Rattle.rules.proofs.Checks.{and_left, and_right}
use Rattle.rules.proofs.Tables.{table_parts_lem}
use Rattle.rules.proofs.Slots.Relaid.{relaid}
use Rattle.rules.proofs.Sound.Metadata.{formed_sound}
use Rattle.tables.specs.Laid.{LaidSnapshots}
use Rattle.tables.proofs.Table.{within}
use Rattle.tables.proofs.Each.{tidy_snapshots}
use Rattle.row_ranges.proofs.rows_apart.Goals as goal

laid : (m : TableMetadata) → (is_tidy_metadata m && metadata_formed (read_metadata m)) ≡ true → LaidSnapshots m.snapshots
unfolding snapshots_formed laid_metadata
laid m e =
    let f : metadata_formed (read_metadata m) ≡ true = and_right (is_tidy_metadata m) (metadata_formed (read_metadata m)) e in
    record {
      back = ap (λ (x : TableMetadata). x.snapshots) (relaid m (and_left (is_tidy_metadata m) (metadata_formed (read_metadata m)) e) f);
      fits = (table_parts_lem snapshot_room snapshot_formed snapshot_below (read_snapshots m.snapshots) (formed_sound (read_metadata m) f).snapshots).0;
    }

pub table_apart-requires : goal.table_apart-requires
table_apart-requires c = omega (arith, within (tidy_snapshots (laid c.args.m (sym c.is_formed.ensures ∙ c.if-not-is_formed.false))))

pub returns-then-m-eq-ROWS_FROM : goal.returns-then-m-eq-ROWS_FROM
unfolding is_apart
returns-then-m-eq-ROWS_FROM c =
    let e = sym c.is_formed.ensures ∙ c.if-not-is_formed.false in
    rw (e, eq-eqb _ _ c.if-m-eq-ROWS_FROM.true) c.table_apart.ensures

pub returns-else-m-eq-ROWS_FROM : goal.returns-else-m-eq-ROWS_FROM
unfolding is_apart
returns-else-m-eq-ROWS_FROM c =
    let e = sym c.is_formed.ensures ∙ c.if-not-is_formed.false in
    rw (e, ne_eqb _ _ c.if-m-eq-ROWS_FROM.false)
