-- The answers of the close, in the rules' words.
use Rattle.std.specs.Prelude.{◌≡◌, Bool, cond, not, ◌&&◌, List, [], ◌∷◌, ℤ}
use Rattle.std.proofs.Math.Option.{Option}
use Rattle.records.specs.declared.counters.Time.{Time}
use Rattle.records.specs.declared.metadata.SingleFields.{SingleFields}
use Rattle.records.specs.declared.reference.Refs.{Refs}
use Rattle.records.specs.declared.schema.Schema.{Schema}
use Rattle.records.specs.declared.sort_order.SortOrders.{SortOrders}
use Rattle.records.specs.declared.partition.PartitionSpecs.{PartitionSpecs}
use Rattle.records.specs.declared.run.RunTerms.{RunTerms}
use Rattle.rules.specs.Words.{if_some}
use Rattle.rules.specs.Register.{LogEntry, FileEntry, Metadata, Update}
use Rattle.rules.specs.Layout.{read_fields, read_refs, read_sort_orders, read_partition_specs, laid_snapshot_log, read_text}
use Rattle.rules.specs.Close.{is_rebuilt, history, ends_at}
use Rattle.builder.specs.Pieces.{IsCurrent}
use Rattle.close.specs.declared.history.History.{History}

-- the snapshot log that a change log leaves
pub record HistoryOf (l : List Update) (p : Metadata) (h : History) : Type 0 where
  pub rebuilt : h.rebuilt ≡ is_rebuilt l p
  pub log : h.log ≡ laid_snapshot_log (history l p)

-- the log was rebuilt, a snapshot is current, and the log does not end at it
abbrev pub ends_off : Bool → List LogEntry → Option ℤ → Bool
ends_off rebuilt log current = rebuilt && not (if_some (λ id. ends_at id log) current)

-- metadata as the close is handed it
pub record Handed (p : Metadata) (f : SingleFields) (refs : Refs) (schema : Schema) (orders : SortOrders) (specs : PartitionSpecs) : Type 0 where
  pub single : read_fields f ≡ p.fields
  pub named : read_refs refs ≡ p.refs
  pub current : IsCurrent p schema
  pub sorts : read_sort_orders orders ≡ p.orders
  pub partitions : read_partition_specs specs ≡ p.specs

-- the entry that joins the metadata log, if one does
abbrev pub joining : RunTerms → Time → List FileEntry
joining terms old = cond terms.has_file (record { file = read_text terms.file; time = old.0 } ∷ []) []
