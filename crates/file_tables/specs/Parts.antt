-- What a part of the file speaks of: the single fields and some of the tables. The others are empty.
use Rattle.std.specs.Prelude.{List, []}
use Rattle.rules.specs.Register.{SingleFields, Snapshot, LogEntry, FileEntry, NamedRef, Schema, SortOrder, StatisticsFile, PartitionSpec, Metadata}

abbrev pub of_rest : SingleFields → List SortOrder → List NamedRef → List StatisticsFile → List StatisticsFile → Metadata
of_rest f orders refs files others =
    record {
      fields = f;
      snapshots = [];
      refs = refs;
      snapshot_log = [];
      metadata_log = [];
      schemas = [];
      orders = orders;
      statistics = files;
      partition_statistics = others;
      specs = [];
    }

abbrev pub of_snapshots : SingleFields → List Snapshot → List LogEntry → List FileEntry → Metadata
of_snapshots f l log files =
    record {
      fields = f;
      snapshots = l;
      refs = [];
      snapshot_log = log;
      metadata_log = files;
      schemas = [];
      orders = [];
      statistics = [];
      partition_statistics = [];
      specs = [];
    }

abbrev pub of_schemas : SingleFields → List Schema → Metadata
of_schemas f l =
    record {
      fields = f;
      snapshots = [];
      refs = [];
      snapshot_log = [];
      metadata_log = [];
      schemas = l;
      orders = [];
      statistics = [];
      partition_statistics = [];
      specs = [];
    }

abbrev pub of_specs : SingleFields → List PartitionSpec → Metadata
of_specs f l =
    record {
      fields = f;
      snapshots = [];
      refs = [];
      snapshot_log = [];
      metadata_log = [];
      schemas = [];
      orders = [];
      statistics = [];
      partition_statistics = [];
      specs = l;
    }

abbrev pub of_fields : SingleFields → Metadata
of_fields f = of_schemas f []
