-- It is put where it is wanted.
use Rattle.std.proofs.Common.{arith}
use Rattle.rules.specs.Layout.{read_partition_specs}
use Rattle.file_rule.specs.Files.{spec_fields}
use Rattle.file_text.proofs.Pieces.{then, is, wanted, unwanted}
use Rattle.file_tables.proofs.Texts.{default_is}
use Rattle.file_tables.proofs.file.put_default_spec.Goals as goal

pub returns-then-wanted : goal.returns-then-wanted
returns-then-wanted c =
    wanted _ c.if-wanted.true (is (then (then c.put-named.ensures c.put_partition_fields-listed.ensures) c.put.ensures) (default_is (spec_fields c.args.id.0 (read_partition_specs c.args.t)) c.spec_by_id.ensures))

pub returns : goal.returns
returns c = unwanted _ _ c.if-wanted.false (omega arith)
