-- The rule gives the answers of the examples: one statement over the list, by computation.
use mathlib.Core.Path.{◌≡◌, refl}
use mathlib.Core.List.{map}
use Rattle.rules.specs.Partitions.{is_redundant}
use Rattle.rules.specs.WellFormed.{snapshots_formed, refs_formed, snapshot_log_formed, metadata_log_formed, schemas_formed, orders_formed, statistics_formed, specs_formed, refs_held, main_agrees, current_schema_held, default_order_held, default_spec_held, fields_formed, metadata_formed}
use Rattle.json_rule.specs.Lexemes.{is_space, is_digit, is_hex, is_short, lead_of, is_lead, string, power_digits, power, signed_power, exponent, fraction_digits, after_point, fraction, whole_digits, after_minus, letters, part_of, lexemes}
use Rattle.json_rule.specs.Values.{units, utf8, encoded, text_of, whole_number_of}
use Rattle.json_rule.specs.Tree.{is_scalar, value, text}
use Rattle.json_rule.specs.Defects.{is_uuid, is_bucket, is_transform}
use Rattle.file_rule.specs.Tables.{row_in, rows_in}
use Rattle.file_rule.specs.FileDefects.{version_of, defects, file_defects}
use Rattle.file_rule.specs.Import.{inserted, sorted, fields_of, metadata_of, skipped_in, imported}
use Rattle.file_rule.specs.Written.{digits_in, number_text, escaped_byte, quoted}
use Rattle.file_rule.specs.Files.{uuid_text, transform_text, snapshot_text, reference_text, ref_text, field_text, schema_text, partition_field_text, spec_text, sort_field_text, order_text, log_entry_text, file_entry_text, statistics_text, head_text, schemas_text, specs_text, snapshots_text, tail_text, file_text}
use Rattle.file_rule.specs.Export.{is_utf8, texts_shown, sequences_shown, rows_shown, owners_shown, export_number, exported}
use Rattle.file_rule.specs.Examples.{Example, answer_to, examples}

pub file_examples_hold : map (λ (e : Example). answer_to e.asked) examples ≡ map (λ (e : Example). e.reply) examples
unfolding is_redundant snapshots_formed refs_formed snapshot_log_formed metadata_log_formed schemas_formed orders_formed statistics_formed specs_formed refs_held main_agrees current_schema_held default_order_held default_spec_held fields_formed metadata_formed is_space is_digit is_hex is_short lead_of is_lead string power_digits power signed_power exponent fraction_digits after_point fraction whole_digits after_minus letters part_of lexemes units utf8 encoded text_of whole_number_of is_scalar value text is_uuid is_bucket is_transform row_in rows_in version_of defects file_defects inserted sorted fields_of metadata_of skipped_in imported digits_in number_text escaped_byte quoted uuid_text transform_text snapshot_text reference_text ref_text field_text schema_text partition_field_text spec_text sort_field_text order_text log_entry_text file_entry_text statistics_text head_text schemas_text specs_text snapshots_text tail_text file_text is_utf8 texts_shown sequences_shown rows_shown owners_shown export_number exported
file_examples_hold = refl
