-- The rule gives the answers of the examples: one statement over the list, by computation.
use mathlib.Core.Path.{◌≡◌, refl}
use mathlib.Core.List.{map}
use Rattle.rules.specs.WellFormed.{update_formed}
use Rattle.rules.specs.Offers.{offered_schema, is_tidy_offer, offer_formed, offered_spec, is_tidy_spec, spec_offer_formed}
use Rattle.json_rule.specs.Lexemes.{lead_of, is_lead}
use Rattle.file_rule.specs.Written.{digits_in, number_text, escaped_byte, quoted}
use Rattle.file_rule.specs.Files.{uuid_text, transform_text, snapshot_text, field_text, schema_text, sort_field_text, order_text}
use Rattle.file_rule.specs.Export.{is_utf8}
use Rattle.log_rule.specs.LogText.{sent_in, partition_text, offered_spec_text, plain_text, log_text, plain_texts, is_carried_update, is_carried, log_number, log_written}
use Rattle.log_rule.specs.Examples.{Example, answer_to, examples}

pub log_examples_hold : map (λ (e : Example). answer_to e.asked) examples ≡ map (λ (e : Example). e.reply) examples
unfolding update_formed offered_schema is_tidy_offer offer_formed offered_spec is_tidy_spec spec_offer_formed lead_of is_lead digits_in number_text escaped_byte quoted uuid_text transform_text snapshot_text field_text schema_text sort_field_text order_text is_utf8 sent_in partition_text offered_spec_text plain_text log_text plain_texts is_carried_update is_carried log_number log_written
log_examples_hold = refl
