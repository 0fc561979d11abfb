-- The examples of expiry hold of its definitions: one statement over the list, by computation.
use mathlib.Core.Path.{◌≡◌, refl}
use mathlib.Core.List.{map}
use Rattle.rules.specs.Window.{is_before}
use Rattle.rules.specs.Walk.{follow, reach}
use Rattle.rules.specs.Moment.{current_at, entries_read}
use Rattle.rules.proofs.Examples.{computed}
use Rattle.retention.specs.Retention.{goes, retained, is_retained}
use Rattle.retention.specs.Expiry.{expiring_updates, expiry_checks, expiry}
use Rattle.retention.specs.Reasons.{why_by, reason_of}
use Rattle.retention.specs.Outcome.{remaining, list_outcome}
use Rattle.retention.specs.Examples.{Example, answer_to, examples}

pub expiry_examples_hold : map (λ (e : Example). answer_to e.asked) examples ≡ map (λ (e : Example). e.reply) examples
unfolding computed is_before follow reach current_at entries_read goes retained is_retained expiring_updates expiry_checks expiry why_by reason_of remaining list_outcome
expiry_examples_hold = refl
