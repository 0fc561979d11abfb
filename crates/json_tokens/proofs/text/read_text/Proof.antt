-- What is left to read from here is what was to be read from the start.
use Prim.Native.Nat.{◌-◌}
use mathlib.Core.Path.{◌≡◌, refl, sym, ap, ◌∙◌}
use borrow.Author.Rules.{rules}
use lib.ListN.{length, drop}
use Rattle.json_machine.specs.declared.Text.{Text}
use Rattle.json_machine.specs.Modes.{text_mode}
use Rattle.json_machine.specs.Digest.{held, held_after}
use Rattle.json_tokens.specs.Outcomes.{outcome, text_from}
use Rattle.json_tokens.proofs.Steps.{InText, plain_within, step_plain, text_broken, text_whole, text_on, text_last}
use Rattle.json_tokens.proofs.text.read_text.Statement.{statement}
use Rattle.json_tokens.proofs.text.read_text.Tie as tie

abbrev invariant_loop : tie.invariant-loop-i
invariant_loop bytes first from kept₀ mode₀ text₀ i₀ kept mode text i = (text_from bytes from kept₀ ≡ outcome held_after i mode (held text kept) (drop i bytes)) × InText mode

abbrev decreases_loop : tie.decreases-loop-i
decreases_loop bytes first from kept₀ mode₀ text₀ i₀ kept mode text i = length bytes - i

loop_holds : tie.Need-loop-i-init invariant_loop decreases_loop
loop_holds c =
    let a = c.args in
    (ap (λ (t : Text). outcome held_after a.from text_mode (held t a.kept.now) (drop a.from a.bytes.now)) (sym c.blank-text.ensures), record { mode = refl; kind = refl })

with_plain_requires : tie.Need-with_plain-text-requires invariant_loop decreases_loop
with_plain_requires c κs =
    plain_within c.args.bytes.now c.loop-i.i c.plain_end-end.result c.plain_end-end.ensures c.loop-i-test.true

loop_again : tie.Need-loop-i-preserved-then-end-i invariant_loop decreases_loop
loop_again c =
    (c.loop-i.invariant.0 ∙ step_plain c.args.bytes.now c.loop-i.i c.plain_end-end.result c.plain_end-end.ensures c.loop-i.mode (held c.loop-i.text c.loop-i.kept) (held c.with_plain-text.result _) c.if-mode-eq-TEXT.true c.if-end-i.true c.with_plain-text.ensures, c.loop-i.invariant.1)

returns : tie.Need-returns-then-next-eq-BROKEN invariant_loop decreases_loop
returns c =
    let a = c.args in
    text_broken (text_from a.bytes.now a.from a.kept.now) a.first a.bytes.now c.loop-i.i c.loop-i.mode c.loop-i.text c.loop-i.kept c.loop-i.invariant c.loop-i-test.true c.after-next.result c.after-next.ensures c.text_token.result c.if-next-eq-BROKEN.true c.text_token.ensures

returns_2 : tie.Need-returns-then-next-eq-WHOLE invariant_loop decreases_loop
returns_2 c =
    let a = c.args in
    text_whole (text_from a.bytes.now a.from a.kept.now) a.first a.bytes.now c.loop-i.i c.loop-i.mode c.loop-i.text c.loop-i.kept c.loop-i.invariant c.loop-i-test.true c.after-next.result c.after-next.ensures c.with_byte-text.result _ c.with_byte-text.ensures c.text_token-then-next-eq-WHOLE.result c.if-next-eq-WHOLE.true c.text_token-then-next-eq-WHOLE.ensures

loop_again_2 : tie.Need-loop-i-preserved invariant_loop decreases_loop
loop_again_2 c =
    let a = c.args in
    text_on (text_from a.bytes.now a.from a.kept.now) a.first a.bytes.now c.loop-i.i c.loop-i.mode c.loop-i.text c.loop-i.kept c.loop-i.invariant c.loop-i-test.true c.after-next.result c.after-next.ensures c.with_byte-text.result _ c.with_byte-text.ensures c.if-next-eq-WHOLE.false c.if-next-eq-BROKEN.false

returns_3 : tie.Need-returns invariant_loop decreases_loop
returns_3 c =
    let a = c.args in
    text_last (text_from a.bytes.now a.from a.kept.now) a.first a.bytes.now c.loop-i.i c.loop-i.mode c.loop-i.text c.loop-i.kept c.loop-i.invariant c.text_token-2.result c.loop-i-test.false c.text_token-2.ensures

pub read_text_spec : {M : Type 1} → statement M
read_text_spec =
    tie.close
    (tie.spec
    invariant_loop
    decreases_loop
    (λ c κs. search rules)
    loop_holds
    (λ c κs. search rules)
    with_plain_requires
    (λ c. search rules)
    loop_again
    (λ c. search rules)
    (λ c κs. search rules)
    (λ c κs. search rules)
    returns
    (λ c κs. search rules)
    (λ c. search rules)
    (λ c κs. search rules)
    returns_2
    (λ c. search rules)
    loop_again_2
    (λ c κs. search rules)
    returns_3)
