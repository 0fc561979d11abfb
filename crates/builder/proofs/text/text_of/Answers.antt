use Rattle.std.proofs.Common.{◌≡◌, length, ap, ◌∙◌, arith}
use lib.Seq.{take_all}
use Rattle.records.specs.declared.text.Text.{Text}
use Rattle.rules.specs.Capacities.{text_room}
use Rattle.rules.specs.Layout.{pad, laid_text}
use Rattle.tables.proofs.Keyed.{pad_more}
use Rattle.builder.proofs.text.text_of.Goals as goal

pub loop-i-init : goal.loop-i-init
loop-i-init c = ap (λ (x : Text). x.bytes) c.blank-text.ensures

pub loop-i-preserved : goal.loop-i-preserved
loop-i-preserved c = rw c.loop-i.invariant (pad_more text_room c.loop-i.i 0 _ c.args.bytes.now c.loop-i-test.true c.requires)

pub returns : goal.returns
unfolding laid_text
returns c =
    let e : c.loop-i.text.bytes ≡ pad text_room 0 c.args.bytes.now = c.loop-i.invariant ∙ ap (pad text_room 0) (take_all c.loop-i.i c.args.bytes.now (omega arith)) in
    λ i. record { bytes = e i; len = length c.args.bytes.now }
