-- Each byte breaks off the lexeme, ends it or leads on, and where the bytes end so does the lexeme.
use Rattle.std.proofs.Common.{◌≡◌, ◌+◌, length, sym, ap, ◌∙◌, arith}
use native.Mathlib.Nat.{add-zero}
use Rattle.json_machine.specs.Digest.{number_after}
use Rattle.json_tokens.specs.Outcomes.{bare_token}
use Rattle.json_tokens.proofs.Steps.{at_last, step_broken, step_ended, step_whole, step_on}
use Rattle.json_tokens.proofs.bare.read_bare.Goals as goal

pub loop-i-init : goal.loop-i-init
loop-i-init c = rw (c.bytes_from-rest.ensures, c.with_byte-number.ensures, c.blank.ensures, add-zero)

pub returns-then-next-eq-BROKEN : goal.returns-then-next-eq-BROKEN
returns-then-next-eq-BROKEN c =
    let a = c.args in
    let l = c.loop-i in
    c.bare_token.ensures
    ∙ ap (bare_token a.head a.first) (sym (l.invariant ∙ step_broken number_after c.bytes_from-rest.result.now (a.from + l.i) l.i l.mode l.number (omega arith) c.after-next.result c.after-next.ensures c.if-next-eq-BROKEN.true))

pub returns-then-next-eq-ENDED : goal.returns-then-next-eq-ENDED
returns-then-next-eq-ENDED c =
    let a = c.args in
    let l = c.loop-i in
    c.bare_token-then-next-eq-ENDED.ensures
    ∙ ap (bare_token a.head a.first) (sym (l.invariant ∙ step_ended number_after c.bytes_from-rest.result.now (a.from + l.i) l.i l.mode l.number (omega arith) c.after-next.result c.after-next.ensures c.if-next-eq-ENDED.true))

pub returns-then-next-eq-WHOLE : goal.returns-then-next-eq-WHOLE
returns-then-next-eq-WHOLE c =
    let a = c.args in
    let l = c.loop-i in
    c.bare_token-then-next-eq-WHOLE.ensures
    ∙ ap (bare_token a.head a.first) (sym (l.invariant ∙ step_whole number_after c.bytes_from-rest.result.now (a.from + l.i) l.i l.mode l.number (omega arith) c.after-next.result c.after-next.ensures c.number_after-number.result c.number_after-number.ensures c.if-next-eq-WHOLE.true))

pub loop-i-preserved : goal.loop-i-preserved
loop-i-preserved c =
    let l = c.loop-i in
    let e : c.args.from + l.i + 1 ≡ c.args.from + (l.i + 1) = omega arith in
    rw e at
    (l.invariant
    ∙ step_on number_after c.bytes_from-rest.result.now (c.args.from + l.i) l.i l.mode l.number (omega arith) c.after-next.result c.after-next.ensures c.number_after-number.result c.number_after-number.ensures c.if-next-eq-WHOLE.false c.if-next-eq-BROKEN.false c.if-next-eq-ENDED.false)

pub returns : goal.returns
returns c =
    let a = c.args in
    let l = c.loop-i in
    let e : l.i ≡ length c.bytes_from-rest.result.now = omega arith in
    rw c.at_end.ensures at c.bare_token-2.ensures
    ∙ ap (bare_token a.head a.first) (sym (rw e at (l.invariant ∙ at_last number_after c.bytes_from-rest.result.now (a.from + l.i) l.i l.mode l.number (omega arith))))
