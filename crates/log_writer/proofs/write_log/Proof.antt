-- 38, then what is written. That the updates fit is known from the start.
use mathlib.Core.Path.{sym, ◌∙◌}
use borrow.Author.Rules.{rules}
use borrow.Author.Tests.{not-true, not-false}
use Rattle.log_fitting.proofs.Fitting.{updates_fit}
use Rattle.log_writer.proofs.Answers.{not_carried, carried}
use Rattle.log_writer.proofs.write_log.Statement.{statement}
use Rattle.log_writer.proofs.write_log.Tie as tie

pub write_log_spec : {M : Type 1} → statement M
write_log_spec =
    tie.close
    (tie.spec
    (λ c κs. search rules)
    (λ c. let k = c.before in
    let a = k.args in
    let r = not_carried a.updates a.offers.now a.buffer.now (sym k.is_carried.ensures ∙ not-true _ c.if-not-is_carried.true-raw) in
    (r.0, (r.1, updates_fit a.updates _ k.well_formed.0)))
    (λ c κs. search rules)
    (λ c. search rules)
    (λ c. let w = c.before.before in
    let o = w.before.before in
    let k = o.before in
    let a = k.args in
    let r = carried a.updates a.offers.now a.buffer.now (sym k.is_carried.ensures ∙ not-false _ o.if-not-is_carried.false-raw) w.write.ensures.0 w.write.ensures.1 in
    (r.0, (r.1, updates_fit a.updates _ k.well_formed.0))))
