-- Each test is the rules', so the first that fails gives the number.
use mathlib.Core.Path.{◌≡◌, sym, ◌∙◌}
use mathlib.Core.Bool.{Bool, false}
use mathlib.Core.List.{List}
use mathlib.Core.Option.{some}
use borrow.Author.Rules.{rules}
use borrow.Author.Tests.{not-true, not-false}
use Rattle.rules.specs.Words.{eq_z, same_option, first}
use Rattle.rules.specs.Register.{Metadata, Update}
use Rattle.rules.specs.WellFormed.{has_spec, main_snapshot, main_agrees}
use Rattle.rules.specs.Layout.{read_partition_spec}
use Rattle.rules.specs.Close.{is_default_clashing, is_default_misfit, is_default_unfit, ends_elsewhere, close_checks}
use Rattle.close.specs.Answers.{HistoryOf, Handed}
use Rattle.close.proofs.Facts.{ends_is, clashing_is, misfit_is}
use Rattle.close.proofs.close_number.Statement.{statement}
use Rattle.close.proofs.close_number.Tie as tie

-- what the close is handed
record Told (l : List Update) (p : Metadata) (s : tie.Start) : Type 0 where
  pub log : HistoryOf l p s.args.h
  pub parts : Handed p s.args.f s.args.refs s.args.schema s.args.orders s.args.specs

-- what holds behind the tests of the default spec
record Specs (p : Metadata) : Type 0 where
  pub unclashed : is_default_clashing p ≡ false
  pub sourced : is_default_misfit p ≡ false

-- and behind that of the log's end
record Logs (l : List Update) (p : Metadata) : Type 0 where
  pub specs : Specs p
  pub fit : is_default_unfit p ≡ false
  pub ended : ends_elsewhere l p ≡ false

-- ---- where each test is made

abbrev at_misfit : tie.After-is_misfit → tie.Start
at_misfit c = c.before.before.before.before.before

abbrev at_unfit : tie.After-is_default_unfit → tie.Start
at_unfit c = at_misfit c.before.before

abbrev at_ends : tie.After-ends_elsewhere → tie.Start
at_ends c = at_unfit c.before.before

abbrev at_main : tie.After-main_agrees → tie.Start
at_main c = at_ends c.before.before

-- ---- its answer

module _ {l : List Update} {p : Metadata} where
  spec : (c : tie.After-get-spec) → Told l p c.before.before → first (has_spec p.fields.default_spec) p.specs ≡ some (read_partition_spec c.get-spec.result)
  spec c q = (λ i. first (has_spec (sym q.parts.single i).default_spec) (sym q.parts.partitions i)) ∙ c.get-spec.ensures.0

  clashing : (c : tie.After-is_clashing) {t : Bool} → Told l p c.before.before.before → c.is_clashing.result ≡ t → is_default_clashing p ≡ t
  clashing c q e = sym (c.is_clashing.ensures ∙ clashing_is p _ _ q.parts.current (spec c.before q)) ∙ e

  misfit : (c : tie.After-is_misfit) {t : Bool} → Told l p (at_misfit c) → c.is_misfit.result ≡ t → is_default_misfit p ≡ t
  misfit c q e = sym (c.is_misfit.ensures ∙ misfit_is p _ _ q.parts.current (spec c.before.before.before q)) ∙ e

  unfit : (c : tie.After-is_default_unfit) {t : Bool} → Told l p (at_unfit c) → c.is_default_unfit.result ≡ t → is_default_unfit p ≡ t
  unfit c q e = sym (c.is_default_unfit.ensures p q.parts.single q.parts.current q.parts.sorts) ∙ e

  ends : (c : tie.After-ends_elsewhere) {t : Bool} → Told l p (at_ends c) → c.ends_elsewhere.result ≡ t → ends_elsewhere l p ≡ t
  ends c q e = sym (c.ends_elsewhere.ensures ∙ ends_is (at_ends c).args.f q.log q.parts.single) ∙ e

  main : (c : tie.After-main_agrees) {t : Bool} → Told l p (at_main c) → c.main_agrees.result ≡ t → main_agrees p ≡ t
  unfolding main_agrees
  main c q e = sym (c.main_agrees.ensures ∙ (λ i. same_option eq_z (q.parts.single i).current (main_snapshot (q.parts.named i)))) ∙ e

  specs_fit : (c : tie.Else-is_misfit) → Told l p (at_misfit c.before) → Specs p
  specs_fit c q = record { unclashed = clashing c.before.before.before q c.if-is_clashing.false; sourced = misfit c.before q c.if-is_misfit.false }

  logs_end : (c : tie.Else-ends_elsewhere) → Told l p (at_ends c.before) → Logs l p
  logs_end c q = let b = c.before.before in record { specs = specs_fit b.before.before q; fit = unfit b.before q b.if-is_default_unfit.false; ended = ends c.before q c.if-ends_elsewhere.false }

pub close_number_spec : {M : Type 1} → statement M
unfolding close_checks
close_number_spec =
    tie.close
    (tie.spec
    (λ c κs. c.requires.1.1.1.1.1)
    (λ c κs. (c.get-spec.ensures.1, c.requires.1.1.0))
    (λ c t l p k q o. let w : Told l p _ = record { log = k; parts = q } in rw (clashing c.before w c.if-is_clashing.true))
    (λ c κs. (c.get-spec.ensures.1, c.requires.1.1.0))
    (λ c t l p k q o. let w : Told l p _ = record { log = k; parts = q } in rw (clashing c.before.before.before w c.if-is_clashing.false, misfit c.before w c.if-is_misfit.true))
    (λ c κs. search rules)
    (λ c t l p k q o. let w : Told l p _ = record { log = k; parts = q } in let f = specs_fit c.before.before w in rw (f.unclashed, f.sourced, unfit c.before w c.if-is_default_unfit.true))
    (λ c κs. search rules)
    (λ c t l p k q o. let w : Told l p _ = record { log = k; parts = q } in let b = c.before.before in let f = specs_fit b.before.before w in rw (f.unclashed, f.sourced, unfit b.before w b.if-is_default_unfit.false, ends c.before w c.if-ends_elsewhere.true))
    (λ c κs. search rules)
    (λ c t l p k q o. let w : Told l p _ = record { log = k; parts = q } in let f = logs_end c.before.before w in rw (f.specs.unclashed, f.specs.sourced, f.fit, f.ended, main c.before w (not-true _ c.if-not-main_agrees.true-raw)))
    (λ c t l p k q o. let w : Told l p _ = record { log = k; parts = q } in let f = logs_end c.before.before.before w in rw (f.specs.unclashed, f.specs.sourced, f.fit, f.ended, main c.before.before w (not-false _ c.if-not-main_agrees.false-raw), ← o, c.if-overfull.true))
    (λ c t l p k q o. let w : Told l p _ = record { log = k; parts = q } in let f = logs_end c.before.before.before w in rw (f.specs.unclashed, f.specs.sourced, f.fit, f.ended, main c.before.before w (not-false _ c.if-not-main_agrees.false-raw), ← o, c.if-overfull.false)))
