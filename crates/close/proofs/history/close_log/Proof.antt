-- The log is rebuilt exactly if there is a removal or an intermediate snapshot.
use mathlib.Core.Path.{◌≡◌, sym, ap, ◌∙◌}
use mathlib.Core.Logic.{⊎_elim}
use mathlib.Core.Bool.{Bool, true, not, ◌||◌}
use mathlib.Core.List.{List}
use borrow.Author.Rules.{rules}
use Rattle.rules.specs.Words.{is_empty, keep}
use Rattle.rules.specs.Register.{LogEntry}
use Rattle.rules.specs.Layout.{read_fields, laid_snapshot_log}
use Rattle.rules.proofs.Checks.{or_right}
use Rattle.close.specs.Facts.{intermediates_of, is_staying}
use Rattle.close.proofs.Facts.{is_rebuilt_lem, is_left}
use Rattle.close.proofs.Logs.{entries_laid, kept_fits}
use Rattle.close.proofs.history.close_log.Statement.{statement}
use Rattle.close.proofs.history.close_log.Tie as tie

changed : (c : tie.Joined-then-removal) → c.args.removal || not (is_empty (intermediates_of c.args.added.now c.args.mains.now (read_fields c.args.f).current)) ≡ true
changed c = ⊎_elim (λ w. rw w.if-removal.true) (λ w. or_right c.args.removal (sym w.has_intermediates.ensures ∙ w.if-has_intermediates.true)) c.then-removal.branch-raw

abbrev test : tie.Start → LogEntry → Bool
test c = is_staying c.args.ids.now c.args.added.now c.args.mains.now (read_fields c.args.f).current

pub close_log_spec : {M : Type 1} → statement M
close_log_spec =
    tie.close
    (tie.spec
    (λ c κs. search rules)
    (λ c κs. search rules)
    (λ c κs. search rules)
    (λ c. let s = c.before.before.before in (
      (λ l p t. is_rebuilt_lem t c.kept_from-kept.result (changed c.before.before)
          (c.kept_from-kept.ensures ∙ ap (λ (m : List LogEntry). laid_snapshot_log (keep (test s) m)) c.first_kept-from.ensures.1)),
      entries_laid _ _ c.kept_from-kept.ensures (kept_fits s.args.log s.requires.0 (test s) c.first_kept-from.result),
    ))
    (λ c. ((λ l p t. is_left t (rw c.if-removal.false (sym c.has_intermediates.ensures ∙ c.if-has_intermediates.false)) c.requires.0.back), c.requires.0)))
