-- What the calls ask holds of well-formed metadata before a close, as it does in a run.
use Prim.Native.Nat.{◌≤◌}
use mathlib.Core.Path.{◌≡◌, refl, sym, ap, ◌∙◌}
use mathlib.Core.Bool.{Bool, not}
use mathlib.Core.List.{List}
use borrow.Author.Rules.{rules}
use borrow.Table.Steps.{cases}
use Rattle.rules.specs.Words.{first_of}
use Rattle.rules.specs.Register as plain
use Rattle.rules.specs.ChangeLog.{logs_main, logs_removal}
use Rattle.rules.specs.Others.{is_second}
use Rattle.rules.specs.Run.{closing_log}
use Rattle.rules.specs.Layout.{read_snapshots}
use Rattle.builder.specs.Pieces.{ids_of}
use Rattle.builder.proofs.Positions.{ids_ascend}
use Rattle.close.specs.Facts.{additions, Told}
use Rattle.refinement.specs.Standing.{Represents, terms_of}
use Rattle.refinement.proofs.Beginning.{read_fields_lem, read_snapshots_lem, read_log, snapshots_ascend, laid_refs_lem, laid_log, laid_schemas_lem, laid_orders, laid_specs, schema_held, current_is, order_held, spec_held}
use Rattle.refinement.proofs.Closed.{handed, files_laid, files_fit, gone_fits, overfull_is, joins_fit, checks}
use Rattle.close_alone.proofs.Before.{asked, pieces, state, stands}
use Rattle.close_alone.proofs.close_once.Statement.{statement}
use Rattle.close_alone.proofs.close_once.Tie as tie

module _ (c : tie.Start) where
  abbrev now_state : plain.State
  now_state = state c.args.m c.args.terms c.args.text.now c.requires.0

  E : Represents (asked c.args.m c.args.terms c.args.text.now) now_state (pieces c.args.m c.args.terms c.args.text.now)
  E = stands c.args.m c.args.terms c.args.text.now c.requires.0

  abbrev second : Bool
  second = is_second c.args.terms.office

  -- what the close is told of the log
  abbrev log : List plain.Update
  log = closing_log (terms_of (asked c.args.m c.args.terms c.args.text.now)) now_state

  told : Told log now_state.metadata c.args.m.snapshot_log c.args.ids.now c.args.m.fields c.args.none.now c.args.none.now (not second)
  unfolding additions logs_main logs_removal
  told =
      record {
        history = read_log E;
        held = c.requires.1.0 ∙ ap ids_of (read_snapshots_lem E);
        current = ap (λ (x : plain.SingleFields). x.current) (read_fields_lem E);
        adds = c.requires.1.1 ∙ cases second (λ t. rw t) (λ f. rw f);
        sets = c.requires.1.1 ∙ cases second (λ t. rw t) (λ f. rw f);
        removes = cases second (λ t. rw t) (λ f. rw f);
      }

module _ (c : tie.After-surplus-gone) where
  abbrev start : tie.Start
  start = c.before.before.before.before.before.before.before.before

  gone_within : c.surplus-gone.result ≤ start.args.m.metadata_log.count
  gone_within = gone_fits (E start) c.limit-most.ensures c.surplus-gone.ensures

module _ (c : tie.After-close_number-number) where
  abbrev filing : tie.After-surplus-gone
  filing = c.before.before.before.before.before.before.before.before

  numbered : c.close_number-number.result ≡ first_of (checks (E (start filing)))
  numbered =
      let s = start filing in
      let e = E s in
      c.close_number-number.ensures (terms_of (asked s.args.m s.args.terms s.args.text.now)) (log s) (now_state s).metadata (filing.close_log-history.ensures.0 (log s) (now_state s).metadata (told s)) (handed e c.get-schema.result (current_is e c.get-schema.result c.get-schema.ensures.0))
      (overfull_is e filing.limit-most.ensures filing.surplus-gone.ensures c.is_overfull-overfull.ensures)

pub close_once_spec : {M : Type 1} → statement M
close_once_spec =
    tie.close
    (tie.spec
    (λ c κs. search rules)
    (λ c κs. let s = c.before.before.before.before.before in (laid_log (E s), rw s.requires.1.0 (ids_ascend (read_snapshots s.args.m.snapshots) (snapshots_ascend (E s)))))
    (λ c κs. search rules)
    (λ c κs. files_fit (E c.before.before.before.before.before.before.before))
    (λ c κs. (files_fit (E (start c)), gone_within c))
    (λ c κs. let e = E (start c.before.before.before) in (laid_schemas_lem e, schema_held e))
    (λ c κs. let e = E (start c.before.before.before.before.before.before.before) in (c.close_log-history.ensures.1, (laid_refs_lem e, (c.get-schema.ensures.1, (laid_orders e, (order_held e, (laid_specs e, spec_held e)))))))
    (λ c κs. search rules)
    (λ c. search rules)
    (λ c κs. let f = filing c.before.before in (files_laid (E (start f)), (search rules, gone_within f)))
    (λ c κs. let n = c.before.before.before.before.before in
    let f = filing n in
    (files_laid (E (start f)), (gone_within f, joins_fit (E (start f)) f.limit-most.ensures f.surplus-gone.ensures (sym (numbered n) ∙ c.if-number-ne-ACCEPTED.false))))
    (λ c κs. search rules)
    (λ c κs. search rules)
    (λ c. search rules))
