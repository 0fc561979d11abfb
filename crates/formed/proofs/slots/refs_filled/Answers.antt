use Rattle.std.proofs.Common.{◌∙◌, arith, ap, ◌&&◌, leb}
use Rattle.records.specs.Blanks.{no_ref}
use Rattle.rules.specs.WellFormed.{ref_formed}
use Rattle.rules.specs.Blanks.{is_tidy_ref, is_blank_ref, is_tidy_refs}
use Rattle.rules.specs.Layout.{read_ref}
use Rattle.formed.proofs.Filled.{filled_read}
use Rattle.formed.proofs.slots.refs_filled.Goals as goal

pub returns : goal.returns
unfolding is_tidy_refs
returns c =
    let t = c.args.t in
    ap (λ b. leb t.count 16 && b) c.slots_fit.ensures ∙ filled_read read_ref is_tidy_ref ref_formed is_blank_ref no_ref 16 t.count t.items (omega arith)
