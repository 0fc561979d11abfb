-- Those of the file, or `main`.
use mathlib.Core.Path.{sym, ap, ◌∙◌}
use borrow.Author.Rules.{rules}
use Rattle.rules.specs.Layout.{laid_refs}
use Rattle.file_records.specs.Decoded.{current_in, refs_in}
use Rattle.file_records.proofs.Pointed.{file_refs_laid, file_refs_sorted, main_sorted}
use Rattle.file_records.proofs.refs.refs.Statement.{statement}
use Rattle.file_records.proofs.refs.refs.Tie as tie

pub refs_spec : {M : Type 1} → statement M
unfolding refs_in
refs_spec =
    tie.close
    (tie.spec
    (λ c κs. search rules)
    (λ c κs. search rules)
    (λ c κs. file_refs_laid _ _ c.file_refs.ensures)
    (λ c.
    rw (sym c.is_there.ensures ∙ c.if-is_there.true) (file_refs_sorted _ _ c.file_refs.ensures c.arranged.ensures))
    (λ c κs. search rules)
    (λ c.
    rw (sym c.is_there.ensures ∙ c.if-is_there.false) (c.main_refs.ensures ∙ ap laid_refs (main_sorted (current_in c.args.bytes.now c.args.cells.now)))))
