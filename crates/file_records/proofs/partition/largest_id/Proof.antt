-- Of the single spec, or of the table.
use mathlib.Core.Path.{sym, ap, ◌∙◌}
use borrow.Author.Rules.{rules}
use lib.IntN.{ℤ, pos}
use Rattle.rules.specs.Words.{larger}
use Rattle.file_records.specs.Decoded.{specs_in}
use Rattle.file_records.proofs.partition.largest_id.Statement.{statement}
use Rattle.file_records.proofs.partition.largest_id.Tie as tie

pub largest_id_spec : {M : Type 1} → statement M
unfolding specs_in
largest_id_spec =
    tie.close
    (tie.spec
    (λ c κs. search rules)
    (λ c κs. search rules)
    (λ c κs. search rules)
    (λ c.
    rw (sym c.single_decides.ensures ∙ c.if-single_decides.true) (c.larger_id.ensures ∙ ap (λ (z : ℤ). larger z (pos 999)) c.highest_id.ensures))
    (λ c κs. search rules)
    (λ c. rw (sym c.single_decides.ensures ∙ c.if-single_decides.false) c.largest_listed.ensures))
