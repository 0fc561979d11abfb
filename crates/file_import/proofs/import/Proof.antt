-- The version, the text, and whether the metadata is well formed.
use mathlib.Core.Path.{sym, ◌∙◌}
use borrow.Author.Rules.{rules}
use borrow.Author.Tests.{not-true, not-false}
use Rattle.file_import.proofs.Answers.{wrong, not_formed_lem, is_formed_lem}
use Rattle.file_import.proofs.import.Statement.{statement}
use Rattle.file_import.proofs.import.Tie as tie

returns : tie.Need-returns-then-seat-ne0
returns c =
    let n = c.before in
    let i = n.before in
    let t = i.before.before in
    c.refused.ensures ∙ wrong _ _ _ _ _ t.version_of-version.ensures t.read_text-seat.ensures i.if-seat-ne0.true _ n.reply_of.ensures

returns_2 : tie.Need-returns-then-not-is_formed
returns_2 c =
    let j = c.before in
    let f = j.before in
    let m = f.before in
    let i = m.before.before in
    let t = i.before.before in
    let z = t.before.before in
    c.refused-then-not-is_formed.ensures ∙ not_formed_lem _ _ _ _ _ z.version_of-version.ensures t.read_text-seat.ensures i.if-seat-ne0.false z.no_cells-cells.ensures _ m.metadata_of-metadata.ensures (sym f.is_formed.ensures ∙ not-true _ j.if-not-is_formed.true-raw)

returns_3 : tie.Need-returns
returns_3 c =
    let f = c.before in
    let m = f.before in
    let i = m.before.before in
    let t = i.before.before in
    let z = t.before.before in
    is_formed_lem _ _ _ _ _ z.version_of-version.ensures t.read_text-seat.ensures i.if-seat-ne0.false z.no_cells-cells.ensures _ m.metadata_of-metadata.ensures (sym f.is_formed.ensures ∙ not-false _ c.if-not-is_formed.false-raw)

pub import_spec : {M : Type 1} → statement M
import_spec =
    tie.close
    (tie.spec
    (λ c κs. search rules)
    (λ c κs. search rules)
    (λ c κs. search rules)
    (λ c κs. search rules)
    (λ c κs. search rules)
    (λ c κs. search rules)
    returns
    (λ c κs. search rules)
    (λ c κs. search rules)
    (λ c κs. search rules)
    returns_2
    returns_3)
