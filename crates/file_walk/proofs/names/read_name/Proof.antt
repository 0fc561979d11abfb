-- No name, or one and what stands behind it.
use mathlib.Core.Path.{sym, ◌∙◌}
use borrow.Author.Rules.{rules}
use borrow.Author.Tests.{not-true, not-false}
use Rattle.file_walk.proofs.NamedReads.{no_name_so, name_so}
use Rattle.file_walk.proofs.names.read_name.Statement.{statement}
use Rattle.file_walk.proofs.names.read_name.Tie as tie

pub read_name_spec : {M : Type 1} → statement M
read_name_spec =
    tie.close
    (tie.spec
    (λ c κs. search rules)
    (λ c κs. search rules)
    (λ c κs. search rules)
    (λ c κs. search rules)
    (λ c κs. search rules)
    (λ c. no_name_so _ _ _ _ _ c.requires _ _ c.next-t.ensures _ _ c.no_name_place.ensures c.stop.ensures (sym c.is_mark.ensures ∙ not-true _ c.if-not-is_mark.true-raw))
    (λ c κs. search rules)
    (λ c κs. search rules)
    (λ c κs. search rules)
    (λ c κs. search rules)
    (λ c. name_so _ _ _ _ _ c.requires _ _ c.next-t.ensures (sym c.is_mark.ensures ∙ not-false _ c.if-not-is_mark.false-raw) _ _ c.next-c.ensures c.see_places.ensures _ _ _
    c.judge-judged.ensures c.behind_name.ensures c.put_place.ensures))
