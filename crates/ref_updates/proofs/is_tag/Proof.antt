-- The search finds the first ref of the name, or none.
use mathlib.Core.Path.{◌≡◌, sym, ap, ◌∙◌}
use native.Mathlib.Omega.{arith}
use borrow.Author.Rules.{rules}
use borrow.Author.Tests.{lt-ltb, le-ltb}
use lib.Dec.{eqb, ltb}
use lib.ListN.{get_or}
use Rattle.rules.specs.Words.{some_with}
use Rattle.records.specs.Blanks.{no_ref}
use Rattle.records.specs.declared.reference.NamedRef.{NamedRef}
use Rattle.rules.specs.Register as plain
use Rattle.rules.specs.RefUpdates.{is_tag}
use Rattle.rules.specs.WellFormed.{tag}
use Rattle.rules.specs.Layout.{given, read_name, read_ref, read_refs}
use Rattle.ref_updates.proofs.Options.{of_set}
use Rattle.ref_updates.proofs.Named.{named_within, named}
use Rattle.ref_updates.proofs.is_tag.Statement.{statement}
use Rattle.ref_updates.proofs.is_tag.Tie as tie

-- the rule's answer, by what stands at the place
answer : (c : tie.After-find-i) (d : NamedRef) → is_tag (read_name c.args.name) (read_refs c.args.t) ≡ some_with (λ (r : plain.NamedRef). eqb r.reference.kind tag) (given (ltb c.find-i.result c.args.t.count) (read_ref (get_or c.args.t.items c.find-i.result d)))
answer c d = ap (some_with (λ (r : plain.NamedRef). eqb r.reference.kind tag)) (named c.requires.0 (read_name c.args.name) d c.find-i.ensures)

pub is_tag_spec : {M : Type 1} → statement M
is_tag_spec =
    tie.close
    (tie.spec
    (λ c κs. search rules)
    (λ c. sym (rw (le-ltb _ _ c.if-i-n.true) at (answer c.before no_ref)))
    (λ c. omega (arith, named_within c.requires.0))
    (λ c. omega (arith, named_within c.requires.0))
    (λ c. sym (answer c.before.before.before _ ∙ of_set (λ (r : plain.NamedRef). eqb r.reference.kind tag) _ (lt-ltb _ _ c.if-i-n.false))))
