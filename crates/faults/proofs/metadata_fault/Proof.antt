-- The parts by themselves, and where no fault was found in them, what they say of each other.
use mathlib.Core.Path.{sym, ◌∙◌}
use borrow.Author.Rules.{rules}
use Rattle.rules.specs.Layout.{read_metadata}
use Rattle.rules.proofs.Checks.{first_before, first_after}
use Rattle.faults.specs.Faults.{part_faults, agreement_faults, metadata_faults, metadata_fault}
use Rattle.faults.proofs.Parts.{parts_numbered}
use Rattle.faults.proofs.metadata_fault.Statement.{statement}
use Rattle.faults.proofs.metadata_fault.Tie as tie

pub metadata_fault_spec : {M : Type 1} → statement M
unfolding metadata_faults metadata_fault
metadata_fault_spec =
    tie.close
    (tie.spec
    (λ c κs. search rules)
    (λ c. let p = c.part_fault-own in let m = c.args.m in
    p.ensures ∙ sym (first_before (part_faults m) (agreement_faults (read_metadata m)) (λ z. c.if-own-ne-NONE.true (p.ensures ∙ z))))
    (λ c κs. search rules)
    (λ c. let p = c.part_fault-own in let m = c.args.m in
    c.agreement_fault.ensures ∙ sym (first_after (part_faults m) (agreement_faults (read_metadata m)) (parts_numbered m) (sym p.ensures ∙ c.if-own-ne-NONE.false))))
