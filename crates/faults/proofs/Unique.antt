-- The contracts leave no freedom and ask nothing: any two answers that one of them allows for the same arguments are equal, and any arguments are allowed.
use mathlib.Core.Path.{sym, ◌∙◌}
use base.Logic.{emp, id⊢}
use Rattle.rules.specs.Promises.{Unique, AsksNothing}
use Rattle.faults.proofs.metadata_fault as metadata-fault
use Rattle.faults.specs.contracts.metadata_fault as metadata_fault_contract
use Rattle.faults.proofs.start_fault as start-fault
use Rattle.faults.specs.contracts.start_fault as start_fault_contract

pub metadata_fault_unique : Unique metadata-fault.Kinds.ps metadata-fault.Kinds.r metadata-fault.Reads.Post
metadata_fault_unique κs a x y s t p q = p ∙ sym q

pub metadata_fault_asks_nothing : AsksNothing metadata_fault_contract.signature (λ M 𝓤. metadata_fault_contract.spec)
metadata_fault_asks_nothing M 𝓤 𝓛 mem run κs a = (tt, id⊢ 𝓤 (emp 𝓤))

pub start_fault_unique : Unique start-fault.Kinds.ps start-fault.Kinds.r start-fault.Reads.Post
start_fault_unique κs a x y s t p q = p ∙ sym q

pub start_fault_asks_nothing : AsksNothing start_fault_contract.signature (λ M 𝓤. start_fault_contract.spec)
start_fault_asks_nothing M 𝓤 𝓛 mem run κs a = (tt, id⊢ 𝓤 (emp 𝓤))
