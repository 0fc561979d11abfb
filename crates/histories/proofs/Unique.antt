-- The contracts leave no freedom and ask nothing: any two answers that one of them allows for the same argument are equal, and any argument is allowed.
use mathlib.Core.Path.{sym, ◌∙◌}
use base.Logic.{emp, id⊢}
use Rattle.rules.specs.Promises.{Unique, AsksNothing}
use Rattle.histories.proofs.is_whole as is_whole
use Rattle.histories.specs.contracts.is_whole as is_whole_contract
use Rattle.histories.proofs.removes_and_adds as removes-and-adds
use Rattle.histories.specs.contracts.removes_and_adds as removes_and_adds_contract

pub is_whole_unique : Unique is_whole.Kinds.ps is_whole.Kinds.r is_whole.Reads.Post
is_whole_unique κs a x y s t p q = p ∙ sym q

pub is_whole_asks_nothing : AsksNothing is_whole_contract.signature (λ M 𝓤. is_whole_contract.spec)
is_whole_asks_nothing M 𝓤 𝓛 mem run κs a = (tt, id⊢ 𝓤 (emp 𝓤))

pub removes_and_adds_unique : Unique removes-and-adds.Kinds.ps removes-and-adds.Kinds.r removes-and-adds.Reads.Post
removes_and_adds_unique κs a x y s t p q = p ∙ sym q

pub removes_and_adds_asks_nothing : AsksNothing removes_and_adds_contract.signature (λ M 𝓤. removes_and_adds_contract.spec)
removes_and_adds_asks_nothing M 𝓤 𝓛 mem run κs a = (tt, id⊢ 𝓤 (emp 𝓤))
