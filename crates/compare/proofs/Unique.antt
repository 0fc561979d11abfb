-- The contracts leave no freedom and ask nothing: any two results that one of them allows for the same arguments are equal, and any arguments are allowed.
use mathlib.Core.Path.{sym, ◌∙◌}
use base.Logic.{emp, id⊢}
use Rattle.rules.specs.Promises.{Unique, AsksNothing}
use Rattle.compare.proofs.difference.unless as unless
use Rattle.compare.specs.contracts.difference.unless as unless_contract
use Rattle.compare.proofs.first_difference as compare
use Rattle.compare.specs.contracts.first_difference as compare_contract

pub compare_unique : Unique compare.Kinds.ps compare.Kinds.r compare.Reads.Post
compare_unique κs a x y s t p q = p ∙ sym q

pub compare_asks_nothing : AsksNothing compare_contract.signature (λ M 𝓤. compare_contract.spec)
compare_asks_nothing M 𝓤 𝓛 mem run κs a = (tt, id⊢ 𝓤 (emp 𝓤))

pub unless_unique : Unique unless.Kinds.ps unless.Kinds.r unless.Reads.Post
unless_unique κs a x y s t p q = p ∙ sym q

pub unless_asks_nothing : AsksNothing unless_contract.signature (λ M 𝓤. unless_contract.spec)
unless_asks_nothing M 𝓤 𝓛 mem run κs a = (tt, id⊢ 𝓤 (emp 𝓤))
