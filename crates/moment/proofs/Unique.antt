-- The contracts leave no freedom and ask nothing: any two answers that one allows for the same log and times are equal, and any log and times are allowed.
use mathlib.Core.Path.{sym, ◌∙◌}
use base.Logic.{emp, id⊢}
use Rattle.rules.specs.Promises.{Unique, AsksNothing}
use Rattle.moment.proofs.current_at as current-at
use Rattle.moment.specs.contracts.current_at as current_at_contract
use Rattle.moment.proofs.current_during as current-during
use Rattle.moment.specs.contracts.current_during as current_during_contract

pub current_at_unique : Unique current-at.Kinds.ps current-at.Kinds.r current-at.Reads.Post
current_at_unique κs a x y s t p q = p ∙ sym q

pub current_at_asks_nothing : AsksNothing current_at_contract.signature (λ M 𝓤. current_at_contract.spec)
current_at_asks_nothing M 𝓤 𝓛 mem run κs a = (tt, id⊢ 𝓤 (emp 𝓤))

pub current_during_unique : Unique current-during.Kinds.ps current-during.Kinds.r current-during.Reads.Post
current_during_unique κs a x y s t p q = p ∙ sym q

pub current_during_asks_nothing : AsksNothing current_during_contract.signature (λ M 𝓤. current_during_contract.spec)
current_during_asks_nothing M 𝓤 𝓛 mem run κs a = (tt, id⊢ 𝓤 (emp 𝓤))
