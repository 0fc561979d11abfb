-- The contracts leave no freedom and ask nothing: any two answers that one allows for the same metadata and policy are equal, and any are allowed.
use mathlib.Core.Path.{sym, ◌∙◌}
use base.Logic.{emp, id⊢}
use Rattle.rules.specs.Promises.{Unique, AsksNothing}
use Rattle.expiry.proofs.expiring_updates as expiring-updates
use Rattle.expiry.specs.contracts.expiring_updates as expiring_updates_contract
use Rattle.expiry.proofs.reasons as reasons
use Rattle.expiry.specs.contracts.reasons as reasons_contract

pub expiring_updates_unique : Unique expiring-updates.Kinds.ps expiring-updates.Kinds.r expiring-updates.Reads.Post
expiring_updates_unique κs a x y s t p q = p ∙ sym q

pub expiring_updates_asks_nothing : AsksNothing expiring_updates_contract.signature (λ M 𝓤. expiring_updates_contract.spec)
expiring_updates_asks_nothing M 𝓤 𝓛 mem run κs a = (tt, id⊢ 𝓤 (emp 𝓤))

pub reasons_unique : Unique reasons.Kinds.ps reasons.Kinds.r reasons.Reads.Post
reasons_unique κs a x y s t p q = p ∙ sym q

pub reasons_asks_nothing : AsksNothing reasons_contract.signature (λ M 𝓤. reasons_contract.spec)
reasons_asks_nothing M 𝓤 𝓛 mem run κs a = (tt, id⊢ 𝓤 (emp 𝓤))
