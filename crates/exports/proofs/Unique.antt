-- The contracts leave no freedom and ask nothing: any two results that one of them allows for the same arguments are equal, and any arguments are allowed.
use mathlib.Core.Path.{sym, ◌∙◌}
use base.Logic.{emp, id⊢}
use Rattle.rules.specs.Promises.{Unique, AsksNothing}
use Rattle.exports.proofs.register_limit as register-limit
use Rattle.exports.specs.contracts.register_limit as register_limit_contract
use Rattle.exports.proofs.register_row_check as register-row-check
use Rattle.exports.specs.contracts.register_row_check as register_row_check_contract
use Rattle.exports.proofs.register_too_early as register-too-early
use Rattle.exports.specs.contracts.register_too_early as register_too_early_contract

pub register_limit_unique : Unique register-limit.Kinds.ps register-limit.Kinds.r register-limit.Reads.Post
register_limit_unique κs a x y s t p q = p ∙ sym q

pub register_limit_asks_nothing : AsksNothing register_limit_contract.signature (λ M 𝓤. register_limit_contract.spec)
register_limit_asks_nothing M 𝓤 𝓛 mem run κs a = (tt, id⊢ 𝓤 (emp 𝓤))

pub register_too_early_unique : Unique register-too-early.Kinds.ps register-too-early.Kinds.r register-too-early.Reads.Post
register_too_early_unique κs a x y s t p q = p ∙ sym q

pub register_too_early_asks_nothing : AsksNothing register_too_early_contract.signature (λ M 𝓤. register_too_early_contract.spec)
register_too_early_asks_nothing M 𝓤 𝓛 mem run κs a = (tt, id⊢ 𝓤 (emp 𝓤))

pub register_row_check_unique : Unique register-row-check.Kinds.ps register-row-check.Kinds.r register-row-check.Reads.Post
register_row_check_unique κs a x y s t p q = p ∙ sym q

pub register_row_check_asks_nothing : AsksNothing register_row_check_contract.signature (λ M 𝓤. register_row_check_contract.spec)
register_row_check_asks_nothing M 𝓤 𝓛 mem run κs a = (tt, id⊢ 𝓤 (emp 𝓤))
