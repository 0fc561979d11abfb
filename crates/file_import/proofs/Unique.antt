-- The contract leaves no freedom and asks nothing: any two answers that it allows to the same bytes are equal, and any bytes are allowed.
use mathlib.Core.Path.{◌≡◌, sym, ◌∙◌}
use base.Logic.{emp, id⊢}
use Rattle.rules.specs.Promises.{OfTwo, AsksNothing}
use Rattle.file_import.proofs.import as file
use Rattle.file_import.specs.contracts.import as file_contract

pub import_unique : OfTwo file.Kinds.ps file.Kinds.r file.Reads.Post (λ κs x y s t. x ≡ y)
import_unique κs a x y s t p q = p ∙ sym q

pub import_asks_nothing : AsksNothing file_contract.signature (λ M 𝓤. file_contract.spec)
import_asks_nothing M 𝓤 𝓛 mem run κs a = (tt, id⊢ 𝓤 (emp 𝓤))
