-- The contract leaves no freedom and asks nothing: any two outcomes that it allows for the same arguments have equal answers and equal buffers, and any arguments are allowed.
use mathlib.Core.Path.{◌≡◌, sym, ◌∙◌}
use base.Logic.{emp, id⊢}
use Rattle.rules.specs.Promises.{OfTwo, AsksNothing}
use Rattle.file_export.proofs.export as file
use Rattle.file_export.specs.contracts.export as file_contract

pub export_unique : OfTwo file.Kinds.ps file.Kinds.r file.Reads.Post (λ κs x y s t. (x ≡ y) × (s.1.0.now ≡ t.1.0.now))
export_unique κs a x y s t p q = (p.0 ∙ sym q.0, p.1.0 ∙ sym q.1.0)

pub export_asks_nothing : AsksNothing file_contract.signature (λ M 𝓤. file_contract.spec)
export_asks_nothing M 𝓤 𝓛 mem run κs a = (tt, id⊢ 𝓤 (emp 𝓤))
