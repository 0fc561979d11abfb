-- The contract leaves no freedom and asks nothing: any two outcomes that it allows for the same arguments have equal answers and equal buffers, and any arguments are allowed.
use mathlib.Core.Path.{◌≡◌, sym, ◌∙◌}
use base.Logic.{emp, id⊢}
use Rattle.rules.specs.Promises.{OfTwo, AsksNothing}
use Rattle.walk.proofs.ancestors as walk
use Rattle.walk.specs.contracts.ancestors as walk_contract

pub ancestors_unique : OfTwo walk.Kinds.ps walk.Kinds.r walk.Reads.Post (λ κs x y s t. (x ≡ y) × (s.1.1.1.1.1.0.now ≡ t.1.1.1.1.1.0.now))
ancestors_unique κs a x y s t p q = (p.0 ∙ sym q.0, p.1 ∙ sym q.1)

pub ancestors_asks_nothing : AsksNothing walk_contract.signature (λ M 𝓤. walk_contract.spec)
ancestors_asks_nothing M 𝓤 𝓛 mem run κs a = (tt, id⊢ 𝓤 (emp 𝓤))
