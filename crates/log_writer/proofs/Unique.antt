-- The contract leaves no freedom and asks nothing: any two outcomes that it allows for the same arguments have equal answers and equal buffers, and any
-- arguments are allowed.
use mathlib.Core.Path.{◌≡◌, sym, ◌∙◌}
use base.Logic.{emp, id⊢}
use Rattle.rules.specs.Promises.{OfTwo, AsksNothing}
use Rattle.log_writer.proofs.write_log as log
use Rattle.log_writer.specs.contracts.write_log as log_contract

pub write_log_unique : OfTwo log.Kinds.ps log.Kinds.r log.Reads.Post (λ κs x y s t. (x ≡ y) × (s.1.1.0.now ≡ t.1.1.0.now))
write_log_unique κs a x y s t p q = (p.0 ∙ sym q.0, p.1.0 ∙ sym q.1.0)

pub write_log_asks_nothing : AsksNothing log_contract.signature (λ M 𝓤. log_contract.spec)
write_log_asks_nothing M 𝓤 𝓛 mem run κs a = (tt, id⊢ 𝓤 (emp 𝓤))
