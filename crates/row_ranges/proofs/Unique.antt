-- The contract leaves no freedom and asks nothing: any two answers that it allows for the same metadata are equal, and any metadata is allowed.
use mathlib.Core.Path.{sym, ◌∙◌}
use base.Logic.{emp, id⊢}
use Rattle.rules.specs.Promises.{Unique, AsksNothing}
use Rattle.row_ranges.proofs.rows_apart as rows_apart
use Rattle.row_ranges.specs.contracts.rows_apart as rows_apart_contract

pub rows_apart_unique : Unique rows_apart.Kinds.ps rows_apart.Kinds.r rows_apart.Reads.Post
rows_apart_unique κs a x y s t p q = p ∙ sym q

pub rows_apart_asks_nothing : AsksNothing rows_apart_contract.signature (λ M 𝓤. rows_apart_contract.spec)
rows_apart_asks_nothing M 𝓤 𝓛 mem run κs a = (tt, id⊢ 𝓤 (emp 𝓤))
