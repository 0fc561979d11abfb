-- The contracts leave no freedom and ask nothing: any two results that one of them allows for the same arguments are equal, and any arguments are allowed.
use mathlib.Core.Path.{◌≡◌, sym, ◌∙◌}
use base.Logic.{emp, id⊢}
use Rattle.rules.specs.Promises.{OfTwo, Unique, AsksNothing}
use Rattle.primitives.proofs.limit.limit as limit
use Rattle.primitives.specs.contracts.limit.limit as limit_contract
use Rattle.primitives.proofs.location.trim as trim
use Rattle.primitives.specs.contracts.location.trim as trim_contract
use Rattle.primitives.proofs.names.is_main as is-main
use Rattle.primitives.specs.contracts.names.is_main as is_main_contract
use Rattle.primitives.proofs.names.name_below as name_below_lem
use Rattle.primitives.specs.contracts.names.name_below as name_below_lem_contract
use Rattle.primitives.proofs.names.same_bytes as same_bytes
use Rattle.primitives.specs.contracts.names.same_bytes as same_bytes_contract
use Rattle.primitives.proofs.row_ids.check_rows as check-rows
use Rattle.primitives.specs.contracts.row_ids.check_rows as check_rows_contract
use Rattle.primitives.proofs.window.is_before as is-before
use Rattle.primitives.specs.contracts.window.is_before as is_before_contract

pub limit_unique : Unique limit.Kinds.ps limit.Kinds.r limit.Reads.Post
limit_unique κs a x y s t p q = p ∙ sym q

pub limit_asks_nothing : AsksNothing limit_contract.signature (λ M 𝓤. limit_contract.spec)
limit_asks_nothing M 𝓤 𝓛 mem run κs a = (tt, id⊢ 𝓤 (emp 𝓤))

pub is_before_unique : Unique is-before.Kinds.ps is-before.Kinds.r is-before.Reads.Post
is_before_unique κs a x y s t p q = p ∙ sym q

pub is_before_asks_nothing : AsksNothing is_before_contract.signature (λ M 𝓤. is_before_contract.spec)
is_before_asks_nothing M 𝓤 𝓛 mem run κs a = (tt, id⊢ 𝓤 (emp 𝓤))

pub check_rows_unique : Unique check-rows.Kinds.ps check-rows.Kinds.r check-rows.Reads.Post
check_rows_unique κs a x y s t p q = p ∙ sym q

pub check_rows_asks_nothing : AsksNothing check_rows_contract.signature (λ M 𝓤. check_rows_contract.spec)
check_rows_asks_nothing M 𝓤 𝓛 mem run κs a = (tt, id⊢ 𝓤 (emp 𝓤))

-- the part of the caller's bytes: where it starts, and what it holds
pub trim_unique : OfTwo trim.Kinds.ps trim.Kinds.r trim.Reads.Post (λ κs x y s t. (x.ref_ptr ≡ y.ref_ptr) × (x.now ≡ y.now))
trim_unique κs a x y s t p q = (p.1 ∙ sym q.1, p.0 ∙ sym q.0)

pub trim_asks_nothing : AsksNothing trim_contract.signature (λ M 𝓤. trim_contract.spec)
trim_asks_nothing M 𝓤 𝓛 mem run κs a = (tt, id⊢ 𝓤 (emp 𝓤))

pub same_bytes_unique : Unique same_bytes.Kinds.ps same_bytes.Kinds.r same_bytes.Reads.Post
same_bytes_unique κs a x y s t p q = p ∙ sym q

pub same_bytes_asks_nothing : AsksNothing same_bytes_contract.signature (λ M 𝓤. same_bytes_contract.spec)
same_bytes_asks_nothing M 𝓤 𝓛 mem run κs a = (tt, id⊢ 𝓤 (emp 𝓤))

pub name_below_unique : Unique name_below_lem.Kinds.ps name_below_lem.Kinds.r name_below_lem.Reads.Post
name_below_unique κs a x y s t p q = p ∙ sym q

pub name_below_asks_nothing : AsksNothing name_below_lem_contract.signature (λ M 𝓤. name_below_lem_contract.spec)
name_below_asks_nothing M 𝓤 𝓛 mem run κs a = (tt, id⊢ 𝓤 (emp 𝓤))

pub is_main_unique : Unique is-main.Kinds.ps is-main.Kinds.r is-main.Reads.Post
is_main_unique κs a x y s t p q = p ∙ sym q

pub is_main_asks_nothing : AsksNothing is_main_contract.signature (λ M 𝓤. is_main_contract.spec)
is_main_asks_nothing M 𝓤 𝓛 mem run κs a = (tt, id⊢ 𝓤 (emp 𝓤))
