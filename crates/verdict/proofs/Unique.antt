-- The contracts leave no freedom and ask nothing: any two results that one of them allows for the same arguments are equal, and any arguments are allowed.
use mathlib.Core.Path.{sym, ◌∙◌}
use base.Logic.{emp, id⊢}
use Rattle.rules.specs.Promises.{Unique, AsksNothing}
use Rattle.verdict.proofs.judge as judge
use Rattle.verdict.specs.contracts.judge as judge_contract
use Rattle.verdict.proofs.judge_answer as judge-answer
use Rattle.verdict.specs.contracts.judge_answer as judge_answer_contract
use Rattle.verdict.proofs.leads as leads
use Rattle.verdict.specs.contracts.leads as leads_contract

pub judge_unique : Unique judge.Kinds.ps judge.Kinds.r judge.Reads.Post
judge_unique κs a x y s t p q = p ∙ sym q

pub judge_asks_nothing : AsksNothing judge_contract.signature (λ M 𝓤. judge_contract.spec)
judge_asks_nothing M 𝓤 𝓛 mem run κs a = (tt, id⊢ 𝓤 (emp 𝓤))

pub judge_answer_unique : Unique judge-answer.Kinds.ps judge-answer.Kinds.r judge-answer.Reads.Post
judge_answer_unique κs a x y s t p q = p ∙ sym q

pub judge_answer_asks_nothing : AsksNothing judge_answer_contract.signature (λ M 𝓤. judge_answer_contract.spec)
judge_answer_asks_nothing M 𝓤 𝓛 mem run κs a = (tt, id⊢ 𝓤 (emp 𝓤))

pub leads_unique : Unique leads.Kinds.ps leads.Kinds.r leads.Reads.Post
leads_unique κs a x y s t p q = p ∙ sym q

pub leads_asks_nothing : AsksNothing leads_contract.signature (λ M 𝓤. leads_contract.spec)
leads_asks_nothing M 𝓤 𝓛 mem run κs a = (tt, id⊢ 𝓤 (emp 𝓤))
