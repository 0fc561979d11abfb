-- The contracts leave no freedom and ask nothing: any two results that one of them allows for the same arguments are equal, and any arguments are allowed.
use mathlib.Core.Path.{◌≡◌, sym, ◌∙◌}
use mathlib.Core.Bool.{Bool}
use base.Logic.{emp, id⊢}
use borrow.Table.Steps.{cases}
use lib.IntN.{ℤ}
use Rattle.rules.specs.Promises.{Unique, AsksNothing}
use Rattle.calendar.specs.declared.date.Date.{Date}
use Rattle.calendar.specs.declared.date.Dated.{Dated}
use Rattle.calendar.specs.Answers.{DateOf}
use Rattle.calendar.proofs.OneDate.{one_date}
use Rattle.calendar.proofs.date.date_of as date-of
use Rattle.calendar.specs.contracts.date.date_of as date_of_contract
use Rattle.calendar.proofs.date.day_of as day-of
use Rattle.calendar.specs.contracts.date.day_of as day_of_contract
use Rattle.calendar.proofs.date.time_of as time-of
use Rattle.calendar.specs.contracts.date.time_of as time_of_contract

joined : (r s : Dated) → r.is_dated ≡ s.is_dated → r.date ≡ s.date → r ≡ s
joined r s = whole r.is_dated r.date
  where
    whole : (b : Bool) (d : Date) → b ≡ s.is_dated → d ≡ s.date → record { is_dated = b; date = d } ≡ s
    whole b d e₁ e₂ = rw (e₁, e₂)

one_answer : (time : ℤ) (r s : Dated) → DateOf time r → DateOf time s → r ≡ s
one_answer time r s p q =
    let e : r.is_dated ≡ s.is_dated = p.flag ∙ sym q.flag in
    joined r s e
    (cases r.is_dated
    (λ t. let u = sym e ∙ t in one_date r.date s.date (p.is_date t) (q.is_date u) (p.same t ∙ sym (q.same u)))
    (λ f. p.none f ∙ sym (q.none (sym e ∙ f))))

pub date_of_unique : Unique date-of.Kinds.ps date-of.Kinds.r date-of.Reads.Post
date_of_unique κs a x y s t p q = one_answer _ x y p q

pub date_of_asks_nothing : AsksNothing date_of_contract.signature (λ M 𝓤. date_of_contract.spec)
date_of_asks_nothing M 𝓤 𝓛 mem run κs a = (tt, id⊢ 𝓤 (emp 𝓤))

pub time_of_unique : Unique time-of.Kinds.ps time-of.Kinds.r time-of.Reads.Post
time_of_unique κs a x y s t p q = p ∙ sym q

pub time_of_asks_nothing : AsksNothing time_of_contract.signature (λ M 𝓤. time_of_contract.spec)
time_of_asks_nothing M 𝓤 𝓛 mem run κs a = (tt, id⊢ 𝓤 (emp 𝓤))

pub day_of_unique : Unique day-of.Kinds.ps day-of.Kinds.r day-of.Reads.Post
day_of_unique κs a x y s t p q = p ∙ sym q

pub day_of_asks_nothing : AsksNothing day_of_contract.signature (λ M 𝓤. day_of_contract.spec)
day_of_asks_nothing M 𝓤 𝓛 mem run κs a = (tt, id⊢ 𝓤 (emp 𝓤))
