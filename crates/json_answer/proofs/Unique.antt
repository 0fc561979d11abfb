-- The contracts of the reader leave no freedom and ask nothing: any two outcomes that one allows for the same arguments have equal answers and equal offers, and
-- any arguments are allowed.
use mathlib.Core.Path.{◌≡◌, sym, ap, ◌∙◌}
use mathlib.Core.List.{List}
use Prim.Native.Nat.{ℕ}
use base.Logic.{emp, id⊢}
use Rattle.rules.specs.Promises.{OfTwo, AsksNothing}
use Rattle.json_list.specs.declared.reader.Reader.{Reader}
use Rattle.json_list.specs.declared.reader.Answer.{Answer}
use Rattle.json_list.specs.States.{State, state_of, Ended, ended}
use Rattle.json_list.proofs.reader.start as start
use Rattle.json_list.specs.contracts.reader.start as start_contract
use Rattle.json_list.proofs.reader.feed as feed
use Rattle.json_list.specs.contracts.reader.feed as feed_contract
use Rattle.json_list.proofs.reader.end as end
use Rattle.json_list.specs.contracts.reader.end as end_contract

-- what a reader holds says all of it
reader_in : State → Reader
reader_in s =
    record {
      before = s.before;
      lexer = s.fed.reading.lexer;
      kept = s.fed.reading.slots;
      judge = s.fed.sink.work.slots;
      numbers = s.fed.sink.work.held.numbers;
      texts = s.fed.sink.work.held.texts;
      list = s.fed.sink.list;
      offered = s.fed.sink.offered;
    }

module _ {x y : Reader} {a b : List ℕ} (e : state_of x a ≡ state_of y b) where
  same_reader : x ≡ y
  unfolding reader_in
  same_reader = ap reader_in e

  same_offers : a ≡ b
  same_offers = ap (λ (s : State). s.fed.sink.offers) e

pub start_unique : OfTwo start.Kinds.ps start.Kinds.r start.Reads.Post (λ κs x y s t. (x ≡ y) × (s.0.now ≡ t.0.now))
start_unique κs a x y s t p q = (same_reader (p ∙ sym q), same_offers (p ∙ sym q))

pub start_asks_nothing : AsksNothing start_contract.signature (λ M 𝓤. start_contract.spec)
start_asks_nothing M 𝓤 𝓛 mem run κs a = (tt, id⊢ 𝓤 (emp 𝓤))

pub feed_unique : OfTwo feed.Kinds.ps feed.Kinds.r feed.Reads.Post (λ κs x y s t. (x ≡ y) × (s.1.1.0.now ≡ t.1.1.0.now))
feed_unique κs a x y s t p q = (same_reader (p ∙ sym q), same_offers (p ∙ sym q))

pub feed_asks_nothing : AsksNothing feed_contract.signature (λ M 𝓤. feed_contract.spec)
feed_asks_nothing M 𝓤 𝓛 mem run κs a = (tt, id⊢ 𝓤 (emp 𝓤))

pub end_unique : OfTwo end.Kinds.ps end.Kinds.r end.Reads.Post (λ κs x y s t. (x ≡ y) × (s.1.0.now ≡ t.1.0.now))
end_unique κs a x y s t p q = (ap (λ (z : Ended). z.answer) (p ∙ sym q), ap (λ (z : Ended). z.offers) (p ∙ sym q))

pub end_asks_nothing : AsksNothing end_contract.signature (λ M 𝓤. end_contract.spec)
end_asks_nothing M 𝓤 𝓛 mem run κs a = (tt, id⊢ 𝓤 (emp 𝓤))
