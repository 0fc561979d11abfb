-- An update that changes nothing where a test holds, and else takes effect and is logged.
use Prim.Native.Nat.{ℕ}
use native.Mathlib.Omega.{arith}
use mathlib.Core.Path.{◌≡◌, refl, sym, ap, subst}
use mathlib.Core.Bool.{Bool, true, false, cond, not, false≢true, true≢false}
use mathlib.Core.List.{List, [], ◌∷◌, ◌++◌}
use borrow.Author.Tests.{le-ltb, lt-ltb}
use lib.Dec.{ltb}
use lib.ListN.{length}
use Rattle.records.specs.declared.update.TableUpdate.{TableUpdate}
use Rattle.rules.specs.Words.{is_empty}
use Rattle.rules.specs.Register.{Update, State, logged}
use Rattle.rules.specs.Kinds.{laid_update}
use Rattle.builder.specs.declared.builder.TableMetadataBuilder.{TableMetadataBuilder}
use Rattle.builder.specs.Pieces.{laid_builder, Stepped}

pub stepped_unless : (same : Bool) (st st₁ : State) (u : Update) (b : TableMetadataBuilder) (entry : TableUpdate) → st₁.log ≡ st.log → b ≡ laid_builder st₁ → entry ≡ laid_update u
    → Stepped st (cond same st (logged u st₁)) (not same) b entry
unfolding laid_builder
stepped_unless true st st₁ u b entry l p e = record { took = λ h. absurd (false≢true h); left = λ h. refl }
stepped_unless false st st₁ u b entry l p e =
    record {
      took = λ h. record { builder = p; update = u; log = ap (λ (k : List Update). k ++ (u ∷ [])) l; laid = e };
      left = λ h. absurd (true≢false h);
    }

-- the answer with its entry under another name
pub entry_as : {N Z : Type 0} {st st' : State} {logs : Bool} {b : TableMetadataBuilder} {entry other : TableUpdate} → N × (Z → Stepped st st' logs b entry) → other ≡ entry → N × (Z → Stepped st st' logs b other)
entry_as {st = st} {st' = st'} {logs = logs} {b = b} a q = (a.0, λ z. subst (λ (x : TableUpdate). Stepped st st' logs b x) (sym q) (a.1 z))

-- elements are counted exactly if there are some
pub some_counted : {A : Type 0} (l : List A) (n : ℕ) → length l ≡ n → ltb 0 n ≡ not (is_empty l)
some_counted [] n e = le-ltb 0 n (omega arith)
some_counted (x ∷ l) n e = lt-ltb 0 n (omega arith)
