-- An offer that is not well formed is 3, and one with a name that is taken is 31. Otherwise the answer and the table are those of the addition, and the entry is the update with the offer under the id that
-- the addition gives.
use Prim.Native.Nat.{ℕ}
use native.Mathlib.Omega.{arith}
use mathlib.Core.Path.{◌≡◌, sym, ap, ◌∙◌}
use mathlib.Core.Bool.{true, false, false≢true}
use borrow.Author.Rules.{rules}
use borrow.Author.Tests.{not-true, not-false}
use Rattle.records.specs.declared.schema.Schema.{Schema}
use Rattle.records.specs.declared.update.TableUpdate.{TableUpdate}
use Rattle.rules.specs.Words.{first_of}
use Rattle.rules.specs.Register as plain
use Rattle.rules.specs.Register.{Terms, State}
use Rattle.rules.specs.Register.Update.{AddSchema}
use Rattle.rules.specs.Offers.{offered_schema}
use Rattle.rules.specs.SchemaUpdates.{add_schema_checks, offered_as}
use Rattle.rules.specs.Updates.{offers_formed, checks, offer_checks, effect}
use Rattle.rules.specs.Layout.{read_schema, laid_schema, read_schema_offer, laid_schema_offer}
use Rattle.rules.specs.Kinds.{read_update, with_schemas_part, with_schema_offer}
use Rattle.rules.proofs.Slots.Reread.{reread_schema}
use Rattle.offers.specs.Offered.{Offered}
use Rattle.builder.specs.declared.decision.Decision.{Decision}
use Rattle.builder.proofs.Steps.{entry_as}
use Rattle.builder.proofs.Entries.{by_kind, of_kind_lem, read_kind_lem}
use Rattle.schema_updates.specs.Schemas.{Sought, SchemaDecided}
use Rattle.schema_updates.proofs.add_schema.Statement.{statement}
use Rattle.schema_updates.proofs.add_schema.Tie as tie

-- the update, of kind 9, and its offer
module _ (s : tie.Start) where
  abbrev offer : plain.SchemaOffer
  offer = read_schema_offer s.args.u.schemas.added

  as_kind : s.args.u ≡ by_kind 9 s.args.u
  as_kind = of_kind_lem s.args.u s.requires.1.1.0 9 s.requires.1.1.1

  read : read_update s.args.u ≡ AddSchema offer
  read = read_kind_lem s.args.u s.requires.1.1.0 9 s.requires.1.1.1

  abbrev Told : State → Type 0
  Told st = Sought st.metadata (read_schema s.args.offered.schema) s.args.keys s.args.equal s.args.taken

  -- a number other than 0: nothing is changed
  refused : (d : Decision) (n : ℕ) → (n ≡ 0 → ⊥) → d.number ≡ n → d.grows ≡ false → ((terms : Terms) (st : State) → Offered terms.offers offer s.args.offered → Told st → n ≡ first_of (offer_checks terms (AddSchema offer) st))
      → SchemaDecided s.args.b s.args.keys s.args.equal s.args.taken s.args.offered s.args.u d
  refused d n z e g k =
      record {
        answers = λ terms st f p q. rw read (e ∙ k terms st f q, λ y. absurd (z (sym e ∙ y)));
        table = λ terms st f q y. absurd (z (sym e ∙ y));
        room = λ y. absurd (false≢true (sym g ∙ y));
      }

  -- a well-formed offer, as it is read
  module _ (w : s.args.offered.formed ≡ true) (terms : Terms) (f : Offered terms.offers offer s.args.offered) where
    said : read_schema s.args.offered.schema ≡ offered_schema terms.offers offer
    said = ap (λ (t : Schema). read_schema t) (f.says w) ∙ reread_schema (offered_schema terms.offers offer)

    named : offer.id ≡ s.args.offered.schema.schema_id.0
    unfolding laid_schema offered_schema
    named = sym (ap (λ (t : Schema). t.schema_id.0) (f.says w))

returns : tie.Need-returns-then-not-offered
unfolding checks offers_formed
returns c =
    let s = c.before.before.before in
    let n : s.args.offered.formed ≡ false = not-true s.args.offered.formed c.if-not-offered.true in
    refused s c.decided.result 3 (λ (e : ◌≡◌ {A = ℕ} 3 0). omega arith)
    (ap (λ (x : Decision). x.number) c.decided.ensures)
    (ap (λ (x : Decision). x.grows) c.decided.ensures)
    (λ terms st f q. rw (sym f.formed ∙ n))

returns_2 : tie.Need-returns-then-taken
unfolding checks offers_formed add_schema_checks
returns_2 c =
    let s = c.before.before.before.before in
    let w : s.args.offered.formed ≡ true = not-false s.args.offered.formed c.if-not-offered.false in
    refused s c.decided-then-taken.result 31 (λ (e : ◌≡◌ {A = ℕ} 31 0). omega arith)
    (ap (λ (x : Decision). x.number) c.decided-then-taken.ensures)
    (ap (λ (x : Decision). x.grows) c.decided-then-taken.ensures)
    (λ terms st f q. rw (sym f.formed ∙ w, ← (said s w terms f), ← q.clash, c.if-taken.true))

returns_3 : tie.Need-returns
unfolding checks offers_formed effect
returns_3 c =
    let x = c.before.before.before.before in
    let s = x.before.before.before.before.before in
    let a = x.schema_addition-x in
    let w : s.args.offered.formed ≡ true = not-false s.args.offered.formed x.if-not-offered.false in
    let free : (st : State) → Told s st → Sought st.metadata (read_schema s.args.offered.schema) s.args.keys s.args.equal false =
    λ st q. record { ids = q.ids; place = q.place; clash = sym x.if-taken.false ∙ q.clash } in
    record {
      answers = λ terms st f p q. rw (read s, sym f.formed ∙ w) (entry_as (rw (said s w terms f) at (a.ensures.answers (offer s) st (named s w terms f) p (free st q))) (ap (λ (t : TableUpdate). with_schemas_part (with_schema_offer (laid_schema_offer (offered_as a.result.schema_id.0 (offer s))) t.schemas) t) (as_kind s)));
      table = λ terms st f q z. rw (read s, ← (said s w terms f)) (a.ensures.table (offer s) st (free st q) z);
      room = a.ensures.room;
    }

pub add_schema_spec : {M : Type 1} → statement M
add_schema_spec = tie.close (tie.spec (λ c κs. search rules) returns (λ c κs. search rules) returns_2 (λ c κs. (c.requires.0, c.requires.1.0)) returns_3)
