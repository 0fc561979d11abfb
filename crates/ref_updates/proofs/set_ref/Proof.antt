-- The number is that of the rule's checks, the builder and the entry are those of its effect.
use mathlib.Core.Path.{◌≡◌, refl, sym, ap, ◌∙◌}
use mathlib.Core.Bool.{true, false, not}
use borrow.Author.Rules.{rules}
use borrow.Author.Tests.{not-true, eqb-true}
use lib.Dec.{eqb}
use lib.ListN.{length}
use Rattle.records.specs.declared.reference.Refs.{Refs}
use Rattle.records.specs.declared.update.TableUpdate.{TableUpdate}
use Rattle.rules.specs.Register as plain
use Rattle.rules.specs.Register.{SetRef}
use Rattle.rules.specs.Words.{first_of}
use Rattle.rules.specs.RefUpdates.{is_held_ref, own_after}
use Rattle.rules.specs.Layout.{read_name, read_reference, read_refs}
use Rattle.rules.specs.Kinds.{laid_update}
use Rattle.rules.proofs.Checks.{and_left, and_right}
use Rattle.rules.proofs.Slots.Reread.{reread_refs}
use Rattle.ref_updates.specs.Refs.{asked_ref, NewRef}
use Rattle.ref_updates.proofs.Named.{named_long}
use Rattle.ref_updates.proofs.Deciding.{three, number_is, is_held, has_room, unnamed, set_builder}
use Rattle.ref_updates.proofs.set_ref.Statement.{statement}
use Rattle.ref_updates.proofs.set_ref.Tie as tie

-- the entry, laid out from what is read of the ref
entry : (c : tie.After-setting-e) → let A = c.before.before.before.before.before.before.before in
    c.setting-e.result ≡ laid_update (SetRef (read_name A.args.u.refs.name) (read_reference A.asked_ref-asked.result.reference))
entry c =
    let A = c.before.before.before.before.before.before.before in
    c.setting-e.ensures A.requires.1.1.1.1 A.requires.1.1.1.0 A.requires.1.0.fits A.asked_ref-asked.ensures.laid

-- where the number is 0 and the ref is not held as it is to be, none of the three checks fails
none_fails : (c : tie.After-choose-number) → let N = c.before in let A = N.before.before.before.before in c.choose-number.result ≡ 0 → A.asked_ref-asked.result.same ≡ false → first_of (three A.args.held A.asked_ref-asked.result.named A.args.t.count N.is_main_name-main.result A.args.entries) ≡ 0
none_fails c z f = sym c.set_ref_number-fails.ensures ∙ sym (c.choose-number.ensures ∙ rw f) ∙ z

-- the ref of the entry can be put
new : (c : tie.After-setting-e) → let ch = c.before.before in let A = ch.before.before.before.before.before in let s = A.before.before in
    ch.choose-number.result ≡ 0 → A.asked_ref-asked.result.same ≡ false → NewRef s.args.t c.setting-e.result.refs
unfolding laid_update
new c z f =
    let ch = c.before.before in
    let A = ch.before.before.before.before.before in
    let x = A.asked_ref-asked in
    let n : c.setting-e.result.refs.name ≡ A.args.u.refs.name = ap (λ (e : TableUpdate). e.refs.name) (entry c) ∙ A.requires.1.0.back in
    let r : c.setting-e.result.refs.reference ≡ x.result.reference = ap (λ (e : TableUpdate). e.refs.reference) (entry c) ∙ x.ensures.laid in
    record {
      laid = record { name = rw n A.requires.1.0; reference = rw r x.ensures.laid };
      room = λ e. has_room A.args.held x.result.named A.args.t.count ch.is_main_name-main.result A.args.entries (none_fails ch z f) (x.ensures.named ∙ unnamed (read_name A.args.u.refs.name) (read_refs A.args.t) (rw n at e));
    }

returns : tie.Need-returns
returns c =
    let B = c.before in
    let ch = B.before in
    let M = ch.before.before in
    let A = M.before.before.before in
    let x = A.asked_ref-asked in
    let u = A.args.u in
    let name = read_name u.refs.name in
    record {
      answers = λ terms st F.
          let l : read_refs A.args.t ≡ st.metadata.refs = ap (λ (t : Refs). read_refs t) F.refs ∙ reread_refs st.metadata.refs in
          let same : x.result.same ≡ is_held_ref name (asked_ref u st.metadata.refs) st.metadata.refs = rw l at x.ensures.same in
          let read : read_reference x.result.reference ≡ asked_ref u st.metadata.refs = rw l at x.ensures.read in
          record {
            number = ch.choose-number.ensures ∙ rw ch.set_ref_number-fails.ensures (number_is name (asked_ref u st.metadata.refs) st same F.snapshot (rw l at x.ensures.named) (sym (named_long A.requires.0) ∙ ap length l) M.is_main_name-main.ensures F.log);
            logs = rw same;
            grows = refl;
            builder = λ z t.
                let f : x.result.same ≡ false = not-true x.result.same t in
                let h : A.args.held ≡ true = is_held A.args.held x.result.named A.args.t.count M.is_main_name-main.result A.args.entries (none_fails ch z f) in
                B.set_ref_builder-c.ensures st (own_after (asked_ref u st.metadata.refs).snapshot st) F.builder (F.own h)
                ∙ set_builder terms name (asked_ref u st.metadata.refs) st (sym same ∙ f) M.is_main_name-main.ensures F.now (ap (λ (y : plain.Reference). y.snapshot) read);
            entry = entry c ∙ ap (λ (y : plain.Reference). laid_update (SetRef name y)) read;
          };
      new = λ g. new c (eqb-true ch.choose-number.result 0 (and_right (not x.result.same) (eqb ch.choose-number.result 0) g)) (not-true x.result.same (and_left (not x.result.same) (eqb ch.choose-number.result 0) g));
    }

pub set_ref_spec : {M : Type 1} → statement M
set_ref_spec =
    tie.close
    (tie.spec
    (λ c κs. (c.requires.0, (c.requires.1.0, c.requires.1.1.0)))
    (λ c κs. c.requires.1.0)
    (λ c κs. search rules)
    (λ c κs. search rules)
    (λ c κs. search rules)
    (λ c κs. search rules)
    returns)
