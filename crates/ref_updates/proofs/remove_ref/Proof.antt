-- Each return is one of the rule's three cases, on the refs that are read of the table.
use Prim.Native.Nat.{ℕ}
use mathlib.Core.Path.{◌≡◌, refl, sym, ap, ◌∙◌}
use mathlib.Core.Bool.{Bool, true, false, false≢true, true≢false}
use mathlib.Core.List.{List}
use mathlib.Core.Option.{none}
use borrow.Author.Rules.{rules}
use lib.Dec.{ltb}
use lib.ListN.{get_or}
use Rattle.records.specs.Blanks.{no_ref}
use Rattle.records.specs.declared.reference.Refs.{Refs}
use Rattle.records.specs.declared.update.TableUpdate.{TableUpdate}
use Rattle.rules.specs.Words.{is_some}
use Rattle.rules.specs.Names.{is_main}
use Rattle.rules.specs.Register.{State, RemoveRef, with_current, on_fields}
use Rattle.rules.specs.RefUpdates.{ref_named, remove_ref}
use Rattle.rules.specs.Updates.{offers_formed, checks, effect}
use Rattle.rules.specs.Layout.{read_name, read_ref, read_refs, laid_refs}
use Rattle.rules.specs.Kinds.{read_update, laid_update}
use Rattle.rules.proofs.Slots.Relaid.{flag_given}
use Rattle.rules.proofs.Slots.Reread.{reread_refs}
use Rattle.builder.specs.declared.builder.TableMetadataBuilder.{TableMetadataBuilder}
use Rattle.builder.specs.Pieces.{laid_builder, Stepped}
use Rattle.builder.proofs.Entries.{of_kind_lem, read_kind_lem}
use Rattle.ref_updates.proofs.Named.{named}
use Rattle.ref_updates.proofs.remove_ref.Statement.{statement}
use Rattle.ref_updates.proofs.remove_ref.Tie as tie

-- ---- the rule's cases

module _ (name : List ℕ) (st : State) {b : TableMetadataBuilder} {e : TableUpdate} (laid : e ≡ laid_update (RemoveRef name)) where
  main_gone : is_main name ≡ true → b ≡ laid_builder (on_fields (with_current none) st) → Stepped st (remove_ref name st) true b e
  unfolding remove_ref laid_builder
  main_gone m p = record { took = λ _. record { builder = p ∙ rw m; update = RemoveRef name; log = rw m; laid = laid }; left = λ f. absurd (true≢false f) }

  other_gone : is_main name ≡ false → (held : Bool) → is_some (ref_named name st.metadata.refs) ≡ held → b ≡ laid_builder st → Stepped st (remove_ref name st) held b e
  unfolding remove_ref laid_builder
  other_gone m true h p = record { took = λ _. record { builder = p ∙ rw (m, h); update = RemoveRef name; log = rw (m, h); laid = laid }; left = λ f. absurd (true≢false f) }
  other_gone m false h p = record { took = λ f. absurd (false≢true f); left = λ _. rw (m, h) }

-- ---- the update

module _ (s : tie.Start) where
  read : read_update s.args.u ≡ RemoveRef (read_name s.args.u.refs.name)
  read = read_kind_lem s.args.u s.requires.1.1.0 8 s.requires.1.1.1

  entry : s.args.u ≡ laid_update (RemoveRef (read_name s.args.u.refs.name))
  unfolding laid_update
  entry = of_kind_lem s.args.u s.requires.1.1.0 8 s.requires.1.1.1 ∙ rw s.requires.1.0.back

-- the name is held exactly if the place is within the count
is_named_lem : (c : tie.After-find-at) (st : State) → let s = c.before.before.before in
    s.args.t ≡ laid_refs st.metadata.refs → is_some (ref_named (read_name s.args.u.refs.name) st.metadata.refs) ≡ ltb c.find-at.result s.args.t.count
is_named_lem c st r =
    let n = read_name c.args.u.refs.name in
    ap is_some (ap (ref_named n) (sym (ap (λ (t : Refs). read_refs t) r ∙ reread_refs st.metadata.refs)) ∙ named c.requires.0 n no_ref c.find-at.ensures) ∙ flag_given (ltb c.find-at.result c.args.t.count) (read_ref (get_or c.args.t.items c.find-at.result no_ref))

returns : tie.Need-returns-then-main
unfolding offers_formed checks effect
returns c terms st p q =
    let k = c.before.before.before in
    let s = k.before.before.before in
    rw (c.decided.ensures, read s) (refl, λ z. main_gone (read_name s.args.u.refs.name) st (entry s) (sym k.is_main_name-main.ensures ∙ c.if-main.true) (c.without_current-c.ensures st p))

returns_2 : tie.Need-returns
unfolding offers_formed checks effect
returns_2 c terms st p q =
    let k = c.before.before in
    let s = k.before.before.before in
    rw (c.decided-2.ensures, read s) (refl, λ z. other_gone (read_name s.args.u.refs.name) st (entry s) (sym k.is_main_name-main.ensures ∙ c.if-main.false) (ltb k.find-at.result s.args.t.count) (is_named_lem k st q) p)

pub remove_ref_spec : {M : Type 1} → statement M
remove_ref_spec =
    tie.close
    (tie.spec
    (λ c κs. search rules)
    (λ c κs. search rules)
    (λ c κs. search rules)
    (λ c κs. search rules)
    returns
    (λ c κs. search rules)
    returns_2)
