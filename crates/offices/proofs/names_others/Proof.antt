-- The ref of the name, where it is held, is found, and its owner told.
use mathlib.Core.Path.{◌≡◌, sym, ap, ap₂, ◌∙◌}
use mathlib.Core.Bool.{Bool, ◌&&◌, ◌||◌, or-false}
use native.Mathlib.Omega.{arith}
use borrow.Author.Rules.{rules}
use borrow.Author.Tests.{lt-ltb, le-ltb}
use lib.Dec.{ltb}
use Rattle.rules.specs.Words.{any, some_with}
use Rattle.rules.specs.Names.{is_main}
use Rattle.rules.specs.RefUpdates.{has_name, ref_named}
use Rattle.rules.specs.Others.{is_second, is_others_ref}
use Rattle.rules.specs.Layout.{read_name, read_refs}
use Rattle.tables.proofs.Table.{within}
use Rattle.tables.proofs.Each.{tidy_refs}
use Rattle.tables.proofs.Search.{place_held, first_none, found_first}
use Rattle.offices.proofs.names_others.Statement.{statement}
use Rattle.offices.proofs.names_others.Tie as tie

module _ (c : tie.After-find-at) where
  abbrev s : tie.Start
  s = c.before.before

  -- the name is held exactly if its place is one of the table's
  held : {t : Bool} → ltb c.find-at.result s.args.refs.count ≡ t → any (has_name (read_name s.args.name)) (read_refs s.args.refs) ≡ t
  held e = sym (place_held (tidy_refs s.requires.1) (has_name (read_name s.args.name)) c.find-at.ensures) ∙ e

  -- `main`, and the ref of the name
  told : {a : Bool} → a ≡ some_with (is_others_ref s.args.office) (ref_named (read_name s.args.name) (read_refs s.args.refs)) → ((is_second s.args.office && c.is_main_name.result) || a) ≡ ((is_second s.args.office && is_main (read_name s.args.name)) || some_with (is_others_ref s.args.office) (ref_named (read_name s.args.name) (read_refs s.args.refs)))
  told e = ap₂ (λ (x y : Bool). (is_second s.args.office && x) || y) c.is_main_name.ensures e

pub names_others_spec : {M : Type 1} → statement M
names_others_spec =
    tie.close
    (tie.spec
    (λ c κs. search rules)
    (λ c κs. search rules)
    (λ c. omega (arith, within (tidy_refs (s c.before).requires.1)))
    (λ c. omega (arith, within (tidy_refs (s c.before).requires.1)))
    (λ c. let f = c.before in
    told f (sym (ap (some_with (is_others_ref (s f).args.office)) (found_first (tidy_refs (s f).requires.1) (has_name (read_name (s f).args.name)) (held f (lt-ltb _ _ c.if-at-n.true)) f.find-at.ensures _))))
    (λ c. let f = c.before in
    sym (or-false _) ∙ told f (sym (ap (some_with (is_others_ref (s f).args.office)) (first_none (has_name (read_name (s f).args.name)) (read_refs (s f).args.refs) (held f (le-ltb _ _ c.if-at-n.false)))))))
