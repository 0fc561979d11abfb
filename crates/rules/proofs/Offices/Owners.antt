-- Owners: since the other office's refs stay, a name that was held has the owner that it had, and a new one the run's office.
use Prim.Native.Nat.{ℕ}
use mathlib.Core.Path.{◌≡◌, refl, sym, ap, ◌∙◌}
use mathlib.Core.Bool.{true, false, true≢false}
use mathlib.Core.List.{List}
use mathlib.Core.Option.{Option, none, some}
use lib.Dec.{eqb}
use borrow.Author.Tests.{eqb-true, not-false}
use borrow.Table.Steps.{cases}
use Rattle.rules.specs.Words.{ascending}
use Rattle.rules.specs.Register.{NamedRef, FileEntry, Metadata, Update, Terms}
use Rattle.rules.specs.Register.Outcome.{Accepted}
use Rattle.rules.specs.WellFormed.{ref_below}
use Rattle.rules.specs.RefUpdates.{ref_named, owner_after}
use Rattle.rules.specs.Others.{is_others_ref, others_refs}
use Rattle.rules.specs.Run.{run}
use Rattle.rules.proofs.Orders.{names_ordered, names_told_lem}
use Rattle.rules.proofs.Tables.{first_keep, first_kept}
use Rattle.rules.proofs.Sound.Metadata.{formed_sound}
use Rattle.rules.proofs.Sound.Accepted.{run_accepted}
use Rattle.rules.proofs.Sound.Run.{accepted_formed}
use Rattle.rules.proofs.Offices.Refs.{refs_ascending, accepted_start, office_refs_stay}

abbrev name_of : NamedRef → List ℕ
name_of r = r.name

module _ (office : ℕ) (name : List ℕ) where
  -- the other office's ref of a name is the ref of that name in any table with the same refs of the other office
  same_ref_lem : (a b : List NamedRef) → others_refs office a ≡ others_refs office b → ascending ref_below b ≡ true → (r : NamedRef) → ref_named name a ≡ some r → is_others_ref office r ≡ true → ref_named name b ≡ some r
  same_ref_lem a b s h r e o =
      first_kept names_ordered name_of names_told_lem (is_others_ref office) name r b h
      (ap (ref_named name) (sym s) ∙ first_keep names_ordered name_of names_told_lem (is_others_ref office) name r a e o)

  -- one that is not the other office's has this one for its owner
  own : (r : NamedRef) → is_others_ref office r ≡ false → r.owner ≡ office
  own r h = eqb-true r.owner office (not-false (eqb r.owner office) h)

  -- where the other office's refs are the same, so is the owner of what is held
  pub owner_stays : (a b : List NamedRef) → others_refs office b ≡ others_refs office a → ascending ref_below a ≡ true → ascending ref_below b ≡ true → (r : NamedRef) → ref_named name b ≡ some r → r.owner ≡ owner_after office name a
  owner_stays a b s h k r e =
      cases (is_others_ref office r)
      (λ o. rw (same_ref_lem b a s h r e o, owner_after))
      (λ o. own r o ∙ sym (go (ref_named name a) refl o))
    where
      go : (x : Option NamedRef) → ref_named name a ≡ x → is_others_ref office r ≡ false → ◌≡◌ {A = ℕ} (elim x [ none ↦ office | some n ↦ n.owner ]) office
      go none q o = refl
      go (some n) q o =
          cases (is_others_ref office n)
          (λ p. let i : ref_named name b ≡ some n = same_ref_lem a b (sym s) k n q p in
          let j : n ≡ r = cc in
          absurd (true≢false (sym p ∙ (rw j o))))
          (λ p. own n p)

-- a name that is held before and after has the owner that it had, and a new name the run's office
pub office_owners : (terms : Terms) (m : Metadata) (us : List Update) (m' : Metadata) (log : List Update) (expired : List FileEntry) → run terms m us ≡ Accepted m' log expired
    → (name : List ℕ) (r : NamedRef) → ref_named name m'.refs ≡ some r → r.owner ≡ owner_after terms.office name m.refs
office_owners terms m us m' log expired e name =
    owner_stays terms.office name m.refs m'.refs (office_refs_stay terms m us m' log expired e)
    (refs_ascending m (accepted_start (run_accepted terms m' log expired m us e)))
    (refs_ascending m' (formed_sound m' (accepted_formed terms m us m' log expired e)))
