-- A set ref, by its parts: its number is that of the rule's checks, and what those leave.
use Prim.Native.Nat.{ℕ, ◌<◌}
use mathlib.Core.Path.{◌≡◌, refl, ◌∙◌}
use mathlib.Core.Bool.{Bool, true, false, cond, not, ◌&&◌}
use mathlib.Core.List.{List, [], ◌∷◌}
use borrow.Author.Tests.{leb-false, not-false}
use borrow.Table.Steps.{cases}
use lib.Dec.{leb}
use lib.IntN.{ℤ}
use lib.ListN.{length}
use Rattle.rules.specs.Words.{is_some, first_of, any, Check}
use Rattle.rules.specs.Names.{is_main}
use Rattle.rules.specs.Replies.{snapshot_not_held, table_full}
use Rattle.rules.specs.Capacities.{ref_room, snapshot_log_room}
use Rattle.rules.specs.Register.{Terms, State, Reference, NamedRef, with_own}
use Rattle.rules.specs.WellFormed.{holds_snapshot}
use Rattle.rules.specs.RefUpdates.{has_name, ref_named, same_reference, is_held_ref, set_ref_checks, own_after, as_main, set_ref}
use Rattle.rules.specs.Layout.{given}
use Rattle.rules.proofs.Checks.{passed}
use Rattle.rules.proofs.Tables.{first_any}
use Rattle.builder.specs.Pieces.{laid_builder}

-- a ref is held as it is to be exactly if its name is held and the two refs are the same
pub same_is : (name : List ℕ) (l : List NamedRef) (held : Bool) (x : NamedRef) (w : Reference) {r : Bool} → ref_named name l ≡ given held x → r ≡ same_reference x.reference w → (held && r) ≡ is_held_ref name w l
same_is name l true x w k e = rw (k, e)
same_is name l false x w k e = rw k

-- 12; 19 of the refs; 19 of the snapshot log
abbrev pub three : Bool → Bool → ℕ → Bool → ℕ → List Check
three held named count main entries = (not held, snapshot_not_held) ∷ (not named && leb ref_room count, table_full) ∷ (main && leb snapshot_log_room entries, table_full) ∷ []

pub number_is : (name : List ℕ) (w : Reference) (st : State) {same held named main : Bool} {count entries : ℕ}
    → same ≡ is_held_ref name w st.metadata.refs → held ≡ holds_snapshot st.metadata.snapshots w.snapshot → named ≡ is_some (ref_named name st.metadata.refs) → count ≡ length st.metadata.refs
    → main ≡ is_main name → entries ≡ length st.metadata.snapshot_log
    → cond same 0 (first_of (three held named count main entries)) ≡ first_of (set_ref_checks name w st)
unfolding set_ref_checks
number_is name w st a b c d e f = rw (a, b, c, d, e, f) (cases (is_held_ref name w st.metadata.refs) (λ t. rw t) (λ g. rw g))

-- where none of the three fails
module _ (held named : Bool) (count : ℕ) (main : Bool) (entries : ℕ) (z : first_of (three held named count main entries) ≡ 0) where
  pub is_held : held ≡ true
  is_held = not-false held (passed (three held named count main entries) refl z).0

  pub has_room : named ≡ false → count < ref_room
  has_room e = leb-false ref_room count (rw e at (passed (three held named count main entries) refl z).1.0)

  pub entry_room : main ≡ true → entries < snapshot_log_room
  entry_room e = leb-false snapshot_log_room entries (rw e at (passed (three held named count main entries) refl z).1.1.0)

pub unnamed : (name : List ℕ) (l : List NamedRef) → any (has_name name) l ≡ false → is_some (ref_named name l) ≡ false
unnamed name l e = first_any (has_name name) l ∙ e

-- the builder of a state after a set ref that takes effect
pub set_builder : (terms : Terms) (name : List ℕ) (w : Reference) (st : State) {main : Bool} {clock id : ℤ} → is_held_ref name w st.metadata.refs ≡ false → main ≡ is_main name → terms.clock ≡ clock → id ≡ w.snapshot
    → laid_builder (cond main (as_main clock id (with_own (own_after w.snapshot st) st)) (with_own (own_after w.snapshot st) st)) ≡ laid_builder (set_ref terms name w st)
unfolding set_ref laid_builder
set_builder terms name w st h m c i = rw (h, m, ← c, i) (cases (is_main name) (λ t. rw t) (λ f. rw f))
