-- The test of the owners, and then those of the table, as the code groups them.
use Prim.Native.Nat.{ℕ}
use mathlib.Core.Path.{◌≡◌, sym, ap, ◌∙◌}
use mathlib.Core.Bool.{Bool, cond, not, ◌&&◌, not-not}
use borrow.Author.Rules.{rules}
use lib.Dec.{leb}
use lib.ListN.{length}
use Rattle.records.specs.Blanks.{no_ref}
use Rattle.rules.specs.Words.{all}
use Rattle.rules.specs.Capacities.{ref_room}
use Rattle.rules.specs.WellFormed.{owner_formed, ref_formed, ref_below, refs_formed}
use Rattle.rules.specs.Blanks.{is_tidy_refs}
use Rattle.rules.specs.Layout.{read_ref, read_refs}
use Rattle.formed.proofs.Counted.{read_length}
use Rattle.faults.specs.Faults.{ref_faults}
use Rattle.faults.proofs.Picked.{table_asked}
use Rattle.faults.proofs.part.refs_fault.Goals as goal

-- a test in front of others
before : (fails : Bool) (n : ℕ) {passes : Bool} {r later from : ℕ} → passes ≡ not fails → later ≡ from → r ≡ cond (not passes) n later → r ≡ cond fails n from
before fails n p q h = h ∙ rw (p, not-not fails, q)

pub returns : goal.returns
unfolding ref_faults refs_formed
returns c =
    let t = c.args.t in
    before (leb (length (read_refs t)) ref_room && not (all owner_formed (read_refs t))) 37 c.owners_formed.ensures
    (c.table_fault-from_table.ensures
    ∙ table_asked 9 ref_room (is_tidy_refs t) ref_formed (read_refs t) ref_below
    (ap (λ (n : ℕ). leb n ref_room) (sym (read_length read_ref no_ref t.items t.count)))
    c.refs_filled.ensures
    c.refs_formed.ensures)
    c.unless.ensures
