-- The metadata, and then the file's name; as many bytes are read of it as its length says.
use Prim.Native.Nat.{ℕ}
use mathlib.Core.Path.{◌≡◌, refl, sym, ap, ◌∙◌}
use mathlib.Core.Bool.{Bool, true, false, cond, not, ◌||◌}
use borrow.Author.Rules.{rules}
use lib.Dec.{leb}
use Rattle.records.specs.declared.text.Text.{Text}
use Rattle.rules.specs.Words.{if_some}
use Rattle.rules.specs.Capacities.{file_name_room}
use Rattle.rules.specs.WellFormed.{file_name_formed}
use Rattle.rules.specs.Layout.{given, read_text}
use Rattle.rules.proofs.Slots.Relaid.{length_counted}
use Rattle.faults.specs.Faults.{metadata_faults, metadata_fault, file_faults, start_fault}
use Rattle.faults.proofs.Picked.{join}
use Rattle.faults.proofs.Parts.{all_numbered}
use Rattle.faults.proofs.start_fault.Statement.{statement}
use Rattle.faults.proofs.start_fault.Tie as tie

name_fits : (has : Bool) (file : Text) → (not has || leb file.len file_name_room) ≡ if_some file_name_formed (given has (read_text file))
name_fits true file = ap (λ (n : ℕ). leb n file_name_room) (sym (length_counted 0 file.bytes file.len))
name_fits false file = refl

pub start_fault_spec : {M : Type 1} → statement M
unfolding metadata_fault file_faults start_fault
start_fault_spec =
    tie.close
    (tie.spec
    (λ c κs. search rules)
    (λ c κs. search rules)
    (λ c κs. search rules)
    (λ c. let a = c.args in
    join (metadata_faults a.m) (file_faults a.terms) (all_numbered a.m) c.metadata_fault.ensures
    (c.unless-from_file.ensures ∙ ap (λ (b : Bool). cond (not b) 36 0) (name_fits a.terms.has_file a.terms.file))
    c.or_later.ensures))
