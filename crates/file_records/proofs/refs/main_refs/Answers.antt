-- Where there is a current snapshot.
use Rattle.std.proofs.Common.{◌≡◌, ℤ, pos, set, Option, Some, None, sym, ap, ◌∙◌}
use Rattle.std.proofs.Math.Option as math
use Rattle.std.proofs.Math.Option.{none, some}
use Rattle.records.specs.Blanks.{no_refs}
use Rattle.records.specs.declared.counters.SnapshotId.{SnapshotId}
use Rattle.records.specs.declared.reference.NamedRef.{NamedRef}
use Rattle.records.specs.declared.reference.Refs.{Refs}
use Rattle.rules.specs.Layout.{laid_ref, laid_refs}
use Rattle.file_rule.specs.Import.{main_at}
use Rattle.file_records.specs.Current.{laid_current, main_ref}
use Rattle.file_records.proofs.refs.main_refs.Goals as goal

abbrev number_of : Option SnapshotId → ℤ
number_of None = pos 0
number_of (Some id) = id.0

no_main : (o : math.Option ℤ) {t : Refs} → None ≡ laid_current o → t ≡ no_refs → t ≡ laid_refs (main_at o)
unfolding laid_refs no_refs
no_main none e b = b
no_main (some id) e b = cc

one_main : (o : math.Option ℤ) {id : SnapshotId} {t : Refs} {x : NamedRef} → Some id ≡ laid_current o → t ≡ no_refs → x ≡ laid_ref (main_ref id.0) → ◌≡◌ {A = Refs} (record { items = set t.items 0 x; count = 1 }) (laid_refs (main_at o))
unfolding laid_refs no_refs
one_main none e b m = cc
one_main (some i) {id} e b m = let same : id.0 ≡ i = ap number_of e in rw (b, m, same)

pub returns-in-Some : goal.returns-in-Some
returns-in-Some c = one_main _ (sym c.in-Some.is ∙ c.current.ensures) c.blank-refs.ensures c.main_ref.ensures

pub returns-in_default : goal.returns-in_default
returns-in_default c = no_main _ (sym c.in_default.is ∙ c.current.ensures) c.blank-refs.ensures
