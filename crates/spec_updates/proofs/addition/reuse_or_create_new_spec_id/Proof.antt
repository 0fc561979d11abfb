-- The search gives the first with equal fields, whose id is among the keys; where there is none the new id is the highest one's successor.
use Prim.Native.Nat.{ℕ}
use mathlib.Core.Path.{ap}
use borrow.Author.Rules.{rules}
use lib.IntN.{pos}
use lib.ListN.{get_or, take}
use mir.Syntax.{w32}
use mir.Val.{SFits}
use Rattle.rules.specs.Words.{same_list}
use Rattle.rules.specs.Register as plain
use Rattle.rules.specs.Partitions.{same_partition}
use Rattle.rules.specs.Layout.{given, read_partition_spec, read_partition_specs}
use Rattle.tables.proofs.Keyed.{lent, lent_within, lent_slice, take_fits}
use Rattle.tables.proofs.Each.{tidy_partition_specs}
use Rattle.builder.proofs.NewIds.{given_fits, numbered, reused_at}
use Rattle.spec_updates.proofs.addition.reuse_or_create_new_spec_id.Statement.{statement}
use Rattle.spec_updates.proofs.addition.reuse_or_create_new_spec_id.Tie as tie

fits : (c : tie.After-ids_of-ids) → (k : ℕ) → SFits w32 (get_or (take c.args.t.count c.ids_of-ids.result) k (pos 0))
fits c = take_fits w32 c.args.t.count c.ids_of-ids.result c.ids_of-ids.ensures.1

returns : tie.Need-returns
returns c =
    let x = c.before.before in
    let k = x.before.before in
    let i = k.before.before in
    let e = lent (tidy_partition_specs i.requires.0) (λ y. y.id) i.ids_of-ids.ensures.0 in
    numbered w32 (fits i) x.reuse_or_create_new_id-x.ensures e (ap (given i.args.has_last) k.spec_key-k.ensures.0) c.spec_id-id.ensures
    (reused_at (λ (y : plain.PartitionSpec). same_list same_partition y.fields (read_partition_spec i.args.p).fields) (λ y. y.id) (read_partition_specs i.args.t) k.find_equal-i.ensures e)

pub reuse_or_create_new_spec_id_spec : {M : Type 1} → statement M
reuse_or_create_new_spec_id_spec =
    tie.close
    (tie.spec
    (λ c κs. search rules)
    (λ c κs. search rules)
    (λ c κs. search rules)
    (λ c. lent_within (tidy_partition_specs c.requires.0) (λ y. y.id) c.ids_of-ids.ensures.0)
    (λ c. lent_slice (tidy_partition_specs c.requires.0) (λ y. y.id) c.ids_of-ids.ensures.0)
    (λ c κs. search rules)
    (λ c κs. given_fits w32 (fits c.before.before.before.before.before) c.reuse_or_create_new_id-x.ensures)
    returns)
