-- Numbers that 32 bits with a sign can be are the source and the number of buckets; the id, the transform and the name are as they stand.
use native.Mathlib.Omega.{arith}
use mathlib.Core.Path.{sym, ap, ◌∙◌}
use borrow.Author.Rules.{rules}
use lib.IntN.{pos}
use lib.ListN.{get_or}
use mir.Syntax.{w32}
use mir.Facts.{to_z_pos}
use Rattle.rules.specs.Layout.{laid_partition_field}
use Rattle.rules.proofs.Slots.Relaid.{flag_given}
use Rattle.offers.proofs.Partitions.{source_small, buckets_small, name_tidy}
use Rattle.offers.proofs.partition.partition_of.Statement.{statement}
use Rattle.offers.proofs.partition.partition_of.Tie as tie

pub partition_of_spec : {M : Type 1} → statement M
unfolding laid_partition_field
partition_of_spec =
    tie.close
    (tie.spec
    (λ c κs. search rules)
    (λ c. record { sfits = omega (arith, c.number_at-source.ensures, source_small c.args.bytes.now c.requires.1) })
    (λ c κs. search rules)
    (λ c. record { sfits = omega (arith, c.number_at-n.ensures, buckets_small c.args.bytes.now c.requires.1) })
    (λ c κs. search rules)
    (λ c κs. (search rules, name_tidy c.args.bytes.now c.requires.1))
    (λ c. search rules)
    (λ c. let f = c.before.before in let b = f.before in let n = b.before in let bs = n.args.bytes.now in let id = n.args.id in
    let x = to_z_pos w32 (omega (arith, n.number_at-source.ensures, source_small bs n.requires.1)) ∙ ap pos n.number_at-source.ensures in
    let y = to_z_pos w32 (omega (arith, b.number_at-n.ensures, buckets_small bs n.requires.1)) ∙ ap pos b.number_at-n.ensures in
    let h = sym (flag_given id.given id.id.0) in
    λ i. record {
      source_id = record { 0 = x i };
      field_id = record { 0 = f.number_of-field_id.ensures i };
      buckets = record { 0 = y i };
      transform = get_or bs 4 0;
      has_id = h i;
      name = c.name_at-name.ensures i;
    }))
