-- Where ids are exhausted that is the number, whatever the spec; otherwise the spec is the completed one, and so are the tests of it.
use Prim.Native.Nat.{ℕ}
use mathlib.Core.Path.{◌≡◌, refl, sym, ap, ◌∙◌}
use mathlib.Core.Bool.{Bool, true, false, cond, not, ◌&&◌, ◌||◌}
use borrow.Author.Rules.{rules}
use lib.Dec.{eqb, leb}
use lib.IntN.{ℤ, pos}
use lib.Signed.{lt_z}
use Rattle.records.specs.declared.counters.FieldId.{FieldId}
use Rattle.records.specs.declared.partition.PartitionSpec.{PartitionSpec}
use Rattle.rules.specs.Words.{larger, any, first_of}
use Rattle.rules.specs.Capacities.{spec_room, largest_field_id}
use Rattle.rules.specs.Register as plain
use Rattle.rules.specs.Partitions.{partition_ids}
use Rattle.rules.specs.SpecUpdates.{fresh_of, completed, is_sequential, first_partition_id, reaches}
use Rattle.rules.specs.Layout.{read_partition_spec, laid_partition_spec}
use Rattle.rules.proofs.Checks.{neither, passed}
use Rattle.rules.proofs.Slots.Reread.{reread_partition_spec}
use Rattle.tables.specs.Laid.{LaidSpec}
use Rattle.spec_updates.specs.Additions.{new_checks, Completed}
use Rattle.spec_updates.proofs.addition.complete.Statement.{statement}
use Rattle.spec_updates.proofs.addition.complete.Tie as tie

unless : (b : Bool) (x : ℕ) {y z : ℕ} → (b ≡ false → y ≡ z) → cond b x y ≡ cond b x z
unless true x h = refl
unless false x h = h refl

module _ (p : PartitionSpec) (last : ℤ) (version : ℕ) (over : Bool) (count : ℕ) (exhausted : Bool) (spec : PartitionSpec)
    (e : exhausted ≡ any (lt_z (pos largest_field_id)) (fresh_of last (read_partition_spec p))) (f : exhausted ≡ false → spec ≡ laid_partition_spec (completed last (read_partition_spec p))) where
  read : exhausted ≡ false → read_partition_spec spec ≡ completed last (read_partition_spec p)
  read x = ap read_partition_spec (f x) ∙ reread_partition_spec (completed last (read_partition_spec p))

  -- 33 of a spec, then 19
  abbrev later : plain.PartitionSpec → ℕ
  later s = cond (eqb version 1 && not (is_sequential first_partition_id (partition_ids s))) 33 (cond (leb spec_room count) 19 0)

  module _ {number : ℕ} (n : number ≡ cond (over || exhausted) 18 (later (read_partition_spec spec))) where
    checked : number ≡ first_of (new_checks last version over count (read_partition_spec p))
    checked =
        n
        ∙ unless (over || exhausted) 18 (λ x. ap later (read (neither over exhausted x).1))
        ∙ ap (λ (x : Bool). cond (over || x) 18 (later (completed last (read_partition_spec p)))) e

    not_over : number ≡ 0 → exhausted ≡ false
    not_over z = e ∙ (neither over _ (passed (new_checks last version over count (read_partition_spec p)) refl (sym checked ∙ z)).0).1

    done : {top : FieldId} → top.0 ≡ larger last (reaches (read_partition_spec spec)) → LaidSpec spec → Completed p last version over count (record { number = number; last_partition_id = top; spec = spec })
    done t h = record { checked = checked; says = λ z. f (not_over z); laid = h; raises = λ z. t ∙ ap (λ (s : plain.PartitionSpec). larger last (reaches s)) (read (not_over z)) }

returns : tie.Need-returns
returns c =
    let z = c.before in
    let y = z.before.before in
    let w = y.before in
    let q = w.before in
    let a = q.args in
    let r = q.number_fields-x in
    let after = y.choose-later.ensures ∙ (λ i. cond (eqb a.version 1 && not (q.is_sequential-out.ensures i)) 33 (w.choose-full.ensures i)) in
    done a.p a.last.0 a.version a.over a.count r.result.exhausted r.result.spec r.ensures.0 r.ensures.1.0
    (z.choose-number.ensures ∙ ap (cond (a.over || r.result.exhausted) 18) after)
    c.last_partition-top.ensures
    r.ensures.1.1

pub complete_spec : {M : Type 1} → statement M
complete_spec =
    tie.close
    (tie.spec
    (λ c κs. search rules)
    (λ c κs. search rules)
    (λ c κs. search rules)
    (λ c κs. search rules)
    (λ c κs. search rules)
    (λ c κs. search rules)
    returns)
