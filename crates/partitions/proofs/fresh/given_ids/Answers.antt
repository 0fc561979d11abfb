use Rattle.std.proofs.Common.{◌≡◌, ◌<◌, ◌∙◌, ◌++◌, ◌+◌, [], ◌∷◌, List, ℤ, sym, ap, take, drop, arith}
use mathlib.Core.List.{append_assoc}
use lib.ListN.{set}
use mir.Facts.{to_z-of_z}
use Rattle.std.specs.Int.{w32, w64}
use Rattle.rules.specs.Capacities.{partition_field_room}
use Rattle.tables.proofs.Keyed.{wide_fits, set_fits}
use Rattle.partitions.specs.Gathered.{laid_ids}
use Rattle.partitions.proofs.Gathered.{own_ids, held, pushed, with_id, without_id}
use Rattle.partitions.proofs.fresh.given_ids.Goals.{then-field, else-field}
use Rattle.partitions.proofs.fresh.given_ids.Goals as goal

pub loop-field-preserved : goal.loop-field-preserved
loop-field-preserved c =
    let g = c.loop-field.given in
    let s = c.loop-field.invariant in
    let fields = c.fields_of-field-items.result.now in
    let rest : List ℤ = own_ids (drop (c.loop-field.field-index + 1) fields) in
    let few : g.count < partition_field_room = omega (arith, s.short, c.loop-field-test.true, c.fields_of-field-items.ensures.few) in
    elim c.if-field.branch [
      | then-field w ↦
          let k = w.field_key in
          let stored = w.push.ensures.ids ∙ ap (λ (z : ℤ). set g.ids g.count z) (to_z-of_z {w = w64} (wide_fits k.ensures.sfits)) in
          let q = pushed (take g.count g.ids) k.result.0 few stored w.push.ensures.count s.laid in
          let h = held q in
          rw w.given-is (record {
            laid = q ∙ ap laid_ids (sym h);
            value = s.value ∙ ap (λ (l : List ℤ). take g.count g.ids ++ l) (with_id fields c.loop-field.field-index _ c.loop-field-test.true w.if-field.true ∙ ap (λ (z : ℤ). z ∷ rest) (sym k.ensures.result_value)) ∙ sym (append_assoc (take g.count g.ids) (k.result.0 ∷ []) rest) ∙ ap (λ (l : List ℤ). l ++ rest) (sym h);
            short = omega (arith, s.short, w.push.ensures.count);
            fits = rw stored (set_fits w32 g.ids g.count k.result.0 s.fits k.ensures.sfits);
          })
      | else-field w ↦
          rw w.given-is (record {
            laid = s.laid;
            value = s.value ∙ ap (λ (l : List ℤ). take g.count g.ids ++ l) (without_id fields c.loop-field.field-index _ c.loop-field-test.true w.if-field.false);
            short = omega (arith, s.short);
            fits = s.fits;
          })
    ]
