use Rattle.std.proofs.Common.{◌≤◌, ◌∙◌, ◌-◌, sym, length, take, arith}
use Rattle.records.specs.Blanks.{no_ref}
use Rattle.records.specs.declared.reference.Refs.{Refs}
use Rattle.rules.specs.Register as plain
use Rattle.rules.specs.Names.{name_below}
use Rattle.rules.specs.Layout.{read_ref}
use Rattle.rules.proofs.Orders.{names_ordered}
use Rattle.rules.proofs.Tables.{by_key, pairs_read}
use Rattle.tables.specs.Laid.{LaidRefs}
use Rattle.formed.proofs.Counted.{read_taken}
use Rattle.formed.proofs.Ascends.{slots_on, slots_end}
use Rattle.formed.proofs.Laid.{refs_slots, refs_fit, laid_name_lem}
use Rattle.formed.proofs.order.refs_ascend.Goals as goal

within : {t : Refs} → LaidRefs t → t.count ≤ length t.items
within {t} h = omega (arith, refs_slots h, refs_fit h)

pub name_is_below-ok-requires-clause-laid_name : goal.name_is_below-ok-requires-clause-laid_name
name_is_below-ok-requires-clause-laid_name c = laid_name_lem c.requires (c.loop-i.i - 1) _ (omega arith)

pub name_is_below-ok-requires-clause-laid_name_2 : goal.name_is_below-ok-requires-clause-laid_name_2
name_is_below-ok-requires-clause-laid_name_2 c = laid_name_lem c.requires c.loop-i.i _ c.loop-i-test.true

pub loop-i-preserved : goal.loop-i-preserved
loop-i-preserved c =
    let t = c.args.t in
    slots_on t.count t.items c.loop-i.invariant (within c.requires) names_ordered _ c.loop-i-test.true c.name_is_below-ok.ensures

pub returns : goal.returns
returns c =
    let t = c.args.t in
    let h = within c.requires in
    slots_end t.count t.items c.loop-i.invariant h (omega arith)
    ∙ sym (rw (read_taken read_ref no_ref t.items t.count h) (pairs_read read_ref (by_key name_below (λ (x : plain.NamedRef). x.name)) (take t.count t.items)))
