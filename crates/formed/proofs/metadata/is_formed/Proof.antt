-- Each part is asked by itself, and where all passed, what they say of each other: the keys that were found are those of the tables.
use mathlib.Core.Path.{◌≡◌, sym, ap, ◌∙◌}
use mathlib.Core.Bool.{Bool, true, ◌&&◌}
use mathlib.Core.List.{List, [], ◌∷◌}
use borrow.Author.Rules.{rules}
use Rattle.records.specs.declared.metadata.TableMetadata.{TableMetadata}
use Rattle.rules.specs.Words.{all, any}
use Rattle.rules.specs.Register as plain
use Rattle.rules.specs.WellFormed.{points_in, has_schema, has_order, has_spec, snapshots_formed, schemas_formed, orders_formed, specs_formed, statistics_formed}
use Rattle.rules.specs.Layout.{read_snapshots, read_refs, read_schemas, read_sort_orders, read_partition_specs}
use Rattle.rules.proofs.Checks.{and_all, Hold, parts}
use Rattle.formed.proofs.Gathered.{found_in}
use Rattle.formed.proofs.Whole.{each_formed, whole_formed, whole_not_formed, refs_laid}
use Rattle.formed.proofs.metadata.is_formed.Statement.{statement}
use Rattle.formed.proofs.metadata.is_formed.Tie as tie

module _ (c : tie.After-fields_formed) where
  -- where the last keys were found
  abbrev keyed : tie.After-spec_keys-spec_ids
  keyed = c.before.before.before.before.before.before.before.before.before.before

  abbrev m : TableMetadata
  m = keyed.args.m

  -- what the code found of each part after the snapshots
  abbrev after : List Bool
  after =
      c.refs_formed.result
      ∷ c.snapshot_log_formed.result
      ∷ c.metadata_log_formed.result
      ∷ keyed.schema_keys-schema_ids.result.formed
      ∷ keyed.order_keys-order_ids.result.formed
      ∷ keyed.statistics_keys-statistics_ids.result.formed
      ∷ keyed.statistics_keys-partition_ids.result.formed
      ∷ keyed.spec_keys-spec_ids.result.formed
      ∷ c.fields_formed.result
      ∷ []

  abbrev snapshots : Bool
  snapshots = keyed.snapshot_keys-snapshot_ids.result.formed

  found : and_all snapshots after ≡ each_formed m
  unfolding snapshots_formed schemas_formed orders_formed specs_formed statistics_formed
  found = λ i.
      keyed.snapshot_keys-snapshot_ids.ensures.order i
      && c.refs_formed.ensures i
      && c.snapshot_log_formed.ensures i
      && c.metadata_log_formed.ensures i
      && keyed.schema_keys-schema_ids.ensures.order i
      && keyed.order_keys-order_ids.ensures.order i
      && keyed.statistics_keys-statistics_ids.ensures.order i
      && keyed.statistics_keys-partition_ids.ensures.order i
      && keyed.spec_keys-spec_ids.ensures.order i
      && c.fields_formed.ensures i

passed : (c : tie.Then-ok) → each_formed (m c.before) ≡ true
passed c = sym (found c.before) ∙ c.if-ok.true

each : (c : tie.Then-ok) → Hold (snapshots c.before ∷ after c.before)
each c = parts (snapshots c.before) (after c.before) c.if-ok.true

returns : tie.Need-returns-then-ok
returns c =
    let t = c.before.before.before.before.before.before.before.before.before.before.before in
    let k = keyed t.before in
    let h = each t in
    let n = m t.before in
    let f = n.fields in
    let refs : c.refs_held.result ≡ all (points_in (read_snapshots n.snapshots)) (read_refs n.refs) =
    c.refs_held.ensures ∙ ap (λ (q : plain.NamedRef → Bool). all q (read_refs n.refs)) (λ i x. found_in k.snapshot_keys-snapshot_ids.ensures h.0 x.reference.snapshot i) in
    let schema : c.holds.result ≡ any (has_schema f.current_schema_id.0) (read_schemas n.schemas) =
    c.holds.ensures ∙ rw c.schema_key.ensures.0 (found_in k.schema_keys-schema_ids.ensures h.1.1.1.1.0 f.current_schema_id.0) in
    let order : c.holds-then-ok.result ≡ any (has_order f.default_sort_order_id.0) (read_sort_orders n.sort_orders) =
    c.holds-then-ok.ensures ∙ rw c.order_key.ensures (found_in k.order_keys-order_ids.ensures h.1.1.1.1.1.0 f.default_sort_order_id.0) in
    let spec : c.holds-then-ok-2.result ≡ any (has_spec f.default_spec_id.0) (read_partition_specs n.partition_specs) =
    c.holds-then-ok-2.ensures ∙ rw c.spec_key.ensures.0 (found_in k.spec_keys-spec_ids.ensures h.1.1.1.1.1.1.1.1.0 f.default_spec_id.0) in
    (λ i. refs i && c.main_agrees.ensures i && schema i && order i && spec i) ∙ whole_formed n (passed t)

pub is_formed_spec : {M : Type 1} → statement M
is_formed_spec =
    tie.close
    (tie.spec
    (λ c κs. search rules)
    (λ c κs. search rules)
    (λ c κs. search rules)
    (λ c κs. search rules)
    (λ c κs. search rules)
    (λ c κs. search rules)
    (λ c κs. search rules)
    (λ c κs. search rules)
    (λ c κs. search rules)
    (λ c κs. search rules)
    (λ c κs. (refs_laid (m c.before) (passed c), (keyed c.before).snapshot_keys-snapshot_ids.ensures.few))
    (λ c κs. refs_laid (m c.before.before) (passed c.before))
    (λ c κs. search rules)
    (λ c κs. (keyed c.before.before.before.before.before).schema_keys-schema_ids.ensures.few)
    (λ c κs. search rules)
    (λ c κs. (keyed c.before.before.before.before.before.before.before.before).order_keys-order_ids.ensures.few)
    (λ c κs. search rules)
    (λ c κs. (keyed c.before.before.before.before.before.before.before.before.before.before.before).spec_keys-spec_ids.ensures.few)
    returns
    (λ c. whole_not_formed (m c.before) (sym (found c.before) ∙ c.if-ok.false)))
