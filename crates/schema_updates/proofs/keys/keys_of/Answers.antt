-- One key more is that of the next schema, and there is room for it.
use Rattle.std.proofs.Common.{◌<◌, ◌++◌, ◌∷◌, [], refl, sym, ap, ◌∙◌, get_or, take, arith, length-take}
use Rattle.std.proofs.Math.Seq.{get_or-take, length-take-le}
use Rattle.records.specs.Blanks.{no_schema_id}
use Rattle.records.specs.declared.schema.Schema.{Schema}
use Rattle.rules.specs.Layout.{read_schema, read_schemas}
use Rattle.tables.proofs.Table.{within, read_length, listed_length, next}
use Rattle.tables.proofs.Each.{schema_fields, tidy_schemas}
use Rattle.schema_updates.specs.declared.keys.SchemaKeys.{SchemaKeys}
use Rattle.schema_updates.specs.Keys.{laid_keys}
use Rattle.schema_updates.proofs.keys.keys_of.Goals as goal

-- what the logic reads past the end of the table
abbrev past : Schema
past = record { schema_id = no_schema_id; items = []; count = 0 }

pub with_key-keys-requires-clause-count_lt_schema_room : goal.with_key-keys-requires-clause-count_lt_schema_room
unfolding laid_keys
with_key-keys-requires-clause-count_lt_schema_room c =
    let t = tidy_schemas c.requires in
    let i = c.loop-schema.schema-index in
    let b : i < c.args.t.count = omega (arith, length-take {A = Schema}) in
    omega (arith, within t, read_length t, length-take-le i (read_schemas c.args.t) (omega (arith, read_length t)), ap (λ (k : SchemaKeys). k.count) c.loop-schema.invariant.laid)

pub loop-schema-preserved : goal.loop-schema-preserved
loop-schema-preserved c =
    let t = c.args.t in
    let i = c.loop-schema.schema-index in
    let b : i < t.count = omega (arith, length-take {A = Schema}) in
    let s = get_or (take t.count t.items) i past in
    record {
      fit = c.with_key-keys.ensures.keys_fit_2;
      laid =
          c.with_key-keys.ensures.value (take i (read_schemas t)) (read_schema s) c.loop-schema.invariant.laid refl (listed_length schema_fields s)
          ∙ ap (λ (x : Schema). laid_keys (take i (read_schemas t) ++ (read_schema x ∷ []))) (get_or-take t.count t.items i past b)
          ∙ ap laid_keys (sym (next (tidy_schemas c.requires) i past b));
    }
