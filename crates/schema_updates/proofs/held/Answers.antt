-- A key that is named is one id more, and there is room for it: no more keys count than a removal has room for ids.
use Rattle.std.proofs.Common.{ℕ, ◌≡◌, ◌+◌, ◌≤◌, ◌<◌, Bool, true, false, List, [], ◌∷◌, ◌++◌, sym, ap, ◌∙◌, length, get_or, take, add-one, arith, rules, length-take, pos}
use Rattle.std.proofs.Math.IntN.{ℤ}
use Rattle.std.proofs.Math.Seq.{take-suc, length-take-le}
use mathlib.Core.List.{append-nil}
use Rattle.rules.specs.Words.{is_in, keep}
use Rattle.rules.specs.Layout.{read_schema_ids, laid_schema_ids}
use Rattle.rules.proofs.Tables.{keep_length}
use Rattle.rules.proofs.Replay.Lists.{keep_append}
use Rattle.tables.proofs.Each.{none_schema_ids, read_schema_ids_lem, room_schema_ids}
use Rattle.schema_updates.proofs.held.Goals as goal
use Rattle.schema_updates.proofs.held.Goals.{then-has_schema, else-has_schema}

module _ (p : ℤ → Bool) (ids : List ℤ) {i : ℕ} (h : i < length ids) where
  one_more : keep p (take (i + 1) ids) ≡ keep p (take i ids) ++ keep p (get_or ids i (pos 0) ∷ [])
  one_more =
      let t : take (i + 1) ids ≡ take i ids ++ (get_or ids i (pos 0) ∷ []) = rw add-one (take-suc ids i (pos 0) h) in
      ap (keep p) t ∙ keep_append p (take i ids) (get_or ids i (pos 0) ∷ [])

  named : p (get_or ids i (pos 0)) ≡ true → keep p (take (i + 1) ids) ≡ keep p (take i ids) ++ (get_or ids i (pos 0) ∷ [])
  named e = one_more ∙ rw e

  not_named : p (get_or ids i (pos 0)) ≡ false → keep p (take (i + 1) ids) ≡ keep p (take i ids)
  not_named e = one_more ∙ rw (e, append-nil)

  few : length (keep p (take i ids)) ≤ i
  few = omega (arith, keep_length p (take i ids), length-take-le i ids (omega arith))

pub loop-key-init : goal.loop-key-init
loop-key-init c = c.blank-held.ensures ∙ none_schema_ids

pub push_schema-held-requires-clause-laid_schema_ids : goal.push_schema-held-requires-clause-laid_schema_ids
push_schema-held-requires-clause-laid_schema_ids c =
    let ids = take c.args.keys.count c.args.keys.items in
    (room_schema_ids _ c.loop-key.invariant (omega (arith, few (is_in (read_schema_ids c.args.named)) ids c.loop-key-test.true, length-take {A = ℤ}))).0

pub push_schema-held-requires-clause-count_bound : goal.push_schema-held-requires-clause-count_bound
push_schema-held-requires-clause-count_bound c =
    let ids = take c.args.keys.count c.args.keys.items in
    (room_schema_ids _ c.loop-key.invariant (omega (arith, few (is_in (read_schema_ids c.args.named)) ids c.loop-key-test.true, length-take {A = ℤ}))).1

pub loop-key-preserved : goal.loop-key-preserved
loop-key-preserved c =
    let p = is_in (read_schema_ids c.args.named) in
    let ids = take c.args.keys.count c.args.keys.items in
    let i = c.loop-key.key-index in
    let h = c.loop-key-test.true in
    let id : c.schema_id-id.result.0 ≡ get_or ids i (pos 0) = search rules in
    let asked = c.has_schema.ensures ∙ ap p id in
    elim c.if-has_schema.branch [
      | then-has_schema w ↦
          w.held-is ∙ w.push_schema-held.ensures ∙ ap laid_schema_ids (rw (read_schema_ids_lem _ c.loop-key.invariant, id) (sym (named p ids h (sym asked ∙ w.if-has_schema.true))))
      | else-has_schema w ↦ w.held-is ∙ c.loop-key.invariant ∙ ap laid_schema_ids (sym (not_named p ids h (sym asked ∙ w.if-has_schema.false)))
    ]
