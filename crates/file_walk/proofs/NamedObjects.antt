-- What is said and held of an object, where one under names of its own is wanted.
use Prim.Native.Nat.{ℕ}
use native.Mathlib.Nat.{zero-add}
use mathlib.Core.Path.{◌≡◌, refl, ◌∙◌}
use mathlib.Core.Bool.{Bool, true, false, true≢false}
use mathlib.Core.List.{List, []}
use mathlib.Core.Option.{Option}
use lib.Dec.{eqb, leb}
use Rattle.json_rule.specs.Tree.{Defect, over_capacity, Object, Members, Named, ClosedBy, OpenBy, object_at_lem}
use Rattle.json_rule.specs.Defects.{unless, least}
use Rattle.json_judge.proofs.Least.{least_append}
use Rattle.file_rule.specs.Tables.{FileShape, Single, IdOrNull, Several, ByName, OfKind}
use Rattle.file_rule.specs.FileDefects.{defects, named_defects, members_count}
use Rattle.file_cells.specs.Wants.{shape_of, stands_at_schema, named_in, room_in, record_in, named_at, room_at, record_at}
use Rattle.file_cells.specs.Filled.{filled}
use Rattle.file_walk.specs.Outcomes.{wanted_defects, skipped_of, of_value}
use Rattle.file_walk.specs.Named.{named_said, of_named}
use Rattle.file_walk.proofs.Wanted.{record_shape}
use Rattle.file_walk.proofs.Lists.{closing}

-- no record is wanted there
by_names : (shape : FileShape) → eqb (named_in shape) 0 ≡ false → eqb (record_in shape) 0 ≡ false
by_names (Single shape) e = absurd (true≢false e)
by_names IdOrNull e = absurd (true≢false e)
by_names (Several room each) e = absurd (true≢false e)
by_names (ByName room each) e = refl
by_names (OfKind kind) e = absurd (true≢false e)

module _ (version : ℕ) where
  by_shape : (schema first : ℕ) (ms : Members) (closed : Bool) (shape : FileShape) (b : Bool) → eqb (named_in shape) 0 ≡ false
      → least (defects version schema b shape (Object first ms closed)) ≡ named_said version schema (named_in shape) (room_in shape) first 0 [] ms
  unfolding defects
  by_shape schema first ms closed (Single shape) b e = absurd (true≢false e)
  by_shape schema first ms closed IdOrNull b e = absurd (true≢false e)
  by_shape schema first ms closed (Several room each) b e = absurd (true≢false e)
  by_shape schema first ms closed (OfKind kind) b e = absurd (true≢false e)
  by_shape schema first ms closed (ByName room (OfKind k)) b e =
      least_append (unless (leb (members_count ms) room) first over_capacity) (named_defects version schema (OfKind k) [] ms)
      ∙ rw (record_shape k, zero-add (members_count ms))
  by_shape schema first ms closed (ByName room (Single s)) b e = absurd (true≢false e)
  by_shape schema first ms closed (ByName room IdOrNull) b e = absurd (true≢false e)
  by_shape schema first ms closed (ByName room (Several n s)) b e = absurd (true≢false e)
  by_shape schema first ms closed (ByName room (ByName n s)) b e = absurd (true≢false e)

  object_said_lem : (schema want first : ℕ) (ms : Members) (closed : Bool) → eqb (named_at want) 0 ≡ false
      → least (wanted_defects version schema want (Object first ms closed)) ≡ named_said version schema (named_at want) (room_at want) first 0 [] ms
  unfolding named_at room_at
  object_said_lem schema want first ms closed e = by_shape schema first ms closed (shape_of want) (stands_at_schema want) e

  none_skipped : (want first : ℕ) (ms : Members) (closed : Bool) → eqb (named_at want) 0 ≡ false → skipped_of version want (Object first ms closed) ≡ 0
  unfolding named_at record_at
  none_skipped want first ms closed e = rw (by_names (shape_of want) e)

  -- the whole object
  pub object : (schema want base first : ℕ) (said : Option Defect) (cells : List ℕ) (l : Named) → eqb (named_at want) 0 ≡ false
      → of_value version schema want base said cells (object_at_lem first l)
      ≡ closing version (named_at want) base (of_named version schema (named_at want) (room_at want) base first 0 [] said cells l)
  unfolding filled
  object schema want base first said cells (ClosedBy ms ts) e =
      rw (object_said_lem schema want first ms true e, none_skipped want first ms true e, e)
  object schema want base first said cells (OpenBy ms stop) e =
      rw (object_said_lem schema want first ms false e, none_skipped want first ms false e, e)
