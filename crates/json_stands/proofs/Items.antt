-- The elements of an open list: the value that is wanted next.
use Prim.Native.Nat.{ℕ}
use mathlib.Core.Path.{◌≡◌, refl, sym, ap, ◌∙◌}
use mathlib.Core.Bool.{true≢false}
use mathlib.Core.List.{List, ◌∷◌}
use native.Mathlib.Omega.{arith}
use Rattle.json_judge.specs.Frames.{Frame, ListBracket, ObjectBracket, NoBracket, bracket_of, each, anything as anyValue, Wanted}
use Rattle.json_judge.specs.Course.{is_outside as isNothing}
use Rattle.json_members.specs.Spots.{row_at, item_at}
use Rattle.json_stands.proofs.Laid.{Held}
use Rattle.json_stands.proofs.Bits.{is_object_bracket}
use Rattle.json_stands.proofs.Open.{Open, nothing, updates, update, ids, part, fields, field, Ids, snapshot_ids, schema_ids, spec_ids, Fields, schema_fields, order_fields, spec_fields}
use Rattle.json_stands.proofs.Stands.{wanted_at, parent_of, Waits, within}

pub object_no_list : ObjectBracket ≡ ListBracket → ⊥
object_no_list e = true≢false (ap is_object_bracket e)

pub outside_no_list : NoBracket ≡ ListBracket → ⊥
outside_no_list e = true≢false (ap isNothing e)

pub wanted_any : wanted_at 0 ≡ anyValue
unfolding row_at
wanted_any = refl

-- an element of the innermost list
pub record Item (w : ℕ) (f : Frame) : Type 0 where
  pub waits : Waits (item_at w) w
  pub wanted : wanted_at (item_at w) ≡ each f

pub item : {h : Held} {w : ℕ} {f : Frame} {fs : List Frame} → Open h w (f ∷ fs) → bracket_of f ≡ ListBracket → Item w f
unfolding row_at item_at parent_of
item nothing b = absurd (outside_no_list b)
item updates b = record { waits = within {v = 2} (omega arith) refl refl; wanted = refl }
item (update u) b = absurd (object_no_list b)
item (ids snapshot_ids u) b = record { waits = within {v = 24} (omega arith) refl refl; wanted = refl }
item (ids schema_ids u) b = record { waits = within {v = 25} (omega arith) refl refl; wanted = refl }
item (ids spec_ids u) b = record { waits = within {v = 26} (omega arith) refl refl; wanted = refl }
item (part p m u) b = absurd (object_no_list b)
item (fields schema_fields m u) b = record { waits = within {v = 39} (omega arith) refl refl; wanted = refl }
item (fields order_fields m u) b = record { waits = within {v = 46} (omega arith) refl refl; wanted = refl }
item (fields spec_fields m u) b = record { waits = within {v = 53} (omega arith) refl refl; wanted = refl }
item (field f n m u) b = absurd (object_no_list b)
