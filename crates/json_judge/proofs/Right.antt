-- Where nothing is wrong with a value, it is a list or an object where one is to be, and nothing is wrong with its parts.
use Prim.Native.Nat.{ℕ, ◌≤◌}
use native.Mathlib.Omega.{arith}
use mathlib.Core.Path.{◌≡◌, refl}
use mathlib.Core.Bool.{Bool, true, false}
use mathlib.Core.List.{List, [], ◌∷◌, ◌++◌}
use lib.Dec.{leb}
use borrow.Author.Tests.{leb-true}
use Rattle.json_rule.specs.Tree.{Defect, over_capacity, Json, Scalar, Array, Object, Items, Members}
use Rattle.json_rule.specs.Shapes.{Kind, Shape, ListUpTo, ARecord, rows_of}
use Rattle.json_rule.specs.Defects.{unless, foreign_defects, missing_defects, count_of, schema_place, defects, item_defects, member_defects}

pub both_empty : {A : Type 0} (a b : List A) → a ++ b ≡ [] → (a ≡ []) × (b ≡ [])
both_empty [] b e = (refl, e)
both_empty (x ∷ a) b e = (cc, cc)

passed : (test : Bool) (place number : ℕ) → unless test place number ≡ [] → test ≡ true
passed true place number e = refl
passed false place number e = cc

filled : {d : Defect} {ds : List Defect} → d ∷ ds ≡ [] → ⊥
filled e = let z : ◌≡◌ {A = ℕ} 0 1 = cc in omega arith

pub record RightList (schema room : ℕ) (each : Shape) (x : Json) : Type 0 where
  pub place : ℕ
  pub items : Items
  pub closed : Bool
  pub is : x ≡ Array place items closed
  pub fits : count_of items ≤ room
  pub right : item_defects schema each items ≡ []

pub right_list : (schema room : ℕ) (of_schema : Bool) (each : Shape) (x : Json) → defects schema of_schema (ListUpTo room each) x ≡ [] → RightList schema room each x
unfolding defects
right_list schema room of_schema each (Scalar t) e = absurd (filled e)
right_list schema room of_schema each (Array place xs closed) e =
    let p = both_empty (unless (leb (count_of xs) room) place over_capacity) (item_defects schema each xs) e in
    record { place = place; items = xs; closed = closed; is = refl; fits = leb-true (count_of xs) room (passed (leb (count_of xs) room) place over_capacity p.0); right = p.1 }
right_list schema room of_schema each (Object place ms closed) e = absurd (filled e)

pub record RightObject (schema : ℕ) (kind : Kind) (x : Json) : Type 0 where
  pub place : ℕ
  pub members : Members
  pub closed : Bool
  pub is : x ≡ Object place members closed
  pub right : member_defects (schema_place kind place schema) (rows_of kind) [] members ≡ []
  pub known : foreign_defects kind members ≡ []
  pub whole : missing_defects kind place members closed ≡ []

pub right_object : (schema : ℕ) (of_schema : Bool) (kind : Kind) (x : Json) → defects schema of_schema (ARecord kind) x ≡ [] → RightObject schema kind x
unfolding defects
right_object schema of_schema kind (Scalar t) e = absurd (filled e)
right_object schema of_schema kind (Array place xs closed) e = absurd (filled e)
right_object schema of_schema kind (Object place ms closed) e =
    let members : List Defect = member_defects (schema_place kind place schema) (rows_of kind) [] ms in
    let p = both_empty (members ++ foreign_defects kind ms) (missing_defects kind place ms closed) e in
    let q = both_empty members (foreign_defects kind ms) p.0 in
    record { place = place; members = ms; closed = closed; is = refl; right = q.0; known = q.1; whole = p.1 }
