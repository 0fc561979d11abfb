-- The loop keeps a walk on its way, from what is listed to the next id, and whether a removed one is listed yet.
use Prim.Native.Nat.{◌-◌, ◌≤◌, ◌<◌}
use mathlib.Core.Path.{◌≡◌, refl, sym, ap, ◌∙◌}
use mathlib.Core.Bool.{Bool, false, ◌||◌}
use mathlib.Core.List.{List}
use mathlib.Core.Option.{some}
use native.Mathlib.Numerals.{add-one}
use native.Mathlib.Omega.{arith}
use borrow.Author.Rules.{rules, sfits_of}
use lib.IntN.{ℤ, pos}
use lib.ListN.{length, get_or, take, length-set}
use lib.Seq.{length-take-le, take-suc-set}
use mir.Syntax.{w64}
use mir.Val.{SFits, to_z, of_z}
use mir.Facts.{to_z-of_z}
use Rattle.rules.specs.Words.{eq_z, any, is_in}
use Rattle.rules.specs.Layout.{read_snapshot_ids}
use Rattle.rules.specs.Walk.{parent_of}
use Rattle.search.specs.Places.{index_of}
use Rattle.search.proofs.Places.{index_le}
use Rattle.search.proofs.Parents.{parent_none}
use Rattle.offices.specs.Reach.{reach_of}
use Rattle.offices.proofs.Reaching.{to_parent, Going, going_at, begins, ends, meets, room, goes_on_lem}
use Rattle.offices.proofs.reach.reach_meets.Statement.{statement}
use Rattle.offices.proofs.reach.reach_meets.Tie as tie

abbrev invariant_loop : tie.invariant-loop-place
invariant_loop ids parents start removed path₀ n₀ met₀ id₀ place₀ path n met id place =
    (length path ≡ 64)
    × (n ≤ 64)
    × (place ≡ index_of (λ x. eq_z x (to_z w64 id)) ids)
    × Going ids parents (read_snapshot_ids removed) (to_z w64 start) (take n path) (to_z w64 id) met

abbrev decreases_loop : tie.decreases-loop-place
decreases_loop ids parents start removed path₀ n₀ met₀ id₀ place₀ path n met id place = length ids - n

-- at the head of the loop
module _ (c : tie.At-loop-place invariant_loop decreases_loop) where
  abbrev s : tie.Start invariant_loop decreases_loop
  s = c.before.before

  abbrev ids : List ℤ
  ids = s.args.ids.now

  abbrev parents : List ℤ
  parents = s.args.parents.now

  abbrev listed : List ℤ
  listed = take c.loop-place.n c.loop-place.path

  abbrev id : ℤ
  id = to_z w64 c.loop-place.id-bits

  abbrev going : Going ids parents (read_snapshot_ids s.args.removed) (to_z w64 (of_z w64 s.args.start)) listed id c.loop-place.met
  going = c.loop-place.invariant.3

  few : length ids ≤ 64
  few = s.requires.1.0

  long : length listed ≡ c.loop-place.n
  long = length-take-le c.loop-place.n c.loop-place.path (omega arith)

  -- what is reached from the number itself
  meant : {t : Bool} → t ≡ any (is_in (read_snapshot_ids s.args.removed)) (reach_of ids parents (to_z w64 (of_z w64 s.args.start))) → t ≡ any (is_in (read_snapshot_ids s.args.removed)) (reach_of ids parents s.args.start)
  meant e = rw (to_z-of_z s.ranges.start) at e

-- where the id is held
module _ (c : tie.In-loop-place invariant_loop decreases_loop) where
  abbrev next : ℤ
  next = get_or (parents c.before) c.loop-place.place (pos 0)

  to : parent_of (ids c.before) (parents c.before) (id c.before) ≡ some next
  to = to_parent (ids c.before) (parents c.before) (id c.before) c.loop-place.invariant.2 (s c.before).requires.1.1.0 c.loop-place-test.true

-- and not listed
module _ (c : tie.Else-is_in invariant_loop decreases_loop) where
  abbrev k : tie.In-loop-place invariant_loop decreases_loop
  k = c.before.before.before

  not_listed : is_in (listed k.before) (id k.before) ≡ false
  not_listed = sym c.is_in.ensures ∙ c.if-is_in.false

  fits : k.loop-place.n < length (ids k.before)
  fits = omega (arith, room (few k.before) (going k.before) (to k) not_listed, long k.before)

pub reach_meets_spec : {M : Type 1} → statement M
reach_meets_spec =
    tie.close
    (tie.spec
    invariant_loop
    decreases_loop
    (λ c κs. c.requires.0)
    (λ c. (refl, search rules, c.position_ascending-place.ensures, begins _ _ _ _))
    (λ c. search rules)
    (λ c. sym (long c.before.before))
    (λ c κs. search rules)
    (λ c. let i = c.before.before.before in
    let l = i.before in
    meant l (meets (few l) (going l) (to i) (sym c.is_in.ensures ∙ c.if-is_in.true)))
    (λ c κs. (s (k c).before).requires.1.1.1)
    (λ c. omega (arith, fits c.before, few (k c.before).before))
    (λ c. omega (arith, fits c.before, few (k c.before).before))
    (λ c. omega (arith, fits c.before, few (k c.before).before))
    (λ c. omega (arith, few (k c.before).before))
    (λ c. let i = k c.before in omega (arith, i.loop-place-test.true, (s i.before).requires.1.1.0))
    (λ c κs. (s (k c.before.before).before).requires.0)
    (λ c. omega (arith, fits c.before.before.before))
    (λ c. let h = c.before.before in
    let e = h.before in
    let i = k e in
    let l = i.before in
    let f : SFits w64 (next i) = sfits_of c.id-1.given in
    let t = take-suc-set l.loop-place.path l.loop-place.n (id l) (omega (arith, fits e, few l, l.loop-place.invariant.0)) in (
      length-set l.loop-place.path l.loop-place.n (id l) ∙ l.loop-place.invariant.0,
      omega (arith, fits e, few l),
      c.position_ascending-place-in-loop-place.ensures,
      going_at (rw add-one t) (to_z-of_z f) (ap (λ (b : Bool). l.loop-place.met || b) h.has_snapshot-met.ensures) (goes_on_lem (few l) (going l) (to i) (not_listed e)),
    ))
    (λ c. let l = c.before in
    meant l (ends (few l) (going l) (parent_none (id l) (ids l) (parents l) (omega (arith, l.loop-place.invariant.2, index_le (λ x. eq_z x (id l)) (ids l), c.loop-place-test.false))))))
