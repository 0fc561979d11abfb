-- Links gathered of snapshots hold the snapshots' ids and parents, so the walk over them is the walk over the snapshots.
use Prim.Native.Nat.{ℕ, ◌+◌, ◌<◌, ◌≤◌}
use mathlib.Core.Path.{◌≡◌, refl, sym, ap, ◌∙◌}
use mathlib.Core.Bool.{cond}
use mathlib.Core.List.{List, [], ◌∷◌, ◌++◌, map, append-nil, append_assoc}
use mathlib.Core.Option.{Option}
use native.Mathlib.Numerals.{add-one}
use native.Mathlib.Omega.{arith}
use borrow.Author.Tests.{ltb-true, ltb-false, leb-false, lt-leb, eq-eqb}
use borrow.Table.Steps.{cases}
use lib.Dec.{ltb, leb}
use lib.IntN.{ℤ}
use lib.ListN.{length, take, set, length-set, length-map}
use lib.Seq.{take-suc-set}
use Rattle.rules.specs.Register.{Snapshot}
use Rattle.rules.specs.Walk.{Walk, Bad, ancestors, record_ancestors}
use Rattle.catalogue.specs.declared.links.Links.{Links}
use Rattle.catalogue.specs.Links.{parent_number, no_links, link, link_all, gathered, link_ancestors}

-- a number set behind those that are counted stands in front of those to come
placed : (xs : List ℤ) (n : ℕ) (x : ℤ) (ys : List ℤ) → n < length xs → take (n + 1) (set xs n x) ++ ys ≡ take n xs ++ (x ∷ ys)
placed xs n x ys h = rw (add-one, take-suc-set xs n x h) (append_assoc (take n xs) (x ∷ []) ys)

module _ (start : ℤ) (excluded : Option ℤ) where
  -- the walk over links, as it is once these snapshots are linked too
  abbrev then_walked : Links → List Snapshot → Walk
  then_walked l ss =
      cond (leb (l.count + length ss) 64)
      (ancestors (take l.count l.ids ++ map (λ s. s.id) ss) (take l.count l.parents ++ map parent_number ss) start excluded)
      Bad

  linked : (ss : List Snapshot) (l : Links) → length l.ids ≡ 64 → length l.parents ≡ 64 → link_ancestors (link_all l ss) start excluded ≡ then_walked l ss
  linked [] l hi hp =
      let same : l.count + 0 ≡ l.count = omega arith in
      rw (same, append-nil (take l.count l.ids), append-nil (take l.count l.parents)) refl
  linked (s ∷ ss) l hi hp =
      cases (ltb l.count 64)
      (λ room.
      let small : l.count < 64 = ltb-true l.count 64 room in
      let more : l.count + 1 + length ss ≡ l.count + length (s ∷ ss) = omega arith in
      let m : Links = record { ids = set l.ids l.count s.id; parents = set l.parents l.count (parent_number s); count = l.count + 1 } in
      let one : link l s ≡ m = rw room in
      ap (λ (n : Links). link_ancestors (link_all n ss) start excluded) one
      ∙ linked ss m (length-set l.ids l.count s.id ∙ hi) (length-set l.parents l.count (parent_number s) ∙ hp)
      ∙ rw (more, placed l.ids l.count s.id (map (λ s. s.id) ss) (omega arith), placed l.parents l.count (parent_number s) (map parent_number ss) (omega arith)) refl)
      (λ full.
      let large : 64 ≤ l.count = ltb-false l.count 64 full in
      let m : Links = record { ids = l.ids; parents = l.parents; count = 65 } in
      let one : link l s ≡ m = rw full in
      ap (λ (n : Links). link_ancestors (link_all n ss) start excluded) one
      ∙ linked ss m hi hp
      ∙ rw (lt-leb (65 + length ss) 64 (omega arith), lt-leb (l.count + length (s ∷ ss)) 64 (omega arith)) refl)

  -- "over 64 … give 1"
  pub too_many : (ss : List Snapshot) → 64 < length ss → record_ancestors ss start excluded ≡ Bad
  unfolding ancestors
  too_many ss h =
      let ids = length-map ss (λ s. s.id) in
      rw (eq-eqb _ _ (ids ∙ sym (length-map ss parent_number)), lt-leb (length (map (λ s. s.id) ss)) 64 (omega arith))

  pub gathered_walks : (ss : List Snapshot) → link_ancestors (gathered ss) start excluded ≡ record_ancestors ss start excluded
  unfolding gathered no_links
  gathered_walks ss =
      linked ss no_links refl refl
      ∙ cases (leb (0 + length ss) 64) (λ few. rw few) (λ many. rw many (sym (too_many ss (omega (arith, leb-false (0 + length ss) 64 many)))))
