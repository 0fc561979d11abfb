-- What is found of a ref, by whose it is, whether it goes and of which kind it is.
use Prim.Native.Nat.{ℕ, ◌≤◌}
use mathlib.Core.Path.{◌≡◌, refl, sym, ap, ◌∙◌}
use mathlib.Core.Bool.{Bool, true, false, cond}
use mathlib.Core.List.{List, [], ◌∷◌}
use borrow.Author.Tests.{eq-eqb, ne_eqb}
use lib.IntN.{ℤ}
use lib.ListN.{length, replicate}
use Rattle.rules.specs.Words.{is_in}
use Rattle.rules.specs.Capacities.{snapshot_room}
use Rattle.rules.specs.Register.{Snapshot, NamedRef}
use Rattle.rules.specs.WellFormed.{branch}
use Rattle.rules.specs.Walk.{Walk, Listed, listed_ids, reach, snapshot_ids}
use Rattle.rules.specs.Others.{is_others_ref}
use Rattle.retention.specs.Retention.{Policy, count_of, age_of, goes, retained, is_twice}
use Rattle.retention.specs.Reasons.{nothing, others_need, place_of, why_at, why_by}
use Rattle.expiry.specs.Found.{marked, branch_walk, branch_marks, is_twice_in, kept_of}
use Rattle.expiry.specs.declared.kept.Kept.{Kept}
use Rattle.expiry.specs.declared.walks.Limits.{Limits}
use Rattle.expiry.specs.declared.walks.Marks.{Marks}
use Rattle.expiry.proofs.Slots.{slotted_none}

module _ (p : Policy) (snapshots : List Snapshot) (r : NamedRef) where
  abbrev ids : List ℤ
  ids = snapshot_ids snapshots

  abbrev others : Bool
  others = is_others_ref p.office r

  marks : {f g : ℤ → ℕ} → ((x : ℤ) → f x ≡ g x) → marked f ids ≡ marked g ids
  marks e = ap (λ (h : ℤ → ℕ). marked h ids) (λ i x. e x i)

  module _ {g : Bool} (e : g ≡ goes p snapshots r) where
    found : {t : Bool} {s : List ℕ} → is_twice_in p snapshots r ≡ t → s ≡ marked (why_by p snapshots r) ids → ◌≡◌ {A = Kept} (record { goes = g; twice = t; slots = s }) (kept_of p snapshots r)
    unfolding kept_of
    found b c i = record { goes = e i; twice = sym b i; slots = c i }

    -- one of the other office
    pub of_others : {s : List ℕ} → others ≡ true → s ≡ marked (λ x. cond (is_in (reach snapshots r.reference.snapshot) x) others_need nothing) ids
        → ◌≡◌ {A = Kept} (record { goes = g; twice = false; slots = s }) (kept_of p snapshots r)
    unfolding why_by
    of_others o h = found (rw o) (h ∙ marks why)
      where
        why : (x : ℤ) → cond (is_in (reach snapshots r.reference.snapshot) x) others_need nothing ≡ why_by p snapshots r x
        why x = rw o

    module _ (o : others ≡ false) where
      -- one that goes
      pub of_dropped : length ids ≤ snapshot_room → g ≡ true → ◌≡◌ {A = Kept} (record { goes = g; twice = false; slots = replicate snapshot_room nothing }) (kept_of p snapshots r)
      unfolding why_by
      of_dropped few t = found (rw (o, sym e ∙ t)) (slotted_none nothing ids few ∙ marks why)
        where
          why : (x : ℤ) → nothing ≡ why_by p snapshots r x
          why x = rw (o, sym e ∙ t)

      -- one that remains, by what it retains
      of_remaining : {w : Walk} {t : Bool} {s : List ℕ} → g ≡ false → retained p snapshots r.reference ≡ w → t ≡ is_twice w → s ≡ marked (λ x. why_at (count_of p r.reference) (place_of (listed_ids w) x)) ids
          → ◌≡◌ {A = Kept} (record { goes = g; twice = t; slots = s }) (kept_of p snapshots r)
      unfolding why_by
      of_remaining {w} f q a b = found (rw (o, sym e ∙ f, q) (sym a)) (b ∙ marks why)
        where
          why : (x : ℤ) → why_at (count_of p r.reference) (place_of (listed_ids w) x) ≡ why_by p snapshots r x
          why x = rw (o, sym e ∙ f, q)

      -- its limits
      abbrev pub within : Limits
      within = record { clock = record { 0 = p.clock }; count = record { 0 = count_of p r.reference }; age = record { 0 = age_of p r.reference } }

      -- a branch
      pub of_branch : {m : Marks} {l : Limits} → g ≡ false → r.reference.kind ≡ branch → l ≡ within
          → m ≡ branch_marks l snapshots r.reference.snapshot → ◌≡◌ {A = Kept} (record { goes = g; twice = m.twice; slots = m.slots }) (kept_of p snapshots r)
      unfolding retained branch_marks
      of_branch f k q h =
          let n = h ∙ ap (λ (x : Limits). branch_marks x snapshots r.reference.snapshot) q in
          of_remaining {w = branch_walk within snapshots r.reference.snapshot} f (rw (eq-eqb _ _ k)) (ap (λ (x : Marks). x.twice) n) (ap (λ (x : Marks). x.slots) n)

      -- a tag
      pub of_tag : {s : List ℕ} → g ≡ false → (r.reference.kind ≡ branch → ⊥) → s ≡ marked (λ x. why_at (count_of p r.reference) (place_of (r.reference.snapshot ∷ []) x)) ids
          → ◌≡◌ {A = Kept} (record { goes = g; twice = false; slots = s }) (kept_of p snapshots r)
      unfolding retained
      of_tag f k h = of_remaining {w = Listed (r.reference.snapshot ∷ [])} f (rw (ne_eqb _ _ k)) refl h
