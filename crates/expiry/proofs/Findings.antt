-- What is found of the refs from a place on: which of them go, whether a walk of theirs meets a snapshot twice, and the reasons of the first that has one.
use Prim.Native.Nat.{ℕ, zero, suc, ◌+◌, ◌-◌, ◌≤◌}
use native.Mathlib.Omega.{arith}
use mathlib.Core.Path.{◌≡◌, refl, sym, ap, ap₂, ◌∙◌}
use mathlib.Core.Bool.{Bool, true, false, cond, not, ◌||◌, and-false, or_comm}
use mathlib.Core.List.{List, [], ◌∷◌, ◌++◌, map}
use borrow.Table.Steps.{cases}
use lib.Dec.{eqb}
use lib.IntN.{ℤ}
use lib.ListN.{length, set, replicate, drop, length-map, replicate-append-replicate}
use lib.Seq.{drop-length}
use Rattle.rules.specs.Words.{any, keep, pair_up}
use Rattle.rules.specs.Capacities.{snapshot_room, ref_room}
use Rattle.rules.specs.Register.{NamedRef, Metadata}
use Rattle.rules.specs.Walk.{snapshot_ids}
use Rattle.rules.specs.Others.{is_others_ref}
use Rattle.retention.specs.Retention.{Policy, goes, retained, is_twice}
use Rattle.retention.specs.Reasons as kept
use Rattle.retention.specs.Reasons.{nothing, why_by, reason_from, reason_of}
use Rattle.expiry.specs.Answer.{laid_reason, no_reason, laid_reasons}
use Rattle.expiry.specs.Found.{slotted, marked, is_twice_in, kept_of, log_reason, overlay, found_of}
use Rattle.expiry.specs.declared.kept.Kept.{Kept}
use Rattle.expiry.specs.declared.kept.Found.{Found}
use Rattle.expiry.specs.declared.policy.Reason.{Reason}

-- ---- lists

-- what two tell of each id, taken together
module _ {A B : Type 0} (f : A → B → A) (a : A) (b : B) (z : f a b ≡ a) where
  pair_blanks : (n : ℕ) → pair_up f (replicate n a) (replicate n b) ≡ replicate n a
  pair_blanks zero = refl
  pair_blanks (suc n) = ap₂ (λ (x : A) (l : List A). x ∷ l) z (pair_blanks n)

  pair_told : (g : ℤ → A) (h : ℤ → B) (ids : List ℤ) (n : ℕ) → pair_up f (map g ids ++ replicate n a) (map h ids ++ replicate n b) ≡ map (λ (x : ℤ). f (g x) (h x)) ids ++ replicate n a
  pair_told g h [] n = pair_blanks n
  pair_told g h (x ∷ ids) n = ap (λ (l : List A). f (g x) (h x) ∷ l) (pair_told g h ids n)

  pair_slotted : (g : ℤ → A) (h : ℤ → B) (ids : List ℤ) → pair_up f (slotted a g ids) (slotted b h ids) ≡ slotted a (λ x. f (g x) (h x)) ids
  pair_slotted g h ids =
      rw (length-map ids g, length-map ids h, length-map ids (λ (x : ℤ). f (g x) (h x))) (pair_told g h ids (snapshot_room - length ids))

-- the last of some blanks is stored
set_last : {A : Type 0} (b v : A) (j : ℕ) (l : List A) → set (replicate (suc j) b ++ l) j v ≡ replicate j b ++ (v ∷ l)
set_last b v zero l = refl
set_last b v (suc j) l = ap (λ (r : List _). b ∷ r) (set_last b v j l)

-- a reason of two
laid_cond : (b : Bool) (y z : kept.Reason) → cond b (laid_reason y) (laid_reason z) ≡ laid_reason (cond b y z)
laid_cond true y z = refl
laid_cond false y z = refl

-- ---- the refs from a place on

module _ (p : Policy) (m : Metadata) where
  abbrev ids : List ℤ
  ids = snapshot_ids m.snapshots

  abbrev refs : List NamedRef
  refs = m.refs

  abbrev going : ℕ → List Bool
  going i = replicate i false ++ (map (goes p m.snapshots) (drop i refs) ++ replicate (ref_room - length refs) false)

  abbrev staying : ℕ → List Reason
  staying i = slotted no_reason (λ id. laid_reason (reason_from p m i (drop i refs) id)) ids

  pub record From (g : List Bool) (s : List Reason) (c : Bool) (i : ℕ) : Type 0 where
    pub goes_so : g ≡ going i
    pub stays_so : s ≡ staying i
    pub cycles_so : c ≡ any (is_twice_in p m.snapshots) (drop i refs)

  -- none yet
  pub from_end : {s : List Reason} {n : ℕ} → n ≡ length refs → n ≤ ref_room → s ≡ slotted no_reason (log_reason p.office m.snapshot_log) ids → From (replicate ref_room false) s false n
  from_end {s} {n} e h q =
      let d : drop n refs ≡ [] = rw e (drop-length refs) in
      let k : n + (ref_room - length refs) ≡ ref_room = omega (arith, e) in
      record {
        goes_so =
            sym
            (ap (λ (l : List NamedRef). replicate n false ++ (map (goes p m.snapshots) l ++ replicate (ref_room - length refs) false)) d
            ∙ replicate-append-replicate n (ref_room - length refs) false
            ∙ ap (λ (w : ℕ). replicate w false) k);
        stays_so = q ∙ ap (λ (l : List NamedRef). slotted no_reason (λ id. laid_reason (reason_from p m n l id)) ids) (sym d);
        cycles_so = ap (any (is_twice_in p m.snapshots)) (sym d);
      }

  -- one more
  module _ {i j : ℕ} (r : NamedRef) (e : i ≡ suc j) (d : drop j refs ≡ r ∷ drop i refs) where
    abbrev v : Bool
    v = goes p m.snapshots r

    abbrev after : List Bool
    after = map (goes p m.snapshots) (drop i refs) ++ replicate (ref_room - length refs) false

    told : (x : ℤ) → overlay j (laid_reason (reason_from p m i (drop i refs) x)) (why_by p m.snapshots r x) ≡ laid_reason (reason_from p m j (r ∷ drop i refs) x)
    told x = ap (λ (k : ℕ). overlay j (laid_reason (reason_from p m k (drop i refs) x)) (why_by p m.snapshots r x)) e ∙ laid_cond (eqb (why_by p m.snapshots r x) nothing) (reason_from p m (suc j) (drop i refs) x) (record { why = why_by p m.snapshots r x; by = j })

    from_one : {g : List Bool} {s : List Reason} {c : Bool} → From g s c i
        → From (set g j v) (pair_up (overlay j) s (marked (why_by p m.snapshots r) ids)) (c || is_twice_in p m.snapshots r) j
    from_one f =
        record {
          goes_so =
              ap (λ (l : List Bool). set l j v) f.goes_so
              ∙ ap (λ (k : ℕ). set (replicate k false ++ after) j v) e
              ∙ set_last false v j after
              ∙ ap (λ (l : List NamedRef). replicate j false ++ (map (goes p m.snapshots) l ++ replicate (ref_room - length refs) false)) (sym d);
          stays_so =
              ap (λ (l : List Reason). pair_up (overlay j) l (marked (why_by p m.snapshots r) ids)) f.stays_so
              ∙ pair_slotted (overlay j) no_reason nothing refl (λ id. laid_reason (reason_from p m i (drop i refs) id)) (why_by p m.snapshots r) ids
              ∙ ap (λ (h : ℤ → Reason). slotted no_reason h ids) (λ t x. told x t)
              ∙ ap (λ (l : List NamedRef). slotted no_reason (λ id. laid_reason (reason_from p m j l id)) ids) (sym d);
          cycles_so =
              ap (λ (b : Bool). b || is_twice_in p m.snapshots r) f.cycles_so
              ∙ or_comm (any (is_twice_in p m.snapshots) (drop i refs)) (is_twice_in p m.snapshots r)
              ∙ ap (any (is_twice_in p m.snapshots)) (sym d);
        }

    -- as it is found of the ref
    pub from_kept : {k : Kept} {t : List Reason} {g : List Bool} {s : List Reason} {c : Bool} → k ≡ kept_of p m.snapshots r → t ≡ pair_up (overlay j) s k.slots → From g s c i → From (set g j k.goes) t (c || k.twice) j
    unfolding kept_of
    from_kept q h f = rw (h, q) (from_one f)

  -- only refs of the office that remain are asked
  asked : (l : List NamedRef) → any (is_twice_in p m.snapshots) l ≡ any (λ (r : NamedRef). is_twice (retained p m.snapshots r.reference)) (keep (λ r. not (is_others_ref p.office r)) (keep (λ r. not (goes p m.snapshots r)) l))
  asked [] = refl
  asked (r ∷ l) =
      cases (goes p m.snapshots r)
      (λ g. rw (g, and-false (not (is_others_ref p.office r))) (asked l))
      (λ g. cases (is_others_ref p.office r) (λ o. rw (g, o) (asked l)) (λ o. rw (g, o, asked l)))

  -- all of them
  pub from_start : {g : List Bool} {s : List Reason} {c : Bool} → From g s c 0 → ◌≡◌ {A = Found} (record { cyclic = c; reasons = record { goes = g; stays = s } }) (found_of p m)
  unfolding found_of laid_reasons reason_of
  from_start f t =
      record {
        cyclic = (f.cycles_so ∙ asked refs) t;
        reasons = record {
          goes = (f.goes_so ∙ ap (λ (k : ℕ). map (goes p m.snapshots) refs ++ replicate (ref_room - k) false) (sym (length-map refs (goes p m.snapshots)))) t;
          stays = f.stays_so t;
        };
      }
