-- A snapshot stays exactly if there is a reason for it: each ref's reason says whether that ref keeps the snapshot, and the first that has one is given.
use Prim.Native.Nat.{ℕ, zero, suc}
use mathlib.Core.Path.{◌≡◌, refl, sym, ap, ◌∙◌}
use mathlib.Core.Bool.{Bool, true, false, cond, not, ◌&&◌, ◌||◌, and-false, or-false, or_assoc}
use mathlib.Core.List.{List, [], ◌∷◌}
use mathlib.Core.Option.{Option, none, some}
use lib.Dec.{eqb}
use lib.IntN.{ℤ, pos}
use lib.Signed.{lt_z}
use borrow.Table.Steps.{cases}
use Rattle.rules.specs.Words.{eq_z, is_some, any, keep, is_in}
use Rattle.rules.specs.Register.{NamedRef, Metadata}
use Rattle.rules.specs.Walk.{listed_ids, reach}
use Rattle.rules.specs.Others.{is_second, is_others_ref, others_refs, is_logged}
use Rattle.rules.proofs.Checks.{by_test}
use Rattle.rules.proofs.Orders.{numbers_told}
use Rattle.rules.proofs.Tables.{any_or}
use Rattle.retention.specs.Retention.{Policy, count_of, goes, remaining_refs, own_refs, retained, is_retained}
use Rattle.retention.specs.Reasons.{nothing, others_need, place_of, why_at, why_by, reason_from, reason_of}

-- a test holds for some of the kept exactly if it holds for some that are kept
any_of_kept : {A : Type 0} (p q : A → Bool) (l : List A) → any p (keep q l) ≡ any (λ x. q x && p x) l
any_of_kept p q [] = refl
any_of_kept p q (x ∷ l) = cases (q x) (λ t. rw (t, any_of_kept p q l)) (λ f. rw (f, any_of_kept p q l))

-- there is a reason
abbrev is_reason : ℕ → Bool
is_reason why = not (eqb why nothing)

-- ---- one ref

-- what stands in a list has a place there
pub placed : (l : List ℤ) (id : ℤ) → is_some (place_of l id) ≡ is_in l id
placed [] id = refl
placed (x ∷ l) id =
    cases (eq_z x id)
    (λ t. rw (numbers_told.equal x id t, numbers_told.itself id))
    (λ f. cases (eq_z id x)
    (λ t. rw (numbers_told.equal id x t, numbers_told.itself x))
    (λ g. rw (f, g) (later (place_of l id) ∙ placed l id)))
  where
    later : (o : Option ℕ) → is_some {A = ℕ} (elim o [ none ↦ none | some k ↦ some (suc k) ]) ≡ is_some o
    later none = refl
    later (some k) = refl

-- and at every place there is a reason
pub reason_at : (count : ℤ) (o : Option ℕ) → is_reason (why_at count o) ≡ is_some o
reason_at count none = refl
reason_at count (some zero) = refl
reason_at count (some (suc k)) = by_test (λ (why : ℕ). is_reason why ≡ true) (lt_z (pos (suc k)) count) (λ e. refl) (λ e. refl)

module _ (p : Policy) (m : Metadata) (id : ℤ) where
  -- the walk of the ref lists the snapshot
  abbrev lists : NamedRef → Bool
  lists r = is_in (listed_ids (retained p m.snapshots r.reference)) id

  abbrev reaches : NamedRef → Bool
  reaches r = is_in (reach m.snapshots r.reference.snapshot) id

  -- an own ref that stays lists it
  abbrev keeps_own : NamedRef → Bool
  keeps_own r = not (goes p m.snapshots r) && (not (is_others_ref p.office r) && lists r)

  -- or the other's ref reaches it
  abbrev keeps_others : NamedRef → Bool
  keeps_others r = is_others_ref p.office r && reaches r

  reason_by : (r : NamedRef) → is_reason (why_by p m.snapshots r id) ≡ keeps_own r || keeps_others r
  unfolding why_by
  reason_by r = go (is_others_ref p.office r) (goes p m.snapshots r) (reaches r)
    where
      listed : List ℤ
      listed = listed_ids (retained p m.snapshots r.reference)

      own : ℕ
      own = why_at (count_of p r.reference) (place_of listed id)

      go : (o g t : Bool) → is_reason (cond o (cond t others_need nothing) (cond g nothing own)) ≡ (not g && (not o && lists r)) || (o && t)
      go true g true = rw and-false
      go true g false = rw and-false
      go false true t = refl
      go false false t = reason_at (count_of p r.reference) (place_of listed id) ∙ placed listed id ∙ sym (or-false (lists r))

  -- ---- all refs

  -- in the end the snapshot log is asked
  abbrev logs : Bool
  logs = is_second p.office && is_logged m id

  reason_from_lem : (place : ℕ) (refs : List NamedRef) → is_reason (reason_from p m place refs id).why ≡ any (λ r. is_reason (why_by p m.snapshots r id)) refs || logs
  reason_from_lem place [] = by_test (λ (why : ℕ). is_reason why ≡ logs) logs (λ e. sym e) (λ e. sym e)
  reason_from_lem place (r ∷ refs) =
      cases (eqb (why_by p m.snapshots r id) nothing)
      (λ t. rw t (reason_from_lem (suc place) refs))
      (λ f. rw f (ap not f))

  retained_by : is_retained p m id ≡ any (λ r. keeps_own r || keeps_others r) m.refs || logs
  unfolding is_retained
  retained_by =
      let own : any lists (own_refs p m) ≡ any keeps_own m.refs = any_of_kept lists (λ r. not (is_others_ref p.office r)) (remaining_refs p m) ∙ any_of_kept _ (λ r. not (goes p m.snapshots r)) m.refs in
      let others : any reaches (others_refs p.office m.refs) ≡ any keeps_others m.refs = any_of_kept reaches (is_others_ref p.office) m.refs in
      rw (own, others, any_or keeps_own keeps_others m.refs) (sym (or_assoc (any keeps_own m.refs) (any keeps_others m.refs) logs))

pub reason_kept : (p : Policy) (m : Metadata) (id : ℤ) → is_retained p m id ≡ not (eqb (reason_of p m id).why nothing)
unfolding reason_of
reason_kept p m id =
    retained_by p m id
    ∙ ap (λ (q : NamedRef → Bool). any q m.refs || logs p m id) (λ i r. sym (reason_by p m id r) i)
    ∙ sym (reason_from_lem p m id 0 m.refs)
