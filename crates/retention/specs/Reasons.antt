-- Why each ref and each snapshot stays or goes, for people: no rule of document 02, request (viii), but words for what its procedure does. That a snapshot
-- goes exactly if it has no reason to stay is `Reason-kept`.
use Rattle.std.specs.Prelude.{ℕ, zero, suc, Bool, cond, ◌&&◌, List, [], ◌∷◌, eqb, ℤ, pos}
use Rattle.std.proofs.Math.Option.{Option, none, some}
use Rattle.std.specs.Int.Signed.{lt_z}
use Rattle.rules.specs.Words.{eq_z, is_in}
use Rattle.rules.specs.Names.{is_main}
use Rattle.rules.specs.Register.{Snapshot, NamedRef, Metadata}
use Rattle.rules.specs.Walk.{listed_ids, reach}
use Rattle.rules.specs.Others.{is_second, is_others_ref, is_logged}
use Rattle.retention.specs.Retention.{Policy, count_of, goes, retained}

-- 0: nothing keeps it; then what does
abbrev pub nothing : ℕ
nothing = 0

abbrev pub named : ℕ
named = 1

abbrev pub within_count : ℕ
within_count = 2

abbrev pub within_age : ℕ
within_age = 3

abbrev pub others_need : ℕ
others_need = 4

abbrev pub log_names : ℕ
log_names = 5

-- at which place of a list the id stands first
abbrev pub place_of : List ℤ → ℤ → Option ℕ
place_of [] id = none
place_of (x ∷ l) id = cond (eq_z x id) (some 0) (elim (place_of l id) [ none ↦ none | some k ↦ some (suc k) ])

-- by its place in a branch's walk: the branch names it, it is within the count, or else within the age
abbrev pub why_at : ℤ → Option ℕ → ℕ
why_at count none = nothing
why_at count (some zero) = named
why_at count (some (suc k)) = cond (lt_z (pos (suc k)) count) within_count within_age

-- why a ref keeps a snapshot
unfoldable pub why_by : Policy → List Snapshot → NamedRef → ℤ → ℕ
why_by p snapshots r id =
    cond (is_others_ref p.office r)
    (cond (is_in (reach snapshots r.reference.snapshot) id) others_need nothing)
    (cond (goes p snapshots r) nothing (why_at (count_of p r.reference) (place_of (listed_ids (retained p snapshots r.reference)) id)))

-- what keeps a snapshot: a reason, and of the reasons 1 to 4 the place in the table of the first ref that has one
pub record Reason : Type 0 where
  pub why : ℕ
  pub by : ℕ

-- of the refs from a place on
abbrev pub reason_from : Policy → Metadata → ℕ → List NamedRef → ℤ → Reason
reason_from p m place [] id = record { why = cond (is_second p.office && is_logged m id) log_names nothing; by = 0 }
reason_from p m place (r ∷ refs) id =
    cond (eqb (why_by p m.snapshots r id) nothing)
    (reason_from p m (suc place) refs id)
    (record { why = why_by p m.snapshots r id; by = place })

unfoldable pub reason_of : Policy → Metadata → ℤ → Reason
reason_of p m id = reason_from p m 0 m.refs id
