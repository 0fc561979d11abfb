-- `main` in what remains: it does not go, so the current snapshot agrees with it, and keeps its snapshot, so the current one is held.
use mathlib.Core.Path.{◌≡◌, refl, ap}
use mathlib.Core.Bool.{true, not, false≢true}
use mathlib.Core.Option.{Option, none, some}
use lib.IntN.{ℤ}
use Rattle.rules.specs.Words.{eq_z, if_some, same_option}
use Rattle.rules.specs.Names.{is_main}
use Rattle.rules.specs.Register.{NamedRef, Metadata}
use Rattle.rules.specs.WellFormed.{holds_snapshot, points_in, main_ref, main_snapshot, main_agrees}
use Rattle.rules.proofs.Orders.{numbers_told}
use Rattle.rules.proofs.Tables.{all_first, first_among}
use Rattle.rules.proofs.Sound.Metadata.{formed_agrees}
use Rattle.retention.specs.Retention.{Policy, goes, remaining_refs, remaining_snapshots}
use Rattle.retention.specs.Outcome.{remaining}
use Rattle.retention.proofs.Stay.{Expires, goes_parts, fails, all_each, all_keep_theirs}

module _ (p : Policy) (m : Metadata) (k : Expires p m) where
  -- `main` does not go
  pub main_stays : main_ref (remaining_refs p m) ≡ main_ref m.refs
  main_stays =
      first_among (λ (r : NamedRef). is_main r.name) (λ r. not (goes p m.snapshots r)) (λ r. true)
      (λ r t e. ap not (fails (goes p m.snapshots r) (λ g. ap not (goes_parts p m.snapshots r g).0) (ap not e)))
      m.refs (all_each (λ r. true) m.refs (λ r i. refl))

  pub main_agrees_lem : main_agrees (remaining p m) ≡ true
  unfolding main_agrees remaining
  main_agrees_lem = rw (main_snapshot, main_stays) (formed_agrees m k.formed)

  -- and keeps its snapshot, the current one
  pub current_held : if_some (holds_snapshot (remaining_snapshots p m)) m.fields.current ≡ true
  unfolding main_agrees remaining
  current_held = go m.fields.current (main_ref (remaining_refs p m)) (all_first (points_in (remaining_snapshots p m)) (λ r. is_main r.name) (remaining_refs p m) (all_keep_theirs p m k)) main_agrees_lem
    where
      go : (current : Option ℤ) (main : Option NamedRef) → if_some (points_in (remaining_snapshots p m)) main ≡ true → same_option eq_z current (elim main [ none ↦ none | some r ↦ some r.reference.snapshot ]) ≡ true
          → if_some (holds_snapshot (remaining_snapshots p m)) current ≡ true
      go none main h e = refl
      go (some id) none h e = absurd (false≢true e)
      go (some id) (some r) h e = rw (numbers_told.equal id r.reference.snapshot e) h
