-- Setting the uuid, the version or the location is replayed by what it logs.
use Prim.Native.Nat.{ℕ, ◌≤◌}
use mathlib.Core.Path.{◌≡◌, refl, sym, ap}
use mathlib.Core.Bool.{Bool, true, false, cond, ◌&&◌}
use mathlib.Core.List.{List, [], ◌∷◌}
use native.Mathlib.Omega.{arith}
use lib.Dec.{eqb}
use lib.ListN.{length}
use borrow.Author.Tests.{leb-true, le-leb}
use Rattle.rules.specs.Words.{all, same_bytes}
use Rattle.rules.specs.Names.{is_slash, trimmed}
use Rattle.rules.specs.Register.{Terms, State, with_uuid, with_version, with_location, on_fields, logged}
use Rattle.rules.specs.Register.Update.{AssignUuid, UpgradeFormatVersion, SetLocation}
use Rattle.rules.specs.WellFormed.{update_formed}
use Rattle.rules.specs.SingleUpdates.{assign_uuid, upgrade_format_version, set_location}
use Rattle.rules.specs.Others.{is_others}
use Rattle.rules.specs.Updates.{offers_formed, checks, update_number, effect}
use Rattle.rules.specs.Replay.{strip}
use Rattle.rules.proofs.Sound.Singles.{trimmed_length}
use Rattle.rules.proofs.Sound.Updates.{accepted_form, accepted_own}
use Rattle.rules.proofs.Replay.Steps.{accepted_if, Replays, nothing, once}

-- ---- uuid

pub uuid_replays : (terms : Terms) (uuid : List ℕ) (st : State) → update_number terms (AssignUuid uuid) st ≡ 0 → Replays terms 1 st (effect terms (AssignUuid uuid) st)
unfolding effect assign_uuid strip
uuid_replays terms uuid st e = go (same_bytes uuid st.metadata.fields.uuid) refl
  where
    go : (t : Bool) → same_bytes uuid st.metadata.fields.uuid ≡ t → Replays terms 1 st (cond t st (logged (AssignUuid uuid) (on_fields (with_uuid uuid) st)))
    go true q = nothing terms 1 st
    go false q = once terms (AssignUuid uuid) st (logged (AssignUuid uuid) (on_fields (with_uuid uuid) st)) refl e refl (λ l h. rw q)

-- ---- version

pub version_replays : (terms : Terms) (v : ℕ) (st : State) → update_number terms (UpgradeFormatVersion v) st ≡ 0 → Replays terms 1 st (effect terms (UpgradeFormatVersion v) st)
unfolding effect upgrade_format_version strip
version_replays terms v st e = go (eqb v st.metadata.fields.version) refl
  where
    raised : State
    raised = logged (UpgradeFormatVersion v) (on_fields (with_version v (cond (eqb v 3) (record { 0 = 0 }) st.metadata.fields.next_row)) st)

    go : (t : Bool) → eqb v st.metadata.fields.version ≡ t → Replays terms 1 st (cond t st raised)
    go true q = nothing terms 1 st
    go false q = once terms (UpgradeFormatVersion v) st raised refl e refl (λ l h. rw q)

-- ---- location: what is trimmed is trimmed already

trimmed_slashes : (l : List ℕ) → all is_slash (trimmed l) ≡ all is_slash l
unfolding trimmed
trimmed_slashes [] = refl
trimmed_slashes (b ∷ bs) = go (all is_slash (b ∷ bs)) refl (trimmed_slashes bs)
  where
    go : (t : Bool) → all is_slash (b ∷ bs) ≡ t → all is_slash (trimmed bs) ≡ all is_slash bs → all is_slash (cond t [] (b ∷ trimmed bs)) ≡ all is_slash (b ∷ bs)
    go true q ih = sym q
    go false q ih = ap (λ (t : Bool). is_slash b && t) ih

trimmed_again : (l : List ℕ) → trimmed (trimmed l) ≡ trimmed l
unfolding trimmed
trimmed_again [] = refl
trimmed_again (b ∷ bs) = go (all is_slash (b ∷ bs)) refl (trimmed_again bs)
  where
    go : (t : Bool) → all is_slash (b ∷ bs) ≡ t → trimmed (trimmed bs) ≡ trimmed bs → trimmed (cond t [] (b ∷ trimmed bs)) ≡ cond t [] (b ∷ trimmed bs)
    go true q ih = refl
    go false q ih = rw (trimmed_slashes bs, q, ih)

trimmed_accepted : (terms : Terms) (location : List ℕ) (st : State) → update_number terms (SetLocation location) st ≡ 0 → update_number terms (SetLocation (trimmed location)) st ≡ 0
unfolding checks update_formed offers_formed is_others
trimmed_accepted terms location st e =
    let h : length location ≤ 96 = leb-true (length location) 96 (accepted_form terms (SetLocation location) st e) in
    accepted_if terms (SetLocation (trimmed location)) st (le-leb (length (trimmed location)) 96 (omega (arith, trimmed_length location))) refl (accepted_own terms (SetLocation location) st e) refl

pub location_replays : (terms : Terms) (location : List ℕ) (st : State) → update_number terms (SetLocation location) st ≡ 0 → Replays terms 1 st (effect terms (SetLocation location) st)
unfolding effect set_location strip
location_replays terms location st e = go (same_bytes (trimmed location) st.metadata.fields.location) refl
  where
    moved : State
    moved = logged (SetLocation (trimmed location)) (on_fields (with_location (trimmed location)) st)

    go : (t : Bool) → same_bytes (trimmed location) st.metadata.fields.location ≡ t → Replays terms 1 st (cond t st moved)
    go true q = nothing terms 1 st
    go false q = once terms (SetLocation (trimmed location)) st moved refl (trimmed_accepted terms location st e) refl (λ l h. rw (trimmed_again location, q))
