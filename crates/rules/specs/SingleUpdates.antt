-- Uuid, version and location: document 01, "Rules for each update", the first two.
-- Each update has its checks, in 01's order, and its effect, which counts where no check fails.
use Rattle.std.specs.Prelude.{ℕ, cond, List, [], ◌∷◌, eqb, ltb}
use Rattle.rules.specs.Words.{same_bytes, Check}
use Rattle.rules.specs.Replies.{version_lowered}
use Rattle.rules.specs.Names.{trimmed}
use Rattle.rules.specs.Register.{State, with_uuid, with_version, with_location, on_fields, logged}
use Rattle.rules.specs.Register.Update.{AssignUuid, UpgradeFormatVersion, SetLocation}

-- ---- uuid

-- "An equal one changes and logs nothing."
unfoldable pub assign_uuid : List ℕ → State → State
assign_uuid uuid st =
    cond (same_bytes uuid st.metadata.fields.uuid)
    st
    (logged (AssignUuid uuid) (on_fields (with_uuid uuid) st))

-- ---- version

-- "version lowered"
unfoldable pub upgrade_format_version_checks : ℕ → State → List Check
upgrade_format_version_checks v st = (ltb v st.metadata.fields.version, version_lowered) ∷ []

-- "Equal: nothing. Reaching 3 sets next row id to 0."
unfoldable pub upgrade_format_version : ℕ → State → State
upgrade_format_version v st =
    cond (eqb v st.metadata.fields.version)
    st
    (logged (UpgradeFormatVersion v) (on_fields (with_version v (cond (eqb v 3) (record { 0 = 0 }) st.metadata.fields.next_row)) st))

-- ---- location

-- "Trailing `/` bytes come off first"; then an equal one changes and logs nothing; logged trimmed
unfoldable pub set_location : List ℕ → State → State
set_location location st =
    cond (same_bytes (trimmed location) st.metadata.fields.location)
    st
    (logged (SetLocation (trimmed location)) (on_fields (with_location (trimmed location)) st))
