-- The time window: document 01, numbers 7 and 8, and "Time differences are exact whole numbers".
use Rattle.std.specs.Prelude.{Bool, ◌||◌, ℤ, pos, ◌+ℤ◌}
use Rattle.std.specs.Int.Signed.{lt_z}

-- "time + 60,000 < last", for any span: more than the span before the last time
unfoldable pub is_before : ℤ → ℤ → ℤ → Bool
is_before span time last = lt_z (time +ℤ span) last

-- ---- document 02, request (v): "a tolerance in milliseconds, 0 to 3,600,000, default 60,000"

abbrev pub default_tolerance : ℤ
default_tolerance = pos 60000

abbrev pub longest_tolerance : ℤ
longest_tolerance = pos 3600000

abbrev pub is_outside : ℤ → Bool
is_outside tolerance = lt_z tolerance (pos 0) || lt_z longest_tolerance tolerance
