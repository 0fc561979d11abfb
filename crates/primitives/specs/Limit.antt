-- The limit that digits write, once a `+` in front is gone.
use Rattle.std.specs.Prelude.{ℕ, max, cond, List}
use Rattle.rules.specs.Limit.{is_number, decimal, default_limit}

unfoldable pub digits_limit : List ℕ → ℕ
digits_limit digits = cond (is_number digits) (max 1 (decimal 0 digits)) default_limit
