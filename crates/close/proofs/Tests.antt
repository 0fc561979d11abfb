-- An `&&` in code: the second test answers where the first held, else the first does.
use mathlib.Core.Path.{◌≡◌, sym, ◌∙◌}
use mathlib.Core.Bool.{Bool, true, false, ◌&&◌}

pub by_second : {x a b y : Bool} → x ≡ a → x ≡ true → y ≡ b → y ≡ a && b
by_second e t f = rw (sym e ∙ t) f

pub by_first : {x a : Bool} (b : Bool) → x ≡ a → x ≡ false → x ≡ a && b
by_first b e n = rw (sym e ∙ n, n)
