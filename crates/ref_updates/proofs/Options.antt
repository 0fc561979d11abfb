-- A value behind a flag that is set: a test of it.
use mathlib.Core.Path.{◌≡◌}
use mathlib.Core.Bool.{Bool, true}
use Rattle.rules.specs.Words.{some_with}
use Rattle.rules.specs.Layout.{given}

pub of_set : {A : Type 0} (p : A → Bool) {f : Bool} (x : A) → f ≡ true → some_with p (given f x) ≡ p x
of_set p x h = rw h
