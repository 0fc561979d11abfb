-- The answers of a walk and of its steps, made of the rules' parts.
use Rattle.std.specs.Prelude.{ℕ, cond, List, ℤ, length, Some, None}
use Rattle.std.specs.Prelude as std
use Rattle.std.proofs.Math.Option.{Option, none, some}
use Rattle.rules.specs.Words.{eq_z, some_with}
use Rattle.rules.specs.Walk.{Walk, walk_number, walk_count}
use Rattle.search.specs.Places.{index_of}
use Rattle.walk.specs.declared.Walked.{Walked}

-- a walk's answer, with room for so many ids
unfoldable pub walked : ℕ → Walk → Walked
walked room walk = record { number = walk_number room walk; count = walk_count room walk }

-- a refusal: count 0
abbrev pub refusal : ℕ → Walked
refusal number = record { number = number; count = 0 }

-- what the code may hold, as the rules have what may be absent
abbrev pub as_given : std.Option ℤ → Option ℤ
as_given None = none
as_given (Some id) = some id

-- where a walk goes on from an id: where the id stands; at the length, so nowhere, where it is excluded or not held
abbrev pub step_from : List ℤ → Option ℤ → ℤ → ℕ
step_from ids excluded id = cond (some_with (eq_z id) excluded) (length ids) (index_of (λ x. eq_z x id) ids)
