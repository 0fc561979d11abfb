-- What a step of the search for the version comes to: it has a version, or goes on at a later name.
use Rattle.std.specs.Prelude.{ℕ, ◌<◌, ◌≤◌, ◌≡◌, List, length}
use Rattle.json_tokens.specs.Tokens.{lexemes_at}
use Rattle.file_import.specs.declared.version.Passed.{Passed}
use Rattle.file_import.specs.declared.version.Passed.TheVariants.{At, Ended}
use Rattle.file_import.specs.Versions.{version_from}

-- at a later name, from which on the version is the same
pub record GoesOn (bs : List ℕ) (from next version : ℕ) : Type 0 where
  pub goes : version_from (length bs) (lexemes_at bs next) ≡ version
  pub later : from < next
  pub fits : next ≤ length bs

abbrev pub Passes : List ℕ → ℕ → Passed → ℕ → Type 0
Passes bs from (At next) version = GoesOn bs from next version
Passes bs from (Ended n) version = n ≡ version
