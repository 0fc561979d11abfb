-- A place past the last changes nothing.
use mathlib.Core.Path.{sym}
use borrow.Author.Rules.{rules}
use native.Mathlib.Omega.{arith}
use lib.Seq.{set_out}
use Rattle.file_walk.proofs.names.put_place.Statement.{statement}
use Rattle.file_walk.proofs.names.put_place.Tie as tie

pub put_place_spec : {M : Type 1} → statement M
put_place_spec =
    tie.close
    (tie.spec
    (λ c κs. search rules)
    (λ c. search rules)
    (λ c. search rules)
    (λ c. search rules)
    (λ c. sym (set_out _ _ _ (omega (arith, c.see_places.ensures, c.if-count-lt-NAMES.false)))))
