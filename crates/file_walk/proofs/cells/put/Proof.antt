-- A place past the last changes nothing.
use mathlib.Core.Path.{sym}
use borrow.Author.Rules.{rules}
use native.Mathlib.Omega.{arith}
use lib.Seq.{set_out}
use Rattle.file_walk.proofs.cells.put.Statement.{statement}
use Rattle.file_walk.proofs.cells.put.Tie as tie

pub put_spec : {M : Type 1} → statement M
put_spec =
    tie.close
    (tie.spec
    (λ c κs. search rules)
    (λ c. search rules)
    (λ c. search rules)
    (λ c. search rules)
    (λ c. sym (set_out _ _ _ (omega (arith, c.room.ensures, c.if-base-lt-CELLS.false)))))
