-- A member by its row, a record by its number.
use mathlib.Core.Path.{◌∙◌}
use borrow.Author.Rules.{rules}
use borrow.Author.Tests.{lt-ltb, le-ltb}
use Rattle.file_cells.specs.Wants.{kind_at, shape_of}
use Rattle.file_cells.specs.Cells.{size_at}
use Rattle.file_members.specs.Names.{kind_size_at}
use Rattle.file_members.proofs.Cells.{kind_size_is}
use Rattle.file_members.proofs.cell.size_of.Statement.{statement}
use Rattle.file_members.proofs.cell.size_of.Tie as tie

returns : tie.Need-returns-then-want-lt-RECORDS
unfolding size_at shape_of
returns c = rw (lt-ltb _ _ c.if-want-lt-RECORDS.true) c.member_size.ensures

returns_2 : tie.Need-returns
unfolding size_at shape_of kind_size_at
returns_2 c = rw (le-ltb _ _ c.if-want-lt-RECORDS.false) (c.kind_size.ensures ∙ kind_size_is (kind_at _))

pub size_of_spec : {M : Type 1} → statement M
size_of_spec =
    tie.close
    (tie.spec
    (λ c κs. search rules)
    returns
    (λ c κs. search rules)
    returns_2)
