-- What is said and held of a whole text, by the tables of a version.
use Rattle.std.specs.Prelude.{ℕ, ◌≡◌, false, List, [], ◌++◌}
use Rattle.std.proofs.Math.Option.{Option, none, some}
use Rattle.json_rule.specs.Tree.{Defect, Json, Text, text}
use Rattle.json_rule.specs.Members.{members_in}
use Rattle.json_rule.specs.Defects.{least, stop_defects}
use Rattle.file_rule.specs.Tables.{TheFile, OfKind}
use Rattle.file_rule.specs.FileDefects.{defects}
use Rattle.file_rule.specs.Import.{skipped_in}
use Rattle.file_cells.specs.Filled.{filled}
use Rattle.file_walk.specs.declared.seat.Seat.{Seat}
use Rattle.file_walk.specs.Seats.{said_by}

module _ (version : ℕ) where
  abbrev pub tree_says : Option Json → List Defect
  tree_says none = []
  tree_says (some x) = defects version 0 false (OfKind TheFile) x

  abbrev pub text_says : Text → List Defect
  text_says t = tree_says t.tree ++ stop_defects t.stop

  abbrev pub tree_fills : Option Json → List ℕ → List ℕ
  tree_fills none cells = cells
  tree_fills (some x) cells = filled version 100 0 x cells

  abbrev pub tree_skips : Option Json → ℕ
  tree_skips none = 0
  tree_skips (some x) = skipped_in version (members_in x)

pub record TextRead (bs : List ℕ) (version : ℕ) (cells : List ℕ) (r : Seat) (after : List ℕ) : Type 0 where
  pub says : said_by r ≡ least (text_says version (text bs))
  pub fills : after ≡ tree_fills version (text bs).tree cells
  pub skips : r.count ≡ tree_skips version (text bs).tree
