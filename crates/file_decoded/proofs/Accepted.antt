-- What is answered to a file with which nothing is wrong, by its cells.
use Prim.Native.Nat.{ℕ, ◌+◌, ◌*◌}
use mathlib.Core.Path.{◌≡◌, refl}
use mathlib.Core.List.{List, [], ◌∷◌, ◌++◌}
use mathlib.Core.Option.{some}
use lib.ListN.{length}
use Rattle.json_rule.specs.Lexemes.{lexemes}
use Rattle.json_rule.specs.Tree.{Json, Value, Whole, Cut, Missing, value, text_of_value, text}
use Rattle.json_rule.specs.Members.{members_in}
use Rattle.json_rule.specs.Defects.{stop_defects}
use Rattle.file_rule.specs.FileDefects.{version_of, tree_defects, file_defects}
use Rattle.file_rule.specs.Import.{skipped_in, formed_or1, imported}
use Rattle.file_cells.specs.Filled.{filled}
use Rattle.file_holds.proofs.Right.{impossible}
use Rattle.file_records.specs.Decoded.{metadata_in}
use Rattle.file_decoded.proofs.Metadata.{Blank, file_decoded}

-- it has a tree
pub has_tree : (bs : List ℕ) → file_defects (text bs) ≡ [] → (x : Json) × ((text bs).tree ≡ some x)
unfolding text file_defects
has_tree bs fine = go (value (length bs) (2 * length (lexemes (length bs) 0 bs) + 1) 0 (lexemes (length bs) 0 bs)) fine
  where
    go : (v : Value) → tree_defects (text_of_value (length bs) v).tree ++ stop_defects (text_of_value (length bs) v).stop ≡ [] → (x : Json) × ((text_of_value (length bs) v).tree ≡ some x)
    go (Whole x []) e = (x, refl)
    go (Whole x (t ∷ ts)) e = (x, refl)
    go (Cut x stop) e = (x, refl)
    go (Missing stop) e = absurd (impossible e)

-- the metadata of the cells, where it is well formed
pub accepted : (bs : List ℕ) (x : Json) → (text bs).tree ≡ some x → file_defects (text bs) ≡ [] → (start : List ℕ) → Blank start
    → imported bs ≡ formed_or1 (skipped_in (version_of (members_in x)) (members_in x)) (metadata_in bs (filled (version_of (members_in x)) 100 0 x start) (version_of (members_in x)))
unfolding imported
accepted bs x tree fine start b = rw (fine, tree, file_decoded bs x tree fine start b)
