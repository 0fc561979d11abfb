-- The least refusal so far.
use Rattle.std.specs.Prelude.{cond, List}
use Rattle.std.proofs.Math.Option.{Option, none, some}
use Rattle.json_rule.specs.Tree.{Defect}
use Rattle.json_rule.specs.Defects.{is_sooner, least}

-- the sooner of two
abbrev pub sooner : Option Defect → Option Defect → Option Defect
sooner r none = r
sooner none (some d) = some d
sooner (some e) (some d) = cond (is_sooner d e) (some d) (some e)

-- with more defects
abbrev pub refusing : List Defect → Option Defect → Option Defect
refusing ds r = sooner r (least ds)
