-- Which numbers a shape holds, and whether one of a sign and a magnitude is among them.
use Rattle.std.specs.Prelude.{ℕ, suc, Bool, true, false, cond, ◌&&◌, leb, ℤ, pos, negsuc}
use Rattle.json_rule.specs.Records.{natural_of}
use Rattle.json_rule.specs.Shapes.{Shape, Anything, TextUpTo, OneOf, NumberIn, No, AUuid, ATransform, ListUpTo, ARecord}
use Rattle.json_members.specs.declared.width.Width.{Width}

-- how far a number lies below 0
abbrev pub below_of : ℤ → ℕ
below_of (pos n) = 0
below_of (negsuc n) = suc n

abbrev pub no_width : Width
no_width = record { numbers = false; most = 0; below = 0 }

abbrev pub width_of : Shape → Width
width_of Anything = no_width
width_of (TextUpTo room) = no_width
width_of (OneOf words) = no_width
width_of (NumberIn least most) = record { numbers = true; most = natural_of most; below = below_of least }
width_of No = no_width
width_of AUuid = no_width
width_of ATransform = no_width
width_of (ListUpTo room each) = no_width
width_of (ARecord kind) = no_width

-- `-0` is 0
abbrev pub has_number : Width → Bool → ℕ → Bool
has_number w negative magnitude = w.numbers && cond negative (leb magnitude w.below) (leb magnitude w.most)
