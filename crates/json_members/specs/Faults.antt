-- What is wrong with a value that is no list and no object: the number of its defect, 0 where it has none.
use Rattle.std.specs.Prelude.{ℕ, ◌≡◌, Bool, true, false, cond, ◌&&◌, List, [], ◌∷◌, eqb, leb, length}
use Rattle.std.proofs.Math.Option.{Option, none, some}
use Rattle.rules.specs.Words.{some_with}
use Rattle.json_rule.specs.Lexemes.{Lexeme, quote, minus, is_digit}
use Rattle.json_rule.specs.Tree.{Defect, over_capacity}
use Rattle.json_rule.specs.Members.{is_one_of}
use Rattle.json_rule.specs.Shapes.{Shape, Anything, TextUpTo, OneOf, NumberIn, No, AUuid, ATransform, ListUpTo, ARecord}
use Rattle.json_rule.specs.Defects.{not_published, is_uuid, is_transform, is_anything, scalar_defects}
use Rattle.json_machine.specs.Digest.{lone_length}
use Rattle.json_members.specs.Kept.{front}
use Rattle.json_members.specs.Spots.{shape_at}
use Rattle.json_members.specs.Widths.{width_of, has_number}

abbrev pub number_in : List Defect → ℕ
number_in [] = 0
number_in (d ∷ ds) = d.number

-- a value has one defect at most, and its number does not turn on the place
unfoldable pub fault_of : Shape → Lexeme → ℕ
fault_of shape t = number_in (scalar_defects shape 0 t)

-- a text is one of the words, or of the form, that are wanted
abbrev pub is_formed : Shape → List ℕ → Bool
is_formed Anything text = false
is_formed (TextUpTo room) text = false
is_formed (OneOf words) text = is_one_of words text
is_formed (NumberIn least most) text = false
is_formed No text = false
is_formed AUuid text = is_uuid text
is_formed ATransform text = is_transform text
is_formed (ListUpTo room each) text = false
is_formed (ARecord kind) text = false

-- what is wrong with the bytes of a text, or with one that has none
abbrev pub text_fault : Shape → Option (List ℕ) → ℕ
text_fault Anything x = 0
text_fault (TextUpTo room) none = not_published
text_fault (TextUpTo room) (some text) = cond (leb (length text) room) 0 over_capacity
text_fault (OneOf words) x = cond (some_with (is_one_of words) x) 0 not_published
text_fault (NumberIn least most) x = not_published
text_fault No x = not_published
text_fault AUuid x = cond (some_with is_uuid x) 0 not_published
text_fault ATransform x = cond (some_with is_transform x) 0 not_published
text_fault (ListUpTo room each) x = not_published
text_fault (ARecord kind) x = not_published

-- a spot whose values are judged by their shape alone: not one that is passed over, nor the action, which says more
pub record Judged (spot : ℕ) : Type 0 where
  pub something : is_anything (shape_at spot) ≡ false
  pub other : eqb spot 3 ≡ false

-- ---- the same, told of what is kept of a lexeme

-- the action is judged elsewhere
abbrev pub is_formed_at : ℕ → List ℕ → Bool
is_formed_at spot text = cond (eqb spot 3) false (is_formed (shape_at spot) text)

-- by how long a text may be, or by its words or its form
unfoldable pub form_fault_at : ℕ → List ℕ → ℕ → ℕ
form_fault_at spot kept len =
    cond (eqb spot 6) (cond (leb len 96) 0 over_capacity)
    (cond (eqb spot 9) (cond (leb len 32) 0 over_capacity)
    (cond (eqb spot 41) (cond (leb len 32) 0 over_capacity)
    (cond (eqb spot 56) (cond (leb len 32) 0 over_capacity)
    (cond (is_formed_at spot (front len kept)) 0 not_published))))

abbrev pub text_fault_at : ℕ → List ℕ → ℕ → ℕ
text_fault_at spot kept len = cond (eqb len lone_length) not_published (form_fault_at spot kept len)

abbrev pub number_fault_at : ℕ → Bool → Bool → ℕ → ℕ
number_fault_at spot negative integer magnitude = cond (integer && has_number (width_of (shape_at spot)) negative magnitude) 0 not_published

-- by the first byte
unfoldable pub fault_at : ℕ → List ℕ → ℕ → ℕ → Bool → ℕ → ℕ
fault_at spot kept head len integer magnitude =
    cond (eqb head quote) (text_fault_at spot kept len)
    (cond (eqb head minus) (number_fault_at spot true integer magnitude)
    (cond (is_digit head) (number_fault_at spot false integer magnitude)
    (cond (eqb head 102) (cond (eqb spot 42) 0 not_published)
    not_published)))
