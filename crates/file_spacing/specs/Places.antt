-- Lexemes and trees with other places, and without places.
use Rattle.std.specs.Prelude.{ℕ, suc, ◌+◌, Bool, cond, ◌&&◌, ◌||◌, List, map, leb, length}
use Rattle.rules.specs.Words.{all}
use Rattle.json_rule.specs.Lexemes.{Lexeme, lexemes}
use Rattle.json_rule.specs.Tree.{Defect, Json, Scalar, Array, Object, Items, no_item, item, Members, no_member, bare_name, member}

module _ (f : ℕ → ℕ) where
  -- a lexeme at another place; one that is whole does not break off anywhere
  abbrev pub moved_lexeme : Lexeme → Lexeme
  moved_lexeme t = record { head = t.head; body = t.body; first = f t.first; whole = t.whole; stop = cond t.whole t.stop (f t.stop) }

  unfoldable mutual
    pub moved : Json → Json
    moved (Scalar t) = Scalar (moved_lexeme t)
    moved (Array place xs closed) = Array (f place) (moved_items xs) closed
    moved (Object place ms closed) = Object (f place) (moved_members ms) closed

    pub moved_items : Items → Items
    moved_items no_item = no_item
    moved_items (item x xs) = item (moved x) (moved_items xs)

    pub moved_members : Members → Members
    moved_members no_member = no_member
    moved_members (bare_name t) = bare_name (moved_lexeme t)
    moved_members (member t x ms) = member (moved_lexeme t) (moved x) (moved_members ms)

  abbrev pub moved_defect : Defect → Defect
  moved_defect d = record { place = f d.place; number = d.number }

-- all at one place
abbrev pub unplaced : Json → Json
unplaced x = moved (λ place. 0) x

-- the lexemes of a text, all at one place: their bytes, and whether they are whole
abbrev pub unplaced_lexemes : List ℕ → List Lexeme
unplaced_lexemes bs = map (moved_lexeme (λ place. 0)) (lexemes (length bs) 0 bs)

-- the lexeme begins at this place or behind it, or has ended there
abbrev pub is_beside : ℕ → Lexeme → Bool
is_beside place t = leb place t.first || (t.whole && leb (suc t.first + length t.body) place)

-- no lexeme stands across this place
abbrev pub is_between : ℕ → List Lexeme → Bool
is_between place ts = all (is_beside place) ts
