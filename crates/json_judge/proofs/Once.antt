-- Where nothing is wrong with an object no name is repeated in it, so the value of a name is the one that was put under it, whether the first or the last counts.
use Prim.Native.Nat.{ℕ}
use mathlib.Core.Path.{◌≡◌, refl, sym, ap, ◌∙◌}
use mathlib.Core.Bool.{Bool, true, false, cond, ◌||◌, or-true, true≢false, false≢true}
use mathlib.Core.List.{List, [], ◌∷◌}
use mathlib.Core.Option.{Option, none, some}
use borrow.Table.Steps.{cases}
use Rattle.rules.specs.Words.{is_some, same_bytes}
use Rattle.rules.proofs.Orders.{names_told_lem}
use Rattle.json_rule.specs.Lexemes.{Lexeme}
use Rattle.json_rule.specs.Values.{text_of}
use Rattle.json_rule.specs.Tree.{Json, Members, no_member, bare_name, member}
use Rattle.json_rule.specs.Members.{is_one_of, is_named, value_of}
use Rattle.json_rule.specs.Shapes.{Row}
use Rattle.json_rule.specs.Defects.{row_of, name_defects, with_name, member_defects}
use Rattle.json_judge.specs.Sending.{Held, members_before, held_by}
use Rattle.json_judge.proofs.Right.{both_empty}
use Rattle.json_judge.proofs.Names.{is_said, with_name_lem, row_new}

-- ---- the last of a name

abbrev or_else_then : Option Json → Option Json → Option Json
or_else_then none y = y
or_else_then (some x) y = some x

abbrev last_of : List ℕ → Members → Option Json
last_of name no_member = none
last_of name (bare_name t) = none
last_of name (member t x ms) = or_else_then (last_of name ms) (cond (is_named name t) (some x) none)

or_none : (x : Option Json) → or_else_then x none ≡ x
or_none none = refl
or_none (some x) = refl

-- it is the one that is held
held_last : (name : List ℕ) (hs : List Held) (ms : Members) → last_of name (members_before hs ms) ≡ or_else_then (last_of name ms) (held_by name hs)
held_last name [] ms = sym (or_none (last_of name ms))
held_last name (h ∷ hs) ms = held_last name hs (member h.name h.value ms) ∙ go (last_of name ms) (is_named name h.name)
  where
    go : (x : Option Json) (b : Bool) → or_else_then (or_else_then x (cond b (some h.value) none)) (held_by name hs) ≡ or_else_then x (cond b (some h.value) (held_by name hs))
    go none true = refl
    go none false = refl
    go (some x) b = refl

-- ---- no name is repeated

-- a name with which nothing is wrong has a row
name_right : (t : Lexeme) (row : Option Row) → name_defects t row ≡ [] → is_some row ≡ true
name_right t none e = cc
name_right t (some ρ) e = refl

-- a member with which nothing is wrong: its name is new, and nothing is wrong with the rest
record Right (schema : ℕ) (rows : List Row) (seen : List (List ℕ)) (t : Lexeme) (ms : Members) : Type 0 where
  name : List ℕ
  says : text_of t ≡ some name
  new : is_one_of seen name ≡ false
  rest : member_defects schema rows (with_name seen (text_of t)) ms ≡ []

module _ (schema : ℕ) (rows : List Row) where
  member_right : (seen : List (List ℕ)) (t : Lexeme) (x : Json) (ms : Members) → member_defects schema rows seen (member t x ms) ≡ [] → Right schema rows seen t ms
  unfolding member_defects
  member_right seen t x ms e =
      let p = both_empty _ (member_defects schema rows (with_name seen (text_of t)) ms) e in
      let q = both_empty (name_defects t (row_of rows seen (text_of t))) _ p.0 in
      go (row_of rows seen (text_of t)) refl (name_right t (row_of rows seen (text_of t)) q.0) p.1
    where
      go : (row : Option Row) → row_of rows seen (text_of t) ≡ row → is_some row ≡ true → member_defects schema rows (with_name seen (text_of t)) ms ≡ [] → Right schema rows seen t ms
      go none e s r = absurd (false≢true s)
      go (some ρ) e s r = let n = row_new rows seen (text_of t) ρ e in record { name = ρ.name; says = n.0; new = n.1; rest = r }

  -- a name that was there before does not come again
  absent : (ms : Members) (seen : List (List ℕ)) (name : List ℕ) → member_defects schema rows seen ms ≡ [] → is_one_of seen name ≡ true → last_of name ms ≡ none
  absent no_member seen name e s = refl
  absent (bare_name t) seen name e s = refl
  absent (member t x ms) seen name e s =
      let r : Right schema rows seen t ms = member_right seen t x ms e in
      let n : is_named name t ≡ same_bytes name r.name = ap (λ (m : Option (List ℕ)). is_said m name) r.says in
      let l : last_of name ms ≡ none = absent ms (with_name seen (text_of t)) name r.rest (with_name_lem seen (text_of t) name ∙ (ap (λ (b : Bool). is_said (text_of t) name || b) s ∙ or-true (is_said (text_of t) name))) in
      cases (is_named name t)
      (λ u. let g : name ≡ r.name = names_told_lem.equal name r.name (sym n ∙ u) in
      absurd (true≢false (sym s ∙ (ap (is_one_of seen) g ∙ r.new))))
      (λ u. rw (l, u))

  once : (ms : Members) (seen : List (List ℕ)) (name : List ℕ) → member_defects schema rows seen ms ≡ [] → value_of name ms ≡ last_of name ms
  once no_member seen name e = refl
  once (bare_name t) seen name e = refl
  once (member t x ms) seen name e =
      let r : Right schema rows seen t ms = member_right seen t x ms e in
      cases (is_named name t)
      (λ u. let l : last_of name ms ≡ none = absent ms (with_name seen (text_of t)) name r.rest (with_name_lem seen (text_of t) name ∙ ap (λ (b : Bool). b || is_one_of seen name) u) in
      rw (u, l))
      (λ u. rw u (once ms (with_name seen (text_of t)) name r.rest ∙ sym (or_none (last_of name ms))))

-- the value of a name is what is held under it
pub held_value : (schema : ℕ) (rows : List Row) (hs : List Held) (name : List ℕ) → member_defects schema rows [] (members_before hs no_member) ≡ [] → value_of name (members_before hs no_member) ≡ held_by name hs
held_value schema rows hs name e = once schema rows (members_before hs no_member) [] name e ∙ held_last name hs no_member
