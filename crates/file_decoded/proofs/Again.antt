-- Every lexeme of a text is found again at its place, and so every lexeme in its tree.
use Prim.Native.Nat.{ℕ, zero, suc, ◌+◌, ◌≤◌, ◌<◌}
use native.Mathlib.Omega.{arith}
use mathlib.Core.Path.{◌≡◌, refl, sym, subst}
use mathlib.Core.Bool.{true}
use mathlib.Core.List.{List, [], ◌∷◌}
use mathlib.Core.Option.{none, some}
use borrow.Table.Steps.{cases}
use borrow.Author.Tests.{leb-true, leb-false}
use lib.Dec.{leb}
use lib.ListN.{length, get_or, drop}
use Rattle.json_rule.specs.Lexemes.{Lexeme, Part, Ends, Breaks, part_of, lexemes}
use Rattle.json_rule.specs.Tree.{Json, text}
use Rattle.json_judge.proofs.Follow.{is_closed}
use Rattle.json_tokens.specs.Tokens.{lexemes_at}
use Rattle.json_tokens.proofs.Lexemes.{begins, spaces_skipped, begins_so, none_left, whole_here, broken_here}
use Rattle.file_holds.specs.Lexemes.{Each}
use Rattle.file_holds.proofs.Read.{text_read_lem}
use Rattle.file_decoded.specs.Found.{Found, FoundAgain}

module _ (bs : List ℕ) where
  -- those from a place on, where so many bytes follow at most
  found_from : (n from : ℕ) → length bs ≤ from + n → Each (Found bs) (lexemes_at bs from)
  found_from zero from h = subst (Each (Found bs)) (sym (none_left bs from (omega arith))) tt
  found_from (suc n) from h =
      subst (Each (Found bs)) (sym (spaces_skipped bs from))
      (cases (leb (length bs) (begins bs from))
      (λ y. subst (Each (Found bs)) (sym (none_left bs (begins bs from) (leb-true (length bs) (begins bs from) y))) tt)
      (λ y. let l : begins bs from < length bs = leb-false (length bs) (begins bs from) y in
      by_part l (part_of (get_or bs (begins bs from) 0) (drop (suc (begins bs from)) bs)) refl (λ m. found_from n (suc (begins bs from) + m) (omega arith))))
    where
      by_part : begins bs from < length bs → (p : Part) → part_of (get_or bs (begins bs from) 0) (drop (suc (begins bs from)) bs) ≡ p
          → ((m : ℕ) → Each (Found bs) (lexemes_at bs (suc (begins bs from) + m))) → Each (Found bs) (lexemes_at bs (begins bs from))
      by_part l (Ends m) e h =
          let w = whole_here bs (begins bs from) l (begins_so bs from l) m e in
          subst (Each (Found bs)) (sym w) (record { others = lexemes_at bs (suc (begins bs from) + m); again = w; head = refl; within = l }, h m)
      by_part l (Breaks m) e h =
          let w = broken_here bs (begins bs from) l (begins_so bs from l) m e in
          subst (Each (Found bs)) (sym w) (record { others = []; again = w; head = refl; within = l }, tt)

  lexemes_found : Each (Found bs) (lexemes (length bs) 0 bs)
  unfolding lexemes_at
  lexemes_found = found_from (length bs) 0 (omega arith)

  pub tree_found : (x : Json) → (text bs).tree ≡ some x → FoundAgain bs x
  unfolding FoundAgain
  tree_found x e = (text_read_lem (Found bs) bs lexemes_found x e).0

  -- a text that is read to its end is closed
  pub tree_closed : (x : Json) → (text bs).tree ≡ some x → (text bs).stop ≡ none → is_closed x ≡ true
  tree_closed x e s = (text_read_lem (λ t. Unit {0}) bs (each_trivial (lexemes (length bs) 0 bs)) x e).1 s
    where
      each_trivial : (ts : List Lexeme) → Each (λ t. Unit {0}) ts
      each_trivial [] = tt
      each_trivial (t ∷ ts) = (tt, each_trivial ts)
