-- The text at a place: what is kept of the lexeme that is next says it, or that there is none.
use Prim.Native.Nat.{ℕ, ◌≤◌, ◌<◌}
use mathlib.Core.Path.{◌≡◌, refl, sym, ap, ◌∙◌}
use mathlib.Core.Bool.{cond}
use mathlib.Core.List.{List, []}
use mathlib.Core.Option.{Option, none, some}
use native.Mathlib.Omega.{arith}
use borrow.Author.Tests.{eqb-true, eqb-false, ne_eqb, eq-eqb, le-leb, lt-leb, leb-true, leb-false}
use borrow.Table.Steps.{cases}
use lib.Dec.{eqb, leb}
use lib.ListN.{length}
use lib.Seq.{take_all}
use Rattle.rules.specs.Words.{or_else}
use Rattle.json_rule.specs.Values.{text_of}
use Rattle.json_members.specs.Kept.{front, TextKept}
use Rattle.json_members.proofs.Fronts.{front_length}
use Rattle.json_store.proofs.Stores.{part_take}
use Rattle.json_tokens.specs.declared.token.Token.{Token}
use Rattle.json_tokens.specs.Tokens.{lexemes_at, WholeAt, TokenAt}
use Rattle.file_records.specs.Decoded.{is_there, place_of, said_by, up_to, text_at}

-- ---- what is kept

-- so many bytes of a text of this length at most
module _ (slots : List ℕ) (len : ℕ) where
  too_long : (o : Option (List ℕ)) → TextKept slots len o → 96 < len → [] ≡ up_to 96 (or_else o [])
  too_long none k h = refl
  too_long (some l) k h = rw (lt-leb (length l) 96 (omega (arith, k.count)))

  short : (o : Option (List ℕ)) → TextKept slots len o → len ≤ 96 → front len slots ≡ up_to 96 (or_else o [])
  short none k h = absurd (omega (arith, k))
  short (some l) k h =
      let n : length l ≡ len = omega (arith, k.count) in
      rw (le-leb (length l) 96 (omega arith))
      (part_take 0 len slots (omega (arith, k.long)) ∙ k.bytes ∙ take_all 97 l (omega arith))

module _ {bs : List ℕ} {from : ℕ} {r : Token} {slots : List ℕ} (at : TokenAt bs from r slots) where
  pub none_there : (r.state ≡ 1 → ⊥) → [] ≡ up_to 96 (said_by (lexemes_at bs from))
  none_there n =
      cases (eqb r.state 0)
      (λ e. rw (at.at_end (eqb-true r.state 0 e)))
      (λ e.
      let two : r.state ≡ 2 = omega (arith, at.known, eqb-false r.state 0 e, n) in
      let b = at.broken two in
      rw (b.is, b.is_broken))

  module _ (one : r.state ≡ 1) where
    whole_there : WholeAt bs from r slots
    whole_there = at.whole one

    said : said_by (lexemes_at bs from) ≡ or_else (text_of whole_there.lexeme) []
    said = let w = whole_there in rw (w.is, w.is_whole)

    pub no_text_lem : (r.head ≡ 34 → ⊥) → [] ≡ up_to 96 (said_by (lexemes_at bs from))
    unfolding text_of
    no_text_lem n = let w = whole_there in rw (said, ← w.head, ne_eqb r.head 34 n)

    module _ (is : r.head ≡ 34) where
      kept : TextKept slots r.len (text_of whole_there.lexeme)
      kept = let w = whole_there in w.kept.text (eq-eqb w.lexeme.head 34 (sym w.head ∙ is))

      pub long_text : 96 < r.len → [] ≡ up_to 96 (said_by (lexemes_at bs from))
      long_text h = rw said (too_long slots r.len (text_of whole_there.lexeme) kept h)

      pub short_text : r.len ≤ 96 → front r.len slots ≡ up_to 96 (said_by (lexemes_at bs from))
      short_text h = rw said (short slots r.len (text_of whole_there.lexeme) kept h)

-- ---- of a value

up_to_length : (room : ℕ) (l : List ℕ) → length (up_to room l) ≤ room
up_to_length room l = cases (leb (length l) room) (λ t. rw t (leb-true (length l) room t)) (λ f. rw f (omega arith))

module _ (file cells : List ℕ) (at : ℕ) where
  pub text_length : (room : ℕ) → length (text_at file cells room at) ≤ room
  unfolding text_at
  text_length room = up_to_length room (cond (is_there cells at) (said_by (lexemes_at file (place_of cells at))) [])

  -- a text of at most 32 bytes, of one of at most 96
  pub name_in_text : text_at file cells 32 at ≡ up_to 32 (text_at file cells 96 at)
  unfolding text_at
  name_in_text =
      let l = cond (is_there cells at) (said_by (lexemes_at file (place_of cells at))) [] in
      cases (leb (length l) 96)
      (λ t. rw t)
      (λ f. rw (f, lt-leb (length l) 32 (omega (arith, leb-false (length l) 96 f))))

  module _ (len : ℕ) (kept : List ℕ) (e : front len kept ≡ text_at file cells 96 at) where
    pub read_length : length (text_at file cells 96 at) ≡ len
    read_length = sym (ap length e) ∙ front_length len kept

    pub read_short : len ≤ 96
    read_short = omega (arith, read_length, text_length 96)

    pub no_name_lem : 32 < len → [] ≡ text_at file cells 32 at
    no_name_lem h = rw (name_in_text, lt-leb (length (text_at file cells 96 at)) 32 (omega (arith, read_length)))

    pub a_name_lem : len ≤ 32 → front len kept ≡ text_at file cells 32 at
    a_name_lem h = rw (name_in_text, le-leb (length (text_at file cells 96 at)) 32 (omega (arith, read_length))) e
