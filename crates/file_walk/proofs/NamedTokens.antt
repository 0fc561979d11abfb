-- A name by its token.
use Prim.Native.Nat.{ℕ, zero, suc, ◌≤◌, ◌<◌}
use native.Mathlib.Omega.{arith}
use mathlib.Core.Path.{◌≡◌, refl, sym, ap, ◌∙◌}
use mathlib.Core.Bool.{Bool, true, false, cond}
use mathlib.Core.List.{List}
use mathlib.Core.Option.{Option, none, some}
use lib.Dec.{eqb}
use lib.ListN.{length, take}
use lib.Seq.{take_all}
use borrow.Table.Steps.{cases}
use borrow.Author.Tests.{eqb-true}
use Rattle.rules.specs.Words.{same_bytes, some_with}
use Rattle.rules.proofs.Checks.{and_left, and_right}
use Rattle.primitives.proofs.Bytes.{unequal_lengths}
use Rattle.json_rule.specs.Lexemes.{Lexeme, quote}
use Rattle.json_rule.specs.Values.{text_of}
use Rattle.json_rule.specs.Tree.{not_json, Named, OpenBy, no_member, name}
use Rattle.json_members.specs.Kept.{front, TextKept}
use Rattle.json_members.proofs.Fronts.{front_length}
use Rattle.json_tokens.specs.Tokens.{lexemes_at, WholeAt, TokenAt}
use Rattle.json_tokens.specs.declared.token.Token.{Token}
use Rattle.json_tokens.proofs.Lexemes.{lexemes_again}
use Rattle.file_walk.specs.Seats.{is_mark}
use Rattle.file_walk.specs.Named.{name_at, no_name_place}

below_3 : {P : Type 0} (n : ℕ) → n < 3 → (n ≡ 0 → P) → (n ≡ 1 → P) → (n ≡ 2 → P) → P
below_3 zero h f g k = f refl
below_3 (suc zero) h f g k = g refl
below_3 (suc (suc zero)) h f g k = k refl
below_3 (suc (suc (suc n))) h f g k = absurd (omega arith)

no_text_lem : (t : Lexeme) → eqb t.head quote ≡ false → text_of t ≡ none
unfolding text_of
no_text_lem t e = rw e

by_whole : (t : Lexeme) {o : Option (List ℕ)} → t.whole ≡ true → text_of t ≡ o → cond t.whole (text_of t) none ≡ o
by_whole t e f = ap (λ (b : Bool). cond b (text_of t) none) e ∙ f

module _ (bs : List ℕ) (from : ℕ) (t : Token) (slots : List ℕ) (n : TokenAt bs from t slots) where
  by_state : {P : Type 0} → (t.state ≡ 0 → P) → (t.state ≡ 1 → P) → (t.state ≡ 2 → P) → P
  by_state f g k = below_3 t.state n.known f g k

  -- ---- a text there, or none

  pub no_name_lem : is_mark quote t ≡ false → name_at bs from ≡ none
  unfolding name_at
  no_name_lem e =
      by_state
      (λ s. rw (n.at_end s))
      (λ s. let h : eqb (n.whole s).lexeme.head quote ≡ false = rw (← (n.whole s).head) (rw s at e) in rw (n.whole s).is (by_whole (n.whole s).lexeme (n.whole s).is_whole (no_text_lem (n.whole s).lexeme h)))
      (λ s. rw ((n.broken s).is, (n.broken s).is_broken))

  module _ (e : is_mark quote t ≡ true) where
    pub whole_token : WholeAt bs from t slots
    whole_token = n.whole (eqb-true t.state 1 (and_left (eqb t.state 1) (eqb t.head quote) e))

    pub quoted : eqb whole_token.lexeme.head quote ≡ true
    quoted = rw (← whole_token.head) (and_right (eqb t.state 1) (eqb t.head quote) e)

    pub text_kept : TextKept slots t.len (text_of whole_token.lexeme)
    text_kept = whole_token.kept.text quoted

    pub name_here : name_at bs from ≡ text_of whole_token.lexeme
    unfolding name_at
    name_here = rw whole_token.is (by_whole whole_token.lexeme whole_token.is_whole refl)

    -- from its own place on
    pub name_again : name_at bs whole_token.lexeme.first ≡ text_of whole_token.lexeme
    unfolding name_at
    name_again = rw (lexemes_again bs from whole_token.lexeme (lexemes_at bs t.after) whole_token.is) (by_whole whole_token.lexeme whole_token.is_whole refl)

    long_text : (x : Option (List ℕ)) (text : List ℕ) → TextKept slots t.len x → 97 ≤ t.len → length text ≤ 96 → some_with (same_bytes text) x ≡ false
    long_text none text k h l = refl
    long_text (some other) text k h l = unequal_lengths text other (λ q. omega (arith, k.count))

    pub again_long : (kept : List ℕ) (len : ℕ) → 97 ≤ t.len → len ≤ 96 → some_with (same_bytes (front len kept)) (name_at bs from) ≡ false
    again_long kept len h l = rw name_here (long_text (text_of whole_token.lexeme) (front len kept) text_kept h (omega (arith, front_length len kept)))

    short_text : (x : Option (List ℕ)) → TextKept slots t.len x → t.len < 97 → x ≡ some (take t.len slots)
    short_text none k h = absurd (omega arith)
    short_text (some text) k h = ap some (sym (k.bytes ∙ take_all 97 text (omega (arith, k.count))))

    pub again_short : t.len < 97 → name_at bs from ≡ some (take t.len slots)
    again_short h = name_here ∙ short_text (text_of whole_token.lexeme) text_kept h

  -- ---- the rule

  pub name_none : (again : Lexeme → List Lexeme → Named) → is_mark quote t ≡ false
      → name (length bs) again (lexemes_at bs from) ≡ OpenBy no_member (record { place = no_name_place (length bs) t; number = not_json })
  name_none again e =
      by_state
      (λ s. rw (n.at_end s, s))
      (λ s. let h : eqb (n.whole s).lexeme.head quote ≡ false = rw (← (n.whole s).head) (rw s at e) in rw ((n.whole s).is, h, s, (n.whole s).first))
      (λ s. rw ((n.broken s).is, s, (n.broken s).is_broken, (n.broken s).head, (n.broken s).first, (n.broken s).stop)
      (cases (eqb (n.broken s).lexeme.head quote) (λ q. rw q) (λ q. rw q)))

  pub name_one : (again : Lexeme → List Lexeme → Named) (e : is_mark quote t ≡ true)
      → name (length bs) again (lexemes_at bs from) ≡ again (whole_token e).lexeme (lexemes_at bs t.after)
  name_one again e = rw ((whole_token e).is, quoted e, (whole_token e).is_whole)
