-- One step of the search for the version: a value that is passed over, with its comma; and a name, with its colon.
use Prim.Native.Nat.{ℕ, suc, ◌-◌, ◌<◌, ◌≤◌}
use native.Mathlib.Omega.{arith}
use mathlib.Core.Path.{◌≡◌, refl, sym, ap, subst, ◌∙◌}
use mathlib.Core.Bool.{Bool, true, false, cond, ◌||◌, true≢false}
use mathlib.Core.List.{List, [], ◌∷◌}
use mathlib.Core.Option.{Option, none, some}
use lib.Dec.{eqb}
use lib.ListN.{length}
use borrow.Table.Steps.{cases}
use borrow.Author.Tests.{eqb-true, eqb-false, eq-eqb, ne_eqb}
use Rattle.json_rule.specs.Lexemes.{Lexeme, quote, is_digit}
use Rattle.rules.specs.Words.{some_with, same_bytes}
use Rattle.json_rule.specs.Values.{text_of}
use Rattle.json_rule.specs.Tree.{Defect, Value, Whole, Cut, Missing, is_byte, is_scalar as stands_alone}
use Rattle.json_rule.specs.Members.{is_named}
use Rattle.json_members.specs.Kept.{front, LexemeKept}
use Rattle.json_members.proofs.Words.{longer}
use Rattle.json_members.proofs.Names.{same_turned}
use Rattle.json_members.proofs.Kept.{told_of, kept_told}
use Rattle.json_descent.specs.Descent.{value_from}
use Rattle.file_cells.specs.Wants.{shape_of, row_at}
use Rattle.json_tokens.specs.declared.token.Token.{Token}
use Rattle.json_tokens.specs.Tokens.{lexemes_at, WholeAt, BrokenAt, TokenAt}
use Rattle.file_walk.specs.declared.seat.Seat.{Seat}
use Rattle.file_import.specs.declared.version.Passed.{Passed}
use Rattle.file_import.specs.declared.version.Passed.TheVariants.{At, Ended}
use Rattle.file_walk.specs.Outcomes.{Outcome, told, of_value, Meant}
use Rattle.file_walk.specs.Seats.{said_by}
use Rattle.file_walk.specs.Walked.{Walked}
use Rattle.file_import.specs.Versions.{version_from, version_next, version_behind, version_after, version_name, version_at_start}
use Rattle.file_import.specs.Passing.{Passes, GoesOn}
use Rattle.file_import.proofs.Versions.{no_version, no_name_lem, broken_name, no_more, no_colon, a_member}

-- ---- what a value came to

pub anything_meant : Meant 0
unfolding shape_of row_at
anything_meant = record { passes = refl }

module _ (bs : List ℕ) (version schema want base : ℕ) (said : Option Defect) (cells cells' : List ℕ) (s : Seat) where
  passed_none : (v : Value) → told bs s cells' ≡ of_value version schema want base said cells v → (s.state ≡ 0 → ⊥) → 0 ≡ version_behind (length bs) v
  passed_none (Whole x ts) e n = absurd (n (ap (λ (o : Outcome). o.state) e))
  passed_none (Cut x stop) e n = refl
  passed_none (Missing stop) e n = refl

  zero_not : (n : ℕ) → n ≡ 0 → (m : ℕ) → n ≡ suc m → ⊥
  zero_not n e m f = absurd (zero_suc m (sym e ∙ f))
    where
      zero_suc : (m : ℕ) → 0 ≡ suc m → ⊥
      zero_suc m g = omega (arith, g)

  passed_whole : (v : Value) → told bs s cells' ≡ of_value version schema want base said cells v → s.state ≡ 0 → version_behind (length bs) v ≡ version_next (length bs) (lexemes_at bs s.from)
  passed_whole (Whole x ts) e z = ap (λ (ts : List Lexeme). version_next (length bs) ts) (sym (rw z at (ap (λ (o : Outcome). o.rest) e)))
  passed_whole (Cut x stop) e z = absurd (zero_not s.state z 0 (ap (λ (o : Outcome). o.state) e))
  passed_whole (Missing stop) e z = absurd (zero_not s.state z 1 (ap (λ (o : Outcome). o.state) e))

-- ---- the comma behind it

module _ (bs : List ℕ) (from : ℕ) (t : Token) (slots : List ℕ) (k : TokenAt bs from t slots) where
  broken_next : (u : Lexeme) → 0 ≡ version_next (length bs) (u ∷ [])
  broken_next u = cases (is_byte 44 u) (λ e. rw e (sym (no_version (length bs)))) (λ e. rw e refl)

  pub no_lexeme : (t.state ≡ 1 → ⊥) → 0 ≡ version_next (length bs) (lexemes_at bs from)
  no_lexeme n =
      cases (eqb t.state 0)
      (λ e. sym (ap (λ (ts : List Lexeme). version_next (length bs) ts) (k.at_end (eqb-true t.state 0 e))))
      (λ e. let two : t.state ≡ 2 = omega (arith, k.known, eqb-false t.state 0 e, n) in
      let b = k.broken two in
      broken_next b.lexeme ∙ sym (ap (λ (ts : List Lexeme). version_next (length bs) ts) b.is))

  pub no_comma : t.state ≡ 1 → (t.head ≡ 44 → ⊥) → 0 ≡ version_next (length bs) (lexemes_at bs from)
  no_comma e n =
      let w = k.whole e in
      sym (ap (λ (ts : List Lexeme). version_next (length bs) ts) w.is ∙ ap (λ (b : Bool). cond b (version_from (length bs) (lexemes_at bs t.after)) 0) (ne_eqb w.lexeme.head 44 (λ q. n (w.head ∙ q))))

  pub a_comma_lem : t.state ≡ 1 → t.head ≡ 44 → version_from (length bs) (lexemes_at bs t.after) ≡ version_next (length bs) (lexemes_at bs from)
  a_comma_lem e q =
      let w = k.whole e in
      sym (ap (λ (ts : List Lexeme). version_next (length bs) ts) w.is ∙ ap (λ (b : Bool). cond b (version_from (length bs) (lexemes_at bs t.after)) 0) (eq-eqb w.lexeme.head 44 (sym w.head ∙ q)))

  pub is_going : t.state ≡ 1 → from < t.after
  is_going e = let w = k.whole e in omega (arith, w.later, w.beyond)

  pub still_fits : t.state ≡ 1 → t.after ≤ length bs
  still_fits e = (k.whole e).fits

-- ---- a name and its colon

scalar_no_colon : (u : Lexeme) → stands_alone u ≡ true → is_byte 58 u ≡ false
unfolding stands_alone is_digit
scalar_no_colon u s = cases (is_byte 58 u) (λ e. absurd (true≢false (sym s ∙ rw (eqb-true u.head 58 e) refl))) (λ e. e)

-- one that was passed from a later place on
pub from_later : (bs : List ℕ) (from later : ℕ) (r : Passed) (version other : ℕ) → from ≤ later → version ≡ other → Passes bs later r version → Passes bs from r other
from_later bs from later (At next) version other l e p = record { goes = p.goes ∙ e; later = omega (arith, p.later); fits = p.fits }
from_later bs from later (Ended n) version other l e p = p ∙ e

module _ (bs : List ℕ) (from : ℕ) (t : Token) (slots : List ℕ) (k : TokenAt bs from t slots) where
  pub no_name_there : (t.state ≡ 1 → ⊥) → 0 ≡ version_from (length bs) (lexemes_at bs from)
  no_name_there n =
      cases (eqb t.state 0)
      (λ e. sym (ap (λ (ts : List Lexeme). version_from (length bs) ts) (k.at_end (eqb-true t.state 0 e)) ∙ no_version (length bs)))
      (λ e. let two : t.state ≡ 2 = omega (arith, k.known, eqb-false t.state 0 e, n) in
      let b = k.broken two in
      sym (ap (λ (ts : List Lexeme). version_from (length bs) ts) b.is ∙ broken_name (length bs) b.lexeme [] b.is_broken))

  module _ (e : t.state ≡ 1) where
    abbrev the : WholeAt bs from t slots
    the = k.whole e

    pub no_quote : (t.head ≡ 34 → ⊥) → 0 ≡ version_from (length bs) (lexemes_at bs from)
    no_quote n = sym (ap (λ (ts : List Lexeme). version_from (length bs) ts) the.is ∙ no_name_lem (length bs) the.lexeme (lexemes_at bs t.after) (ne_eqb the.lexeme.head 34 (λ q. n (the.head ∙ q))))

    module _ (q : t.head ≡ 34) (c : Token) (others : List ℕ) (j : TokenAt bs t.after c others) where
      quoted : is_byte quote the.lexeme ≡ true
      quoted = eq-eqb the.lexeme.head 34 (sym the.head ∙ q)

      with_rest : (ts : List Lexeme) → lexemes_at bs t.after ≡ ts → version_from (length bs) (lexemes_at bs from) ≡ version_from (length bs) (the.lexeme ∷ ts)
      with_rest ts r = ap (λ (us : List Lexeme). version_from (length bs) us) (the.is ∙ ap (λ (us : List Lexeme). the.lexeme ∷ us) r)

      pub no_colon_there : (c.state ≡ 1 → ⊥) → 0 ≡ version_from (length bs) (lexemes_at bs from)
      no_colon_there n =
          cases (eqb c.state 0)
          (λ z. sym (with_rest [] (j.at_end (eqb-true c.state 0 z)) ∙ no_more (length bs) the.lexeme quoted the.is_whole))
          (λ z. let two : c.state ≡ 2 = omega (arith, j.known, eqb-false c.state 0 z, n) in
          let b = j.broken two in
          sym (with_rest (b.lexeme ∷ []) b.is ∙ no_colon (length bs) the.lexeme b.lexeme [] quoted the.is_whole (scalar_no_colon b.lexeme b.is_scalar)))

      module _ (w : c.state ≡ 1) where
        abbrev mark : WholeAt bs t.after c others
        mark = j.whole w

        pub other_mark : (c.head ≡ 58 → ⊥) → 0 ≡ version_from (length bs) (lexemes_at bs from)
        other_mark n = sym (with_rest (mark.lexeme ∷ lexemes_at bs c.after) mark.is ∙ no_colon (length bs) the.lexeme mark.lexeme (lexemes_at bs c.after) quoted the.is_whole (ne_eqb mark.lexeme.head 58 (λ p. n (mark.head ∙ p))))

        pub the_member : c.head ≡ 58 → (isVersion : Bool) → isVersion ≡ is_named version_name the.lexeme → version_after (length bs) isVersion (value_from (length bs) 1 (lexemes_at bs c.after)) ≡ version_from (length bs) (lexemes_at bs from)
        the_member p isVersion i =
            ap (λ (b : Bool). version_after (length bs) b (value_from (length bs) 1 (lexemes_at bs c.after))) i
            ∙ sym (with_rest (mark.lexeme ∷ lexemes_at bs c.after) mark.is ∙ a_member (length bs) the.lexeme mark.lexeme (lexemes_at bs c.after) quoted the.is_whole (eq-eqb mark.lexeme.head 58 (sym mark.head ∙ p)))

        pub later_on : from ≤ c.after
        later_on = omega (arith, the.later, the.beyond, mark.later, mark.beyond)

-- ---- the name

long_other : (text : List ℕ) → 97 ≤ length text → same_bytes text version_name ≡ false
long_other text l = or_none (same_bytes text version_name) (longer (version_name ∷ []) text refl l)
  where
    or_none : (b : Bool) → b || false ≡ false → b ≡ false
    or_none true e = e
    or_none false e = e

told_name : (x : Option (List ℕ)) → told_of (λ text. same_bytes text version_name) false x ≡ some_with (same_bytes version_name) x
told_name none = refl
told_name (some text) = same_turned text version_name

pub name_known : (slots : List ℕ) (len : ℕ) (integer : Bool) (size : ℕ) (t : Lexeme) → is_byte quote t ≡ true → LexemeKept slots len integer size t → same_bytes (front len slots) version_name ≡ is_named version_name t
name_known slots len integer size t q k = kept_told slots len (λ text. same_bytes text version_name) false long_other (text_of t) (k.text q) ∙ told_name (text_of t)

-- what a token keeps of a name tells whether it is this one
pub is_quoted : (bs : List ℕ) (from : ℕ) (t : Token) (slots : List ℕ) (k : TokenAt bs from t slots) (e : t.state ≡ 1) → t.head ≡ 34 → same_bytes (front t.len slots) version_name ≡ is_named version_name (k.whole e).lexeme
is_quoted bs from t slots k e q =
    let w = k.whole e in
    name_known slots t.len t.integer t.magnitude w.lexeme (eq-eqb w.lexeme.head 34 (sym w.head ∙ q)) w.kept

-- ---- the loop over the members

-- where the search stands against the version of the whole file
module _ (bs : List ℕ) (t : Token) (slots : List ℕ) (k : TokenAt bs 0 t slots) where
  abbrev start_of : List Lexeme → ℕ
  start_of ts = version_at_start (length bs) ts

  pub start_other : (t.state ≡ 1 → ⊥) → 0 ≡ version_at_start (length bs) (lexemes_at bs 0)
  start_other n =
      cases (eqb t.state 0)
      (λ e. sym (ap start_of (k.at_end (eqb-true t.state 0 e))))
      (λ e. let two : t.state ≡ 2 = omega (arith, k.known, eqb-false t.state 0 e, n) in
      let b = k.broken two in
      sym (ap start_of b.is ∙ cases (is_byte 123 b.lexeme) (λ y. rw y (no_version (length bs))) (λ y. rw y refl)))

  pub start_no_brace : t.state ≡ 1 → (t.head ≡ 123 → ⊥) → 0 ≡ version_at_start (length bs) (lexemes_at bs 0)
  start_no_brace e n =
      let w = k.whole e in
      sym (ap start_of w.is ∙ ap (λ (b : Bool). cond b (version_from (length bs) (lexemes_at bs t.after)) 0) (ne_eqb w.lexeme.head 123 (λ q. n (w.head ∙ q))))

  pub begins : t.state ≡ 1 → t.head ≡ 123 → version_from (length bs) (lexemes_at bs t.after) ≡ version_at_start (length bs) (lexemes_at bs 0)
  begins e q =
      let w = k.whole e in
      sym (ap start_of w.is ∙ ap (λ (b : Bool). cond b (version_from (length bs) (lexemes_at bs t.after)) 0) (eq-eqb w.lexeme.head 123 (sym w.head ∙ q)))

-- by what a step answered
pub passes_at : {bs : List ℕ} {from version next : ℕ} {r : Passed} → r ≡ At next → Passes bs from r version → GoesOn bs from next version
passes_at {bs} {from} {version} e p = subst (λ (q : Passed). Passes bs from q version) e p

pub passes_ended : (bs : List ℕ) (from : ℕ) {version n : ℕ} {r : Passed} → r ≡ Ended n → Passes bs from r version → n ≡ version
passes_ended bs from {version} e p = subst (λ (q : Passed). Passes bs from q version) e p

-- ---- the same, of what the reader of values promises

module _ {bs : List ℕ} {version want schema base depth : ℕ} {seat r : Seat} {cells after : List ℕ} (w : Walked bs version want schema base depth seat cells r after) where
  pub value_none : (r.state ≡ 0 → ⊥) → 0 ≡ version_behind (length bs) (value_from (length bs) depth (lexemes_at bs seat.from))
  value_none n = passed_none bs version schema want base (said_by seat) cells after r (value_from (length bs) depth (lexemes_at bs seat.from)) w.is n

  pub value_whole : r.state ≡ 0 → version_behind (length bs) (value_from (length bs) depth (lexemes_at bs seat.from)) ≡ version_next (length bs) (lexemes_at bs r.from)
  value_whole z = passed_whole bs version schema want base (said_by seat) cells after r (value_from (length bs) depth (lexemes_at bs seat.from)) w.is z
