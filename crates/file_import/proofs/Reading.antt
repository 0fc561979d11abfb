-- The whole text, by what its value comes to and by what stands behind that.
use Prim.Native.Nat.{ℕ, zero, suc}
use native.Mathlib.Omega.{arith}
use mathlib.Core.Path.{◌≡◌, refl, sym, ap, ap₂, ◌∙◌}
use mathlib.Core.Bool.{Bool, true, false, cond, true≢false}
use mathlib.Core.List.{List, [], ◌∷◌, ◌++◌, append-nil}
use mathlib.Core.Option.{Option, none, some}
use lib.Dec.{eqb}
use lib.ListN.{length}
use borrow.Table.Steps.{cases}
use borrow.Author.Tests.{eqb-true, eqb-false}
use Rattle.json_rule.specs.Lexemes.{Lexeme, lexemes}
use Rattle.json_rule.specs.Tree.{Defect, not_json, Json, Scalar, Array, Object, Members, no_member, Value, Whole, Cut, Missing, Text, text, text_of_value, stop_at}
use Rattle.json_rule.specs.Members.{members_in}
use Rattle.json_rule.specs.Defects.{least, stop_defects}
use Rattle.json_judge.specs.Refusal.{sooner}
use Rattle.json_judge.proofs.Least.{sooner_none, least_append}
use Rattle.json_tokens.specs.declared.token.Token.{Token}
use Rattle.json_tokens.specs.Tokens.{lexemes_at, TokenAt}
use Rattle.json_descent.specs.Descent.{value_from}
use Rattle.json_descent.proofs.Laws.{text_from_lem}
use Rattle.file_rule.specs.Tables.{TheFile, OfKind}
use Rattle.file_rule.specs.FileDefects.{defects}
use Rattle.file_rule.specs.Import.{skipped_in}
use Rattle.file_cells.specs.Wants.{shape_of, kind_at, stands_at_schema, record_at}
use Rattle.file_cells.specs.Filled.{filled}
use Rattle.file_walk.specs.declared.seat.Seat.{Seat}
use Rattle.file_walk.specs.Seats.{refusal_of, said_by, refused, is_before}
use Rattle.file_walk.specs.Outcomes.{Outcome, told, of_value, skipped_of, wanted_defects, Meant}
use Rattle.file_walk.proofs.Said.{said_refused}
use Rattle.file_import.specs.Reads.{tree_says, text_says, tree_fills, tree_skips, TextRead}

abbrev first_of : List Lexeme → ℕ
first_of [] = 0
first_of (t ∷ ts) = t.first

cons_none : {t : Lexeme} {ts : List Lexeme} → ◌≡◌ {A = List Lexeme} (t ∷ ts) [] → ⊥
cons_none e = true≢false (ap is_some e)
  where
    is_some : List Lexeme → Bool
    is_some [] = false
    is_some (u ∷ us) = true

-- ---- what is wanted is the file

file_shape : shape_of 100 ≡ OfKind TheFile
unfolding shape_of kind_at
file_shape = refl

file_stands : stands_at_schema 100 ≡ false
unfolding stands_at_schema
file_stands = refl

pub file_meant : Meant 100
unfolding shape_of kind_at
file_meant = record { passes = refl }

file_record : record_at 100 ≡ 0
unfolding record_at shape_of kind_at
file_record = refl

module _ (version : ℕ) where
  file_said : (x : Json) → wanted_defects version 0 100 x ≡ defects version 0 false (OfKind TheFile) x
  file_said x = rw (file_shape, file_stands) refl

  none_skipped : 0 ≡ skipped_in version no_member
  unfolding skipped_in
  none_skipped = refl

  file_skips : (x : Json) → skipped_of version 100 x ≡ skipped_in version (members_in x)
  file_skips (Scalar t) = none_skipped
  file_skips (Array place xs closed) = none_skipped
  file_skips (Object place ms closed) = rw file_record refl

  -- ---- the text that a value makes

  abbrev Reads : List ℕ → Text → Seat → List ℕ → Type 0
  Reads cells t r after = (said_by r ≡ least (text_says version t)) × (after ≡ tree_fills version t.tree cells) × (r.count ≡ tree_skips version t.tree)

  says_with : (x : Json) (ds : List Defect) → least (tree_says version (some x) ++ ds) ≡ sooner (least (wanted_defects version 0 100 x)) (least ds)
  says_with x ds = least_append (defects version 0 false (OfKind TheFile) x) ds ∙ ap (λ (l : List Defect). sooner (least l) (least ds)) (sym (file_said x))

  module _ (bs cells after : List ℕ) (s : Seat) where
    stops : (len : ℕ) (v : Value) → told bs s after ≡ of_value version 0 100 0 none cells v → (s.state ≡ 0 → ⊥) → Reads cells (text_of_value len v) s after
    stops len (Whole x ts) e n = absurd (n (ap (λ (o : Outcome). o.state) e))
    stops len (Cut x stop) e n = (
      ap (λ (o : Outcome). o.said) e ∙ ap (λ (d : Option Defect). sooner d (some stop)) (sooner_none (least (wanted_defects version 0 100 x))) ∙ sym (says_with x (stop ∷ [])),
      ap (λ (o : Outcome). o.cells) e,
      ap (λ (o : Outcome). o.count) e ∙ file_skips x,
    )
    stops len (Missing stop) e n = (ap (λ (o : Outcome). o.said) e, ap (λ (o : Outcome). o.cells) e, ap (λ (o : Outcome). o.count) e)

    zero_one : (n : ℕ) → n ≡ 0 → n ≡ 1 → ⊥
    zero_one n a b = omega (arith, a, b)

    zero_two : (n : ℕ) → n ≡ 0 → n ≡ 2 → ⊥
    zero_two n a b = omega (arith, a, b)

    rest_is : (x : Json) (ts : List Lexeme) → told bs s after ≡ of_value version 0 100 0 none cells (Whole x ts) → s.state ≡ 0 → lexemes_at bs s.from ≡ ts
    rest_is x ts e z = rw z at (ap (λ (o : Outcome). o.rest) e)

    ends : (len : ℕ) (v : Value) → told bs s after ≡ of_value version 0 100 0 none cells v → s.state ≡ 0 → lexemes_at bs s.from ≡ [] → Reads cells (text_of_value len v) s after
    ends len (Whole x []) e z none_left = (
      ap (λ (o : Outcome). o.said) e ∙ sooner_none (least (wanted_defects version 0 100 x)) ∙ sym (says_with x []),
      ap (λ (o : Outcome). o.cells) e,
      ap (λ (o : Outcome). o.count) e ∙ file_skips x,
    )
    ends len (Whole x (t ∷ ts)) e z none_left = absurd (cons_none (sym (rest_is x (t ∷ ts) e z) ∙ none_left))
    ends len (Cut x stop) e z none_left = absurd (zero_one s.state z (ap (λ (o : Outcome). o.state) e))
    ends len (Missing stop) e z none_left = absurd (zero_two s.state z (ap (λ (o : Outcome). o.state) e))

    goes_on_lem : (len : ℕ) (v : Value) (u : Lexeme) (us : List Lexeme) (r : Seat) (place : ℕ) → told bs s after ≡ of_value version 0 100 0 none cells v → s.state ≡ 0 → lexemes_at bs s.from ≡ u ∷ us
        → place ≡ u.first → r ≡ refused 27 place s → Reads cells (text_of_value len v) r after
    goes_on_lem len (Whole x []) u us r place e z more p q = absurd (cons_none (sym more ∙ rest_is x [] e z))
    goes_on_lem len (Whole x (t ∷ ts)) u us r place e z more p q =
        let same : u.first ≡ t.first = ap first_of (sym more ∙ rest_is x (t ∷ ts) e z) in (
          ap said_by q ∙ said_refused 27 place s ∙ ap₂ (λ (d : Option Defect) (n : ℕ). sooner d (some (record { place = n; number = 27 }))) (ap (λ (o : Outcome). o.said) e ∙ sooner_none (least (wanted_defects version 0 100 x))) (p ∙ same)
              ∙ sym (says_with x (stop_at len (t ∷ ts) ∷ [])),
          ap (λ (o : Outcome). o.cells) e,
          ap (λ (k : Seat). k.count) q ∙ ap (λ (o : Outcome). o.count) e ∙ file_skips x,
        )
    goes_on_lem len (Cut x stop) u us r place e z more p q = absurd (zero_one s.state z (ap (λ (o : Outcome). o.state) e))
    goes_on_lem len (Missing stop) u us r place e z more p q = absurd (zero_two s.state z (ap (λ (o : Outcome). o.state) e))

-- ---- the text of the file

pub text_read_lem : (bs : List ℕ) (version : ℕ) (cells after : List ℕ) (r : Seat) → Reads version cells (text_of_value (length bs) (value_from (length bs) 0 (lexemes_at bs 0))) r after → TextRead bs version cells r after
unfolding lexemes_at
text_read_lem bs version cells after r (a, b, c) =
    let t : text bs ≡ text_of_value (length bs) (value_from (length bs) 0 (lexemes (length bs) 0 bs)) = text_from_lem bs in
    record {
      says = a ∙ sym (ap (λ (x : Text). least (text_says version x)) t);
      fills = b ∙ sym (ap (λ (x : Text). tree_fills version x.tree cells) t);
      skips = c ∙ sym (ap (λ (x : Text). tree_skips version x.tree) t);
    }

-- ---- what stands behind the value

module _ (bs : List ℕ) (from : ℕ) (t : Token) (slots : List ℕ) (k : TokenAt bs from t slots) where
  pub record Behind : Type 0 where
    pub lexeme : Lexeme
    pub others : List Lexeme
    pub is : lexemes_at bs from ≡ lexeme ∷ others
    pub first : t.first ≡ lexeme.first

  pub something : (t.state ≡ 0 → ⊥) → Behind
  something n =
      cases (eqb t.state 1)
      (λ e. let w = k.whole (eqb-true t.state 1 e) in record { lexeme = w.lexeme; others = lexemes_at bs t.after; is = w.is; first = w.first })
      (λ e. let two : t.state ≡ 2 = omega (arith, k.known, eqb-false t.state 1 e, n) in
      let b = k.broken two in
      record { lexeme = b.lexeme; others = []; is = b.is; first = b.first })

module _ (bs : List ℕ) (version : ℕ) (cells after : List ℕ) (s : Seat)
    (e : told bs s after ≡ of_value version 0 100 0 none cells (value_from (length bs) 0 (lexemes_at bs 0))) where
  pub broken_off : (s.state ≡ 0 → ⊥) → TextRead bs version cells s after
  broken_off n = text_read_lem bs version cells after s (stops version bs cells after s (length bs) (value_from (length bs) 0 (lexemes_at bs 0)) e n)

  module _ (z : s.state ≡ 0) (t : Token) (slots : List ℕ) (k : TokenAt bs s.from t slots) where
    pub nothing_behind : t.state ≡ 0 → TextRead bs version cells s after
    nothing_behind q = text_read_lem bs version cells after s (ends version bs cells after s (length bs) (value_from (length bs) 0 (lexemes_at bs 0)) e z (k.at_end q))

    pub something_behind : (t.state ≡ 0 → ⊥) → (r : Seat) → r ≡ refused 27 t.first s → TextRead bs version cells r after
    something_behind n r q =
        let b = something bs s.from t slots k n in
        text_read_lem bs version cells after r (goes_on_lem version bs cells after s (length bs) (value_from (length bs) 0 (lexemes_at bs 0)) b.lexeme b.others r t.first e z b.is b.first q)
