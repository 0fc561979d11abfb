-- The kind that a word stands for is that of the action that the rule lists under it, and its row is the rule's.
use Prim.Native.Nat.{ℕ, ◌≤◌}
use mathlib.Core.Path.{◌≡◌, refl, sym, ap, subst, ◌∙◌}
use mathlib.Core.Bool.{Bool, true, false, not, cond, true≢false}
use mathlib.Core.List.{List, [], ◌∷◌, map}
use mathlib.Core.Option.{Option, none, some}
use native.Mathlib.Omega.{arith}
use borrow.Author.Tests.{eqb-true, le-ltb, ltb-true, leb-true, not-false}
use borrow.Table.Steps.{cases}
use lib.Dec.{eqb, leb, ltb}
use lib.ListN.{length}
use Rattle.rules.specs.Words.{all, any, first, same_bytes, pair_up}
use Rattle.json_rule.specs.Lexemes.{Lexeme, quote}
use Rattle.json_rule.specs.Values.{text_of}
use Rattle.json_rule.specs.Shapes.{AnUpdate, Action, actions}
use Rattle.json_rule.specs.Defects.{not_published, listed_action, is_foreign, required_names}
use Rattle.json_members.specs.Kept.{front, TextKept}
use Rattle.json_members.specs.Words.{entry, number_of, kinds, action_words}
use Rattle.json_members.specs.Spots.{row_at, shape_at, name_at, spots_of, names_of, member_named}
use Rattle.json_members.specs.Rows.{action_in, action_at, span_of, through, is_foreign_at}
use Rattle.json_members.specs.Faults.{fault_of, text_fault}
use Rattle.json_members.proofs.Cases.{done, ◌&◌, by_keys}
use Rattle.json_members.proofs.Words.{no_word, ◌+++◌, is_word_of, by_words, number_told, none_longer}
use Rattle.json_members.proofs.Kept.{told_of, kept_told}
use Rattle.json_members.proofs.Names.{all_at, alike, alike_is, same_turned, row_named_lem, found}
use Rattle.json_members.proofs.Faults.{text_fault_lem, plain_fault}

-- ---- the action of a word

not_listed : (text : List ℕ) (acts : List Action) (ks : List ℕ) → length acts ≡ length ks → is_word_of (pair_up (λ (a : Action) (k : ℕ). entry a.word k) acts ks) text ≡ false → first (λ (a : Action). same_bytes a.word text) acts ≡ none
not_listed text [] ks e n = refl
not_listed text (a ∷ acts) [] e n = absurd (omega arith)
not_listed text (a ∷ acts) (k ∷ ks) e n =
    cases (same_bytes text a.word)
    (λ t. absurd (true≢false (rw t at n)))
    (λ f. rw (same_turned a.word text, f) (not_listed text acts ks (omega arith) (rw f at n)))

-- what is none of the words has no kind
no_kind_lem : (text : List ℕ) → is_word_of action_words text ≡ false → number_of 0 action_words text ≡ 0
no_kind_lem text n = eqb-true (number_of 0 action_words text) 0 (not-false (eqb (number_of 0 action_words text) 0) (number_told 0 action_words text refl ∙ n))

pub listed : (text : List ℕ) → listed_action (some text) ≡ action_at (number_of 0 action_words text)
unfolding number_of action_at
listed text =
    by_words (λ l. listed_action (some l) ≡ action_at (number_of 0 action_words l)) action_words text
    (refl +++ refl +++ refl +++ refl +++ refl +++ refl +++ refl +++ refl +++ refl +++ refl +++ refl +++ refl +++ refl +++ refl +++ refl +++ no_word)
    (λ n. not_listed text actions kinds refl n ∙ ap action_at (sym (no_kind_lem text n)))

-- ---- what is kept of an action

short_actions : (text : List ℕ) → 97 ≤ length text → number_of 0 action_words text ≡ 0
short_actions text h = none_longer 0 action_words text refl h

module _ (kept : List ℕ) (len : ℕ) where
  pub kind_kept : (x : Option (List ℕ)) → TextKept kept len x → number_of 0 action_words (front len kept) ≡ told_of (number_of 0 action_words) 0 x
  kind_kept x k = kept_told kept len (number_of 0 action_words) 0 short_actions x k

  pub action_kept : (x : Option (List ℕ)) → TextKept kept len x → listed_action x ≡ action_at (number_of 0 action_words (front len kept))
  unfolding action_at
  action_kept none k = ap action_at (sym (kind_kept none k))
  action_kept (some text) k = listed text ∙ ap action_at (sym (kind_kept (some text) k))

  -- an action that is not listed is wrong
  action_right : (x : Option (List ℕ)) → TextKept kept len x → text_fault (shape_at 3) x ≡ cond (eqb (number_of 0 action_words (front len kept)) 0) not_published 0
  unfolding row_at
  action_right none k = rw (kind_kept none k)
  action_right (some text) k = rw (kind_kept (some text) k) (told_by (eqb (number_of 0 action_words text) 0) (is_word_of action_words text) (number_told 0 action_words text refl))
    where
      told_by : (z w : Bool) → not z ≡ w → cond w 0 not_published ≡ cond z not_published 0
      told_by true w e = rw (← e)
      told_by false w e = rw (← e)

  pub action_fault : (t : Lexeme) → t.head ≡ quote → TextKept kept len (text_of t) → fault_of (shape_at 3) t ≡ cond (eqb (number_of 0 action_words (front len kept)) 0) not_published 0
  action_fault t q k = text_fault_lem t q (shape_at 3) ∙ action_right (text_of t) k

pub no_action : (t : Lexeme) → (t.head ≡ quote → ⊥) → fault_of (shape_at 3) t ≡ not_published
unfolding row_at
no_action t n = plain_fault (shape_at 3) t n refl

-- ---- the row of an action

no_action_in : (kind : ℕ) (acts : List Action) (ks : List ℕ) → any (eqb kind) ks ≡ false → action_in kind acts ks ≡ none
no_action_in kind [] ks n = refl
no_action_in kind (a ∷ acts) [] n = refl
no_action_in kind (a ∷ acts) (k ∷ ks) n =
    cases (eqb kind k) (λ t. absurd (true≢false (rw t at n))) (λ f. rw f (no_action_in kind acts ks (rw f at n)))

no_action_at : (kind : ℕ) → any (eqb kind) kinds ≡ false → action_at kind ≡ none
unfolding action_at
no_action_at kind n = no_action_in kind actions kinds n

-- the rule's rows of an action are the spots of its span
abbrev RowsFit : ℕ → Option Action → Type 0
RowsFit kind none = Unit {0}
RowsFit kind (some a) = a.rows ≡ map row_at (through (span_of kind).first (span_of kind).last)

rows_in_lem : (kind : ℕ) → RowsFit kind (action_at kind)
unfolding row_at action_at span_of
rows_in_lem kind =
    by_keys (λ k. RowsFit k (action_at k)) kinds kind
    (refl & refl & refl & refl & refl & refl & refl & refl & refl & refl & refl & refl & refl & refl & refl & done)
    (λ n. subst (RowsFit kind) (sym (no_action_at kind n)) tt)

pub rows_fit : (kind : ℕ) (a : Action) → action_at kind ≡ some a → a.rows ≡ map row_at (through (span_of kind).first (span_of kind).last)
rows_fit kind a e = subst (RowsFit kind) e (rows_in_lem kind)

-- and those up to `must` are required
abbrev MustFit : ℕ → Option Action → Type 0
MustFit kind none = Unit {0}
MustFit kind (some a) = required_names a.rows ≡ map name_at (through (span_of kind).first (span_of kind).must)

must_in : (kind : ℕ) → MustFit kind (action_at kind)
unfolding row_at action_at span_of
must_in kind =
    by_keys (λ k. MustFit k (action_at k)) kinds kind
    (refl & refl & refl & refl & refl & refl & refl & refl & refl & refl & refl & refl & refl & refl & refl & done)
    (λ n. subst (MustFit kind) (sym (no_action_at kind n)) tt)

pub must_fit : (kind : ℕ) (a : Action) → action_at kind ≡ some a → required_names a.rows ≡ map name_at (through (span_of kind).first (span_of kind).must)
must_fit kind a e = subst (MustFit kind) e (must_in kind)

-- ---- names of other actions

-- the test that the code makes, at each name of an update
abbrev agrees : ℕ → Option Action → Bool
agrees kind none = true
agrees kind (some a) = all (λ s. alike (is_foreign a (name_at s)) (is_foreign_at (span_of kind) s)) (spots_of AnUpdate)

all_agree : (kind : ℕ) → agrees kind (action_at kind) ≡ true
unfolding row_at action_at span_of is_foreign_at
all_agree kind =
    by_keys (λ k. agrees k (action_at k) ≡ true) kinds kind
    (refl & refl & refl & refl & refl & refl & refl & refl & refl & refl & refl & refl & refl & refl & refl & done)
    (λ n. ap (agrees kind) (no_action_at kind n))

-- a name is foreign to an action where its spot lies outside the row
pub foreign_told : (kind : ℕ) (a : Action) → action_at kind ≡ some a → (text : List ℕ) → is_foreign a text ≡ is_foreign_at (span_of kind) (member_named 2 text)
unfolding row_at member_named is_foreign_at
foreign_told kind a e text =
    let s = number_of 0 (names_of (spots_of AnUpdate)) text in
    let each = subst (λ (o : Option Action). agrees kind o ≡ true) e (all_agree kind) in
    cases (eqb s 0)
    (λ z. rw (row_named_lem AnUpdate text, z, eqb-true s 0 z))
    (λ z. let f = found (spots_of AnUpdate) text z in
    ap (is_foreign a) f.is
    ∙ alike_is (is_foreign a (name_at s)) (is_foreign_at (span_of kind) s) (all_at (λ r. alike (is_foreign a (name_at r)) (is_foreign_at (span_of kind) r)) (spots_of AnUpdate) s each f.member))

-- as long as no action is known nothing is foreign
pub none_foreign : (spot : ℕ) → is_foreign_at (span_of 0) spot ≡ false
unfolding span_of is_foreign_at
none_foreign spot =
    cases (ltb 3 spot)
    (λ h. cases (leb spot 23)
    (λ g. let low = ltb-true 3 spot h in rw (h, g, le-ltb spot 3 (omega arith), le-ltb 23 spot (leb-true spot 23 g)))
    (λ g. rw (h, g)))
    (λ h. rw h)
