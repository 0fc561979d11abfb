-- Written JSON as documents: their bytes, their trees at a place, and that reading the bytes of a document gives its tree (`document_read`).
use Prim.Native.Nat.{ℕ, zero, suc, ◌+◌, ◌*◌, ◌≤◌}
use native.Mathlib.Omega.{arith}
use mathlib.Core.Path.{◌≡◌, refl, ◌∙◌, sym, ap}
use mathlib.Core.Bool.{Bool, true, false, cond, false≢true}
use mathlib.Core.List.{List, [], ◌∷◌, ◌++◌, append_assoc, append-nil}
use mathlib.Core.Option.{none, some}
use lib.Dec.{eqb, leb}
use lib.ListN.{length, take, drop, length-append, length-drop}
use lib.Seq.{take-append_seam, drop-append_seam}
use borrow.Author.Tests.{eqb-true}
use Rattle.rules.specs.Words.{is_empty}
use Rattle.rules.proofs.Checks.{by_test}
use Rattle.json_rule.specs.Lexemes.{is_space, is_digit, Part, Ends, Breaks, part_of, Lexeme, followed, lexemes}
use Rattle.json_rule.specs.Tree.{Json, Scalar, Array, Object, Items, no_item, item, Members, no_member, member, Value, Whole, Cut, Missing, Listed, Closed, Named, ClosedBy, array_at, object_at_lem, deepest, is_scalar, is_byte, first_item, more_items, next_item, with_item, first_member, more_members, next_member, with_member, value, items, members, text_of_value, text}
use Rattle.file_rule.specs.Written.{quoted}

-- ---- documents

-- a token is a scalar as it is written
mutual
  pub data Document : Type 0 where
    Token : List ℕ → Document
    Listing : Documents → Document
    Record : Entries → Document

  pub data Documents : Type 0 where
    no_document : Documents
    document : Document → Documents → Documents

  pub data Entries : Type 0 where
    no_entry : Entries
    entry : List ℕ → Document → Entries → Entries

unfoldable mutual
  pub bytes_of : Document → List ℕ
  bytes_of (Token s) = s
  bytes_of (Listing ds) = 91 ∷ bytes_of_all ds ++ (93 ∷ [])
  bytes_of (Record es) = 123 ∷ bytes_of_entries es ++ (125 ∷ [])

  pub bytes_of_all : Documents → List ℕ
  bytes_of_all no_document = []
  bytes_of_all (document d ds) = bytes_of d ++ bytes_of_more ds

  pub bytes_of_more : Documents → List ℕ
  bytes_of_more no_document = []
  bytes_of_more (document d ds) = 44 ∷ bytes_of d ++ bytes_of_more ds

  pub bytes_of_entries : Entries → List ℕ
  bytes_of_entries no_entry = []
  bytes_of_entries (entry name d es) = quoted name ++ (58 ∷ bytes_of d ++ bytes_of_members es)

  pub bytes_of_members : Entries → List ℕ
  bytes_of_members no_entry = []
  bytes_of_members (entry name d es) = 44 ∷ quoted name ++ (58 ∷ bytes_of d ++ bytes_of_members es)

-- ---- places

abbrev pub head_of : List ℕ → ℕ
head_of [] = 0
head_of (b ∷ bs) = b

abbrev pub tail_of : List ℕ → List ℕ
tail_of [] = []
tail_of (b ∷ bs) = bs

-- a token that stands at a place
abbrev pub lexeme_of : ℕ → List ℕ → Lexeme
lexeme_of place s = record { head = head_of s; body = tail_of s; first = place; whole = true; stop = 0 }

-- the place behind it
pub past : ℕ → List ℕ → ℕ
past place s = suc place + length (tail_of s)

mutual
  pub behind : ℕ → Document → ℕ
  behind place (Token s) = past place s
  behind place (Listing ds) = past (behind_all (past place (91 ∷ [])) ds) (93 ∷ [])
  behind place (Record es) = past (behind_entries (past place (123 ∷ [])) es) (125 ∷ [])

  pub behind_all : ℕ → Documents → ℕ
  behind_all place no_document = place
  behind_all place (document d ds) = behind_more (behind place d) ds

  pub behind_more : ℕ → Documents → ℕ
  behind_more place no_document = place
  behind_more place (document d ds) = behind_more (behind (past place (44 ∷ [])) d) ds

  pub behind_entries : ℕ → Entries → ℕ
  behind_entries place no_entry = place
  behind_entries place (entry name d es) = behind_members (behind (past (past place (quoted name)) (58 ∷ [])) d) es

  pub behind_members : ℕ → Entries → ℕ
  behind_members place no_entry = place
  behind_members place (entry name d es) = behind_members (behind (past (past (past place (44 ∷ [])) (quoted name)) (58 ∷ [])) d) es

-- ---- trees

unfoldable mutual
  pub tree_at : ℕ → Document → Json
  tree_at place (Token s) = Scalar (lexeme_of place s)
  tree_at place (Listing ds) = Array place (items_at (past place (91 ∷ [])) ds) true
  tree_at place (Record es) = Object place (members_at (past place (123 ∷ [])) es) true

  pub items_at : ℕ → Documents → Items
  items_at place no_document = no_item
  items_at place (document d ds) = item (tree_at place d) (items_at (past (behind place d) (44 ∷ [])) ds)

  pub members_at : ℕ → Entries → Members
  members_at place no_entry = no_member
  members_at place (entry name d es) = member (lexeme_of place (quoted name)) (tree_at (past (past place (quoted name)) (58 ∷ [])) d) (members_at (past (behind (past (past place (quoted name)) (58 ∷ [])) d) (44 ∷ [])) es)

-- ---- lexemes

-- the lexemes of bytes that begin at a place
pub lexed : ℕ → List ℕ → List Lexeme
lexed place bs = lexemes (length bs) place bs

-- as many steps as there are bytes are enough
steps_enough : (n m place : ℕ) (bs : List ℕ) → length bs ≤ n → length bs ≤ m → lexemes n place bs ≡ lexemes m place bs
unfolding lexemes
steps_enough zero zero place bs h k = refl
steps_enough zero (suc m) place [] h k = refl
steps_enough zero (suc m) place (b ∷ bs) h k = absurd (omega arith)
steps_enough (suc n) zero place [] h k = refl
steps_enough (suc n) zero place (b ∷ bs) h k = absurd (omega arith)
steps_enough (suc n) (suc m) place [] h k = refl
steps_enough (suc n) (suc m) place (b ∷ bs) h k =
    ap (λ x. cond (is_space b) x (followed b bs place (λ next rest. lexemes n next rest) (part_of b bs))) (steps_enough n m (suc place) bs (omega arith) (omega arith))
    ∙ ap (λ x. cond (is_space b) (lexemes m (suc place) bs) x) (parted (λ next rest u v. steps_enough n m next rest u v) (part_of b bs))
  where
    parted : ((next : ℕ) (rest : List ℕ) → length rest ≤ n → length rest ≤ m → lexemes n next rest ≡ lexemes m next rest)
        → (p : Part) → followed b bs place (λ next rest. lexemes n next rest) p ≡ followed b bs place (λ next rest. lexemes m next rest) p
    parted again (Ends e) =
        ap (λ x. record { head = b; body = take e bs; first = place; whole = true; stop = 0 } ∷ x) (again (suc place + e) (drop e bs) (omega (arith, length-drop e bs)) (omega (arith, length-drop e bs)))
    parted again (Breaks e) = refl

-- what may follow a token: the end, or a mark
pub data Ending : List ℕ → Type 0 where
  at_end : Ending []
  a_comma : (rest : List ℕ) → Ending (44 ∷ rest)
  a_colon : (rest : List ℕ) → Ending (58 ∷ rest)
  a_bracket : (rest : List ℕ) → Ending (93 ∷ rest)
  a_brace : (rest : List ℕ) → Ending (125 ∷ rest)

-- these bytes are one lexeme
pub record OneLexeme (s : List ℕ) : Type 0 where
  pub begins : is_empty s ≡ false
  pub no_space : is_space (head_of s) ≡ false
  pub ends : (rest : List ℕ) → Ending rest → part_of (head_of s) (tail_of s ++ rest) ≡ Ends (length (tail_of s))

lexed_one : (s rest : List ℕ) (place : ℕ) → OneLexeme s → Ending rest → lexed place (s ++ rest) ≡ lexeme_of place s ∷ lexed (past place s) rest
unfolding lexed lexemes past
lexed_one [] rest place one e = absurd (false≢true (sym one.begins))
lexed_one (b ∷ bs) rest place one e =
    rw (one.no_space, one.ends rest e, take-append_seam bs rest, drop-append_seam bs rest)
    (ap (λ x. lexeme_of place (b ∷ bs) ∷ x) (steps_enough (length (bs ++ rest)) (length rest) (suc place + length bs) rest (omega (arith, length-append bs rest)) (omega arith)))

-- a mark is a lexeme, whatever follows
data Mark : ℕ → Type 0 where
  opens_list : Mark 91
  closes_list : Mark 93
  opens_object : Mark 123
  closes_object : Mark 125
  comma : Mark 44
  colon : Mark 58

lexed_mark : {c : ℕ} (m : Mark c) (rest : List ℕ) (place : ℕ) → lexed place (c ∷ rest) ≡ lexeme_of place (c ∷ []) ∷ lexed (past place (c ∷ [])) rest
unfolding lexed lexemes past is_space is_digit part_of
lexed_mark opens_list rest place = refl
lexed_mark closes_list rest place = refl
lexed_mark opens_object rest place = refl
lexed_mark closes_object rest place = refl
lexed_mark comma rest place = refl
lexed_mark colon rest place = refl

-- ---- documents that can be read

-- every token and every name is one lexeme, and no bracket is nested too deep
abbrev mutual
  pub Good : ℕ → Document → Type 0
  Good depth (Token s) = OneLexeme s × (is_scalar (lexeme_of 0 s) ≡ true) × (eqb (head_of s) 91 ≡ false) × (eqb (head_of s) 123 ≡ false)
  Good depth (Listing ds) = (leb deepest depth ≡ false) × GoodAll (suc depth) ds
  Good depth (Record es) = (leb deepest depth ≡ false) × GoodEntries (suc depth) es

  pub GoodAll : ℕ → Documents → Type 0
  GoodAll depth no_document = Unit {0}
  GoodAll depth (document d ds) = Good depth d × GoodAll depth ds

  pub GoodEntries : ℕ → Entries → Type 0
  GoodEntries depth no_entry = Unit {0}
  GoodEntries depth (entry name d es) = OneLexeme (quoted name) × Good depth d × GoodEntries depth es

-- the steps that reading one takes
abbrev mutual
  cost : Document → ℕ
  cost (Token s) = 1
  cost (Listing ds) = suc (cost_all ds)
  cost (Record es) = suc (cost_entries es)

  cost_all : Documents → ℕ
  cost_all no_document = 0
  cost_all (document d ds) = suc (cost d + cost_all ds)

  cost_entries : Entries → ℕ
  cost_entries no_entry = 0
  cost_entries (entry name d es) = suc (cost d + cost_entries es)

-- ---- reading

more_ending : (ds : Documents) (rest : List ℕ) → Ending (bytes_of_more ds ++ (93 ∷ rest))
unfolding bytes_of_more
more_ending no_document rest = a_bracket rest
more_ending (document d ds) rest = a_comma ((bytes_of d ++ bytes_of_more ds) ++ (93 ∷ rest))

members_ending : (es : Entries) (rest : List ℕ) → Ending (bytes_of_members es ++ (125 ∷ rest))
unfolding bytes_of_members
members_ending no_entry rest = a_brace rest
members_ending (entry name d es) rest = a_comma ((quoted name ++ (58 ∷ bytes_of d ++ bytes_of_members es)) ++ (125 ∷ rest))

-- the bytes of a member, with what follows
member_bytes : (name value more rest : List ℕ) → (name ++ (58 ∷ value ++ more)) ++ rest ≡ name ++ (58 ∷ value ++ (more ++ rest))
member_bytes name value more rest = append_assoc name (58 ∷ value ++ more) rest ∙ ap (λ x. name ++ (58 ∷ x)) (append_assoc value more rest)

-- a name and its colon
lexed_name : (name rest : List ℕ) (place : ℕ) → OneLexeme name → lexed place (name ++ (58 ∷ rest)) ≡ lexeme_of place name ∷ lexeme_of (past place name) (58 ∷ []) ∷ lexed (past (past place name) (58 ∷ [])) rest
lexed_name name rest place one =
    lexed_one name (58 ∷ rest) place one (a_colon rest) ∙ ap (λ x. lexeme_of place name ∷ x) (lexed_mark colon rest (past place name))

abbrev is_whole : Value → Bool
is_whole (Whole x ts) = true
is_whole (Cut x d) = false
is_whole (Missing d) = false

module _ (len : ℕ) where
  -- a list that begins with a value is not closed at once
  begins_value : (again : List Lexeme → Listed) (steps depth : ℕ) (ts us : List Lexeme) (x : Json) → value len steps depth ts ≡ Whole x us → first_item len again ts ≡ again ts
  unfolding value is_scalar is_digit
  begins_value again zero depth ts us x e = absurd (false≢true (ap is_whole e))
  begins_value again (suc steps) depth [] us x e = refl
  begins_value again (suc steps) depth (t ∷ ts) us x e =
      by_test (λ v. v ≡ again (t ∷ ts)) (is_byte 93 t) (λ p. absurd (false≢true (ap is_whole (rw (eqb-true t.head 93 p) at e)))) (λ p. refl)

  token_reads : (t : Lexeme) (ts : List Lexeme) (steps depth : ℕ) → is_scalar (record { head = t.head; body = t.body; first = 0; whole = true; stop = 0 }) ≡ true → eqb t.head 91 ≡ false → eqb t.head 123 ≡ false → t.whole ≡ true
      → value len (suc steps) depth (t ∷ ts) ≡ Whole (Scalar t) ts
  unfolding value is_scalar
  token_reads t ts steps depth s a b w = rw (a, b, s, w)

  begins_quote : (again : List Lexeme → Named) (t : Lexeme) (ts : List Lexeme) → eqb t.head 34 ≡ true → first_member len again (t ∷ ts) ≡ again (t ∷ ts)
  begins_quote again t ts q = by_test (λ v. v ≡ again (t ∷ ts)) (is_byte 125 t) (λ p. absurd (false≢true (rw (eqb-true t.head 125 p) at q))) (λ p. refl)

  begins_name : (again : List Lexeme → Named) (name inside more : List ℕ) (place : ℕ) → OneLexeme name → eqb (head_of name) 34 ≡ true
      → first_member len again (lexed place ((name ++ (58 ∷ inside)) ++ more)) ≡ again (lexed place ((name ++ (58 ∷ inside)) ++ more))
  begins_name again name inside more place one q =
      ap (λ ts. first_member len again ts) same
      ∙ begins_quote again (lexeme_of place name) (lexeme_of (past place name) (58 ∷ []) ∷ lexed (past (past place name) (58 ∷ [])) (inside ++ more)) q
      ∙ ap again (sym same)
    where
      same : lexed place ((name ++ (58 ∷ inside)) ++ more) ≡ lexeme_of place name ∷ lexeme_of (past place name) (58 ∷ []) ∷ lexed (past (past place name) (58 ∷ [])) (inside ++ more)
      same = ap (λ x. lexed place x) (append_assoc name (58 ∷ inside) more) ∙ lexed_name name (inside ++ more) place one

  abbrev Reads : Document → Type 0
  Reads d =
      (steps depth place : ℕ) (rest : List ℕ) → Good depth d → Ending rest → cost d ≤ steps
      → value len steps depth (lexed place (bytes_of d ++ rest)) ≡ Whole (tree_at place d) (lexed (behind place d) rest)

  abbrev ReadsMore : Documents → Type 0
  ReadsMore ds =
      (steps depth place : ℕ) (rest : List ℕ) → GoodAll depth ds → cost_all ds ≤ steps
      → more_items len (λ us. items len steps depth us) (lexed place (bytes_of_more ds ++ (93 ∷ rest))) ≡ Closed (items_at (past place (44 ∷ [])) ds) (lexed (past (behind_more place ds) (93 ∷ [])) rest)

  abbrev ReadsMembers : Entries → Type 0
  ReadsMembers es =
      (steps depth place : ℕ) (rest : List ℕ) → GoodEntries depth es → cost_entries es ≤ steps
      → more_members len (λ us. members len steps depth us) (lexed place (bytes_of_members es ++ (125 ∷ rest))) ≡ ClosedBy (members_at (past place (44 ∷ [])) es) (lexed (past (behind_members place es) (125 ∷ [])) rest)

  items_read : (d : Document) (ds : Documents) → Reads d → ReadsMore ds → (steps depth place : ℕ) (rest : List ℕ) → Good depth d → GoodAll depth ds → suc (cost d + cost_all ds) ≤ steps
      → items len steps depth (lexed place ((bytes_of d ++ bytes_of_more ds) ++ (93 ∷ rest))) ≡ Closed (items_at place (document d ds)) (lexed (past (behind_more (behind place d) ds) (93 ∷ [])) rest)
  unfolding value items_at
  items_read d ds r m zero depth place rest g k h = absurd (omega arith)
  items_read d ds r m (suc steps) depth place rest g k h =
      ap (λ x. items len (suc steps) depth (lexed place x)) (append_assoc (bytes_of d) (bytes_of_more ds) (93 ∷ rest))
      ∙ ap (λ v. next_item len (λ us. items len steps depth us) v) (r steps depth place (bytes_of_more ds ++ (93 ∷ rest)) g (more_ending ds rest) (omega arith))
      ∙ ap (λ v. with_item (tree_at place d) v) (m steps depth (behind place d) rest k (omega arith))

  members_read_lem : (name : List ℕ) (d : Document) (es : Entries) → Reads d → ReadsMembers es → (steps depth place : ℕ) (rest : List ℕ) → GoodEntries depth (entry name d es) → suc (cost d + cost_entries es) ≤ steps
      → members len steps depth (lexed place ((quoted name ++ (58 ∷ bytes_of d ++ bytes_of_members es)) ++ (125 ∷ rest)))
      ≡ ClosedBy (members_at place (entry name d es)) (lexed (past (behind_members (behind (past (past place (quoted name)) (58 ∷ [])) d) es) (125 ∷ [])) rest)
  unfolding value members_at quoted
  members_read_lem name d es r m zero depth place rest g h = absurd (omega arith)
  members_read_lem name d es r m (suc steps) depth place rest g h =
      ap (λ x. members len (suc steps) depth (lexed place x)) (member_bytes (quoted name) (bytes_of d) (bytes_of_members es) (125 ∷ rest))
      ∙ ap (λ x. members len (suc steps) depth x) (lexed_name (quoted name) (bytes_of d ++ (bytes_of_members es ++ (125 ∷ rest))) place g.0)
      ∙ (ap (λ v. next_member len (lexeme_of place (quoted name)) (λ us. members len steps depth us) v) (r steps depth inner (bytes_of_members es ++ (125 ∷ rest)) g.1 (members_ending es rest) (omega arith))
      ∙ ap (λ v. with_member (lexeme_of place (quoted name)) (tree_at inner d) v) (m steps depth (behind inner d) rest g.2 (omega arith)))
    where
      inner : ℕ
      inner = past (past place (quoted name)) (58 ∷ [])

  mutual
    unfolding value bytes_of tree_at behind quoted

    document_reads : (d : Document) → Reads d
    document_reads (Token s) zero depth place rest g e h = absurd (omega arith)
    document_reads (Token s) (suc steps) depth place rest g e h =
        ap (λ ts. value len (suc steps) depth ts) (lexed_one s rest place g.0 e) ∙ token_reads (lexeme_of place s) (lexed (past place s) rest) steps depth g.1 g.2 g.3 refl
    document_reads (Listing ds) zero depth place rest g e h = absurd (omega arith)
    document_reads (Listing ds) (suc steps) depth place rest g e h =
        ap (λ x. value len (suc steps) depth (lexed place (91 ∷ x))) (append_assoc (bytes_of_all ds) (93 ∷ []) rest)
        ∙ ap (λ ts. value len (suc steps) depth ts) (lexed_mark opens_list (bytes_of_all ds ++ (93 ∷ rest)) place)
        ∙ rw g.0 (ap (λ l. array_at place l) (all_reads ds steps (suc depth) (past place (91 ∷ [])) rest g.1 (omega arith)))
    document_reads (Record es) zero depth place rest g e h = absurd (omega arith)
    document_reads (Record es) (suc steps) depth place rest g e h =
        ap (λ x. value len (suc steps) depth (lexed place (123 ∷ x))) (append_assoc (bytes_of_entries es) (125 ∷ []) rest)
        ∙ ap (λ ts. value len (suc steps) depth ts) (lexed_mark opens_object (bytes_of_entries es ++ (125 ∷ rest)) place)
        ∙ rw g.0 (ap (λ l. object_at_lem place l) (entries_read_lem es steps (suc depth) (past place (123 ∷ [])) rest g.1 (omega arith)))

    all_reads : (ds : Documents) (steps depth place : ℕ) (rest : List ℕ) → GoodAll depth ds → cost_all ds ≤ steps
        → first_item len (λ us. items len steps depth us) (lexed place (bytes_of_all ds ++ (93 ∷ rest))) ≡ Closed (items_at place ds) (lexed (past (behind_all place ds) (93 ∷ [])) rest)
    all_reads no_document steps depth place rest g h = ap (λ ts. first_item len (λ us. items len steps depth us) ts) (lexed_mark closes_list rest place)
    all_reads (document d ds) steps depth place rest g h =
        begins_value (λ us. items len steps depth us) steps depth (lexed place ((bytes_of d ++ bytes_of_more ds) ++ (93 ∷ rest))) (lexed (behind place d) (bytes_of_more ds ++ (93 ∷ rest))) (tree_at place d)
        (ap (λ x. value len steps depth (lexed place x)) (append_assoc (bytes_of d) (bytes_of_more ds) (93 ∷ rest)) ∙ document_reads d steps depth place (bytes_of_more ds ++ (93 ∷ rest)) g.0 (more_ending ds rest) (omega arith))
        ∙ items_read d ds (λ s p a r k e m. document_reads d s p a r k e m) (λ s p a r k m. more_reads ds s p a r k m) steps depth place rest g.0 g.1 h

    more_reads : (ds : Documents) → ReadsMore ds
    more_reads no_document steps depth place rest g h = ap (λ ts. more_items len (λ us. items len steps depth us) ts) (lexed_mark closes_list rest place)
    more_reads (document d ds) steps depth place rest g h =
        ap (λ ts. more_items len (λ us. items len steps depth us) ts) (lexed_mark comma ((bytes_of d ++ bytes_of_more ds) ++ (93 ∷ rest)) place)
        ∙ items_read d ds (λ s p a r k e m. document_reads d s p a r k e m) (λ s p a r k m. more_reads ds s p a r k m) steps depth (past place (44 ∷ [])) rest g.0 g.1 h

    entries_read_lem : (es : Entries) (steps depth place : ℕ) (rest : List ℕ) → GoodEntries depth es → cost_entries es ≤ steps
        → first_member len (λ us. members len steps depth us) (lexed place (bytes_of_entries es ++ (125 ∷ rest))) ≡ ClosedBy (members_at place es) (lexed (past (behind_entries place es) (125 ∷ [])) rest)
    entries_read_lem no_entry steps depth place rest g h = ap (λ ts. first_member len (λ us. members len steps depth us) ts) (lexed_mark closes_object rest place)
    entries_read_lem (entry name d es) steps depth place rest g h =
        begins_name (λ us. members len steps depth us) (quoted name) (bytes_of d ++ bytes_of_members es) (125 ∷ rest) place g.0 refl
        ∙ members_read_lem name d es (λ s p a r k e m. document_reads d s p a r k e m) (λ s p a r k m. members_reads es s p a r k m) steps depth place rest g h

    members_reads : (es : Entries) → ReadsMembers es
    members_reads no_entry steps depth place rest g h = ap (λ ts. more_members len (λ us. members len steps depth us) ts) (lexed_mark closes_object rest place)
    members_reads (entry name d es) steps depth place rest g h =
        ap (λ ts. more_members len (λ us. members len steps depth us) ts) (lexed_mark comma ((quoted name ++ (58 ∷ bytes_of d ++ bytes_of_members es)) ++ (125 ∷ rest)) place)
        ∙ members_read_lem name d es (λ s p a r k e m. document_reads d s p a r k e m) (λ s p a r k m. members_reads es s p a r k m) steps depth (past place (44 ∷ [])) rest g h

-- ---- enough steps

-- two for each lexeme, and one is left
abbrev Counts : Document → Type 0
Counts d = (depth place : ℕ) (rest : List ℕ) → Good depth d → Ending rest → suc (cost d) + 2 * length (lexed (behind place d) rest) ≤ 2 * length (lexed place (bytes_of d ++ rest))

mutual
  unfolding bytes_of behind

  document_counts : (d : Document) → Counts d
  document_counts (Token s) depth place rest g e = omega (arith, ap length (lexed_one s rest place g.0 e))
  document_counts (Listing ds) depth place rest g e =
      omega (arith, ap (λ x. length (lexed place (91 ∷ x))) (append_assoc (bytes_of_all ds) (93 ∷ []) rest), ap length (lexed_mark opens_list (bytes_of_all ds ++ (93 ∷ rest)) place), all_counts ds (suc depth) (past place (91 ∷ [])) rest g.1)
  document_counts (Record es) depth place rest g e =
      omega (arith, ap (λ x. length (lexed place (123 ∷ x))) (append_assoc (bytes_of_entries es) (125 ∷ []) rest), ap length (lexed_mark opens_object (bytes_of_entries es ++ (125 ∷ rest)) place), entries_count es (suc depth) (past place (123 ∷ [])) rest g.1)

  all_counts : (ds : Documents) (depth place : ℕ) (rest : List ℕ) → GoodAll depth ds → cost_all ds + 2 * length (lexed (past (behind_all place ds) (93 ∷ [])) rest) ≤ 2 * length (lexed place (bytes_of_all ds ++ (93 ∷ rest)))
  all_counts no_document depth place rest g = omega (arith, ap length (lexed_mark closes_list rest place))
  all_counts (document d ds) depth place rest g =
      omega (arith, ap (λ x. length (lexed place x)) (append_assoc (bytes_of d) (bytes_of_more ds) (93 ∷ rest)), document_counts d depth place (bytes_of_more ds ++ (93 ∷ rest)) g.0 (more_ending ds rest), more_counts ds depth (behind place d) rest g.1)

  more_counts : (ds : Documents) (depth place : ℕ) (rest : List ℕ) → GoodAll depth ds → cost_all ds + 2 * length (lexed (past (behind_more place ds) (93 ∷ [])) rest) ≤ 2 * length (lexed place (bytes_of_more ds ++ (93 ∷ rest)))
  more_counts no_document depth place rest g = omega (arith, ap length (lexed_mark closes_list rest place))
  more_counts (document d ds) depth place rest g =
      let p = past place (44 ∷ []) in
      omega (arith, ap length (lexed_mark comma ((bytes_of d ++ bytes_of_more ds) ++ (93 ∷ rest)) place), ap (λ x. length (lexed p x)) (append_assoc (bytes_of d) (bytes_of_more ds) (93 ∷ rest)), document_counts d depth p (bytes_of_more ds ++ (93 ∷ rest)) g.0 (more_ending ds rest), more_counts ds depth (behind p d) rest g.1)

  entries_count : (es : Entries) (depth place : ℕ) (rest : List ℕ) → GoodEntries depth es → cost_entries es + 2 * length (lexed (past (behind_entries place es) (125 ∷ [])) rest) ≤ 2 * length (lexed place (bytes_of_entries es ++ (125 ∷ rest)))
  entries_count no_entry depth place rest g = omega (arith, ap length (lexed_mark closes_object rest place))
  entries_count (entry name d es) depth place rest g =
      let p = past (past place (quoted name)) (58 ∷ []) in
      omega (arith, ap (λ x. length (lexed place x)) (member_bytes (quoted name) (bytes_of d) (bytes_of_members es) (125 ∷ rest)), ap length (lexed_name (quoted name) (bytes_of d ++ (bytes_of_members es ++ (125 ∷ rest))) place g.0), document_counts d depth p (bytes_of_members es ++ (125 ∷ rest)) g.1 (members_ending es rest), members_count_lem es depth (behind p d) rest g.2)

  members_count_lem : (es : Entries) (depth place : ℕ) (rest : List ℕ) → GoodEntries depth es → cost_entries es + 2 * length (lexed (past (behind_members place es) (125 ∷ [])) rest) ≤ 2 * length (lexed place (bytes_of_members es ++ (125 ∷ rest)))
  members_count_lem no_entry depth place rest g = omega (arith, ap length (lexed_mark closes_object rest place))
  members_count_lem (entry name d es) depth place rest g =
      let q = past place (44 ∷ []) in
      let p = past (past q (quoted name)) (58 ∷ []) in
      omega (arith, ap length (lexed_mark comma ((quoted name ++ (58 ∷ bytes_of d ++ bytes_of_members es)) ++ (125 ∷ rest)) place), ap (λ x. length (lexed q x)) (member_bytes (quoted name) (bytes_of d) (bytes_of_members es) (125 ∷ rest)), ap length (lexed_name (quoted name) (bytes_of d ++ (bytes_of_members es ++ (125 ∷ rest))) q g.0), document_counts d depth p (bytes_of_members es ++ (125 ∷ rest)) g.1 (members_ending es rest), members_count_lem es depth (behind p d) rest g.2)

nothing_left : (place : ℕ) → lexed place [] ≡ []
unfolding lexed lexemes
nothing_left place = refl

-- the text of a document is read as its tree, and nothing stops it
pub document_read : (d : Document) → Good 0 d → text (bytes_of d) ≡ record { tree = some (tree_at 0 d); stop = none }
unfolding text lexed
document_read d g =
    ap (λ v. text_of_value (length (bytes_of d)) v)
    (ap (λ x. value (length (bytes_of d)) (2 * length (lexed 0 (bytes_of d)) + 1) 0 (lexed 0 x)) (sym (append-nil (bytes_of d)))
    ∙ document_reads (length (bytes_of d)) d (2 * length (lexed 0 (bytes_of d)) + 1) 0 0 [] g at_end
    (omega (arith, document_counts d 0 0 [] g at_end, ap (λ x. length (lexed 0 x)) (append-nil (bytes_of d))))
    ∙ ap (λ ts. Whole (tree_at 0 d) ts) (nothing_left (behind 0 d)))
