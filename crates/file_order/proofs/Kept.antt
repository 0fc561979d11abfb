-- What members in another order say of a record is the same.
use Prim.Native.Nat.{ℕ}
use mathlib.Core.Path.{◌≡◌, refl, sym, ap, ◌∙◌}
use mathlib.Core.Bool.{Bool, true, false, cond, not, ◌||◌, false≢true, true≢false}
use mathlib.Core.List.{List, [], ◌∷◌}
use mathlib.Core.Option.{Option, none, some, none-ne-some, some-injective}
use lib.Dec.{leb}
use borrow.Table.Steps.{cases}
use borrow.Author.Tests.{not-true}
use Rattle.rules.specs.Words.{is_some, some_with, same_bytes}
use Rattle.rules.proofs.Checks.{or_left}
use Rattle.rules.proofs.Orders.{names_told_lem}
use Rattle.json_rule.specs.Lexemes.{Lexeme}
use Rattle.json_rule.specs.Values.{text_of}
use Rattle.json_rule.specs.Tree.{over_capacity, Json, Array, Items, Members, no_member, bare_name, member}
use Rattle.json_rule.specs.Members.{is_one_of, is_named, value_of, members_in}
use Rattle.json_rule.specs.Records.{records_of}
use Rattle.json_rule.specs.Defects.{unless, with_name, count_of}
use Rattle.file_rule.specs.Tables.{FileKind, FileShape, Several, OfKind, Published, rows_in}
use Rattle.file_rule.specs.FileDefects.{published_as, skips_unknown, missing_defects, schema_place, defects, item_defects, member_defects}
use Rattle.file_spacing.proofs.Said.{text_at, number_at, items_at}
use Rattle.file_order.specs.Order.{Turned, in_array, in_object, TurnedItems, in_item, behind_item, TurnedMembers, turned, in_member, behind_member}
use Rattle.file_order.proofs.Names.{name_test, new_row}
use Rattle.file_order.proofs.Turning.{no_both, said_of, Right, member_right}

-- ---- the value of a name

-- the same, or with members in another order
pub data Near : Option Json → Option Json → Type 0 where
  alike : {o : Option Json} → Near o o
  near : {x y : Json} → Turned x y → Near (some x) (some y)

pub text_near : {o p : Option Json} → Near o p → text_at o ≡ text_at p
text_near alike = refl
text_near (near (in_array h)) = refl
text_near (near (in_object h)) = refl

pub number_near : {o p : Option Json} → Near o p → number_at o ≡ number_at p
number_near alike = refl
number_near (near (in_array h)) = refl
number_near (near (in_object h)) = refl

pub has_near : {o p : Option Json} → Near o p → is_some o ≡ is_some p
has_near alike = refl
has_near (near h) = refl

-- a name that is said is the name
pub named_is : (w : List ℕ) (o : Option (List ℕ)) → some_with (same_bytes w) o ≡ true → o ≡ some w
named_is w none e = absurd (false≢true e)
named_is w (some a) e = ap some (sym (names_told_lem.equal w a e))

-- a name that is published, or stands where none is skipped
abbrev pub asked : FileKind → List Published → List ℕ → Bool
asked kind rows w = is_some (published_as w rows) || not (skips_unknown kind)

-- stands once
named_twice : (kind : FileKind) (rows : List Published) (seen : List (List ℕ)) (w : List ℕ) → asked kind rows w ≡ true → name_test kind rows (with_name seen (some w)) (some w) ≡ true → ⊥
named_twice kind rows seen w a e =
    cases (is_some (published_as w rows))
    (λ s. let n : not (is_one_of (w ∷ seen) w) ≡ true = rw s at e in
    true≢false (sym (or_left (is_one_of seen w) (names_told_lem.itself w)) ∙ not-true (is_one_of (w ∷ seen) w) n))
    (λ s. let k : skips_unknown kind ≡ true = rw s at e in let n : not (skips_unknown kind) ≡ true = rw s at a in
    true≢false (sym k ∙ not-true (skips_unknown kind) n))

module _ (version schema : ℕ) (kind : FileKind) (rows : List Published) (w : List ℕ) (a : asked kind rows w ≡ true) where
  two_near : (seen : List (List ℕ)) (t u : Lexeme) (x y : Json) (ms : Members) → member_defects version schema kind rows seen (member t x (member u y ms)) ≡ []
      → Near (value_of w (member t x (member u y ms))) (value_of w (member u y (member t x ms)))
  two_near seen t u x y ms e =
      cases (is_named w t)
      (λ p. cases (is_named w u)
      (λ q. absurd (twice p q))
      (λ q. rw (p, q) alike))
      (λ p. cases (is_named w u) (λ q. rw (p, q) alike) (λ q. rw (p, q) alike))
    where
      twice : is_named w t ≡ true → is_named w u ≡ true → ⊥
      twice p q =
          let r : Right version schema kind rows seen t x (member u y ms) = member_right version schema kind rows seen t x (member u y ms) e in
          let s : Right version schema kind rows (with_name seen (text_of t)) u y ms = member_right version schema kind rows (with_name seen (text_of t)) u y ms r.others in
          named_twice kind rows seen w a (sym (λ i. name_test kind rows (with_name seen (named_is w (text_of t) p i)) (named_is w (text_of u) q i)) ∙ s.name)

  either_near : (b : Bool) (x y : Json) (o p : Option Json) → Near (some x) (some y) → Near o p → Near (cond b (some x) o) (cond b (some y) p)
  either_near true x y o p h k = h
  either_near false x y o p h k = k

  pub value_near : {ms ns : Members} → TurnedMembers ms ns → (seen : List (List ℕ)) → member_defects version schema kind rows seen ms ≡ [] → Near (value_of w ms) (value_of w ns)
  value_near (turned {t = t} {u = u} {x = x} {y = y} {ms = ms}) seen e = two_near seen t u x y ms e
  value_near (in_member {t = t} {x = x} {y = y} {ms = ms} h) seen e = either_near (is_named w t) x y (value_of w ms) (value_of w ms) (near h) alike
  value_near (behind_member {t = t} {x = x} {ms = ms} {ns = ns} h) seen e =
      either_near (is_named w t) x x (value_of w ms) (value_of w ns) alike (value_near h (with_name seen (text_of t)) (member_right version schema kind rows seen t x ms e).others)

-- ---- a value that is right

-- the row of a name, and what its value is to be
pub record RowShape (rows : List Published) (w : List ℕ) (shape : FileShape) : Type 0 where
  pub row : Published
  pub found : published_as w rows ≡ some row
  pub is : row.shape ≡ shape

not_named : (w : List ℕ) (o : Option (List ℕ)) (seen : List (List ℕ)) → some_with (same_bytes w) o ≡ false → is_one_of seen w ≡ false → is_one_of (with_name seen o) w ≡ false
not_named w none seen e h = h
not_named w (some a) seen e h = rw (e, h)

-- the first value of a published name is right
pub value_said_lem : (version schema : ℕ) (kind : FileKind) (rows : List Published) (w : List ℕ) (r : Published) → published_as w rows ≡ some r → (ms : Members) (seen : List (List ℕ)) → member_defects version schema kind rows seen ms ≡ []
    → is_one_of seen w ≡ false → (x : Json) → value_of w ms ≡ some x → defects version schema r.of_schema r.shape x ≡ []
value_said_lem version schema kind rows w r f no_member seen e n x v = absurd (none-ne-some x v)
value_said_lem version schema kind rows w r f (bare_name t) seen e n x v = absurd (none-ne-some x v)
value_said_lem version schema kind rows w r f (member t y ms) seen e n x v =
    cases (is_named w t)
    (λ p. let q : y ≡ x = some-injective y x (rw p at v) in
    ap (λ (z : Json). defects version schema r.of_schema r.shape z) (sym q)
    ∙ sym (ap (λ (o : Option Published). said_of version schema o y) (ap (λ (o : Option (List ℕ)). new_row rows seen o) (named_is w (text_of t) p) ∙ ap (λ (b : Bool). cond b none (published_as w rows)) n ∙ f))
    ∙ s.value)
    (λ p. value_said_lem version schema kind rows w r f ms (with_name seen (text_of t)) s.others (not_named w (text_of t) seen p n) x (rw p at v))
  where
    s : Right version schema kind rows seen t y ms
    s = member_right version schema kind rows seen t y ms e

-- ---- records

-- what is made of members stays in another order, where nothing is wrong with them
abbrev pub Good : {A : Type 0} → ℕ → FileKind → (Members → A) → Type 0
Good version kind make = (ms ns : Members) → TurnedMembers ms ns → (schema : ℕ) → member_defects version schema kind (rows_in version kind) [] ms ≡ [] → make ms ≡ make ns

module _ {A : Type 0} (version : ℕ) (kind : FileKind) (make : Members → A) (g : Good version kind make) where
  pub record_turned : {x y : Json} → Turned x y → (schema : ℕ) → defects version schema false (OfKind kind) x ≡ [] → make (members_in x) ≡ make (members_in y)
  unfolding defects
  record_turned (in_array h) schema e = refl
  record_turned (in_object {place = place} {ms = ms} {ns = ns} {closed = closed} h) schema e =
      g ms ns h (schema_place kind place schema) (no_both (member_defects version (schema_place kind place schema) kind (rows_in version kind) [] ms) (missing_defects version kind place ms closed) e).0

  records_turned : {xs ys : Items} → TurnedItems xs ys → (schema : ℕ) → item_defects version schema (OfKind kind) xs ≡ [] → records_of make xs ≡ records_of make ys
  unfolding defects
  records_turned (in_item {x = x} {xs = xs} h) schema e =
      ap (λ (a : A). a ∷ records_of make xs) (record_turned h schema (no_both (defects version schema false (OfKind kind) x) (item_defects version schema (OfKind kind) xs) e).0)
  records_turned (behind_item {x = x} {xs = xs} h) schema e =
      ap (λ (l : List A). make (members_in x) ∷ l) (records_turned h schema (no_both (defects version schema false (OfKind kind) x) (item_defects version schema (OfKind kind) xs) e).1)

  -- a list of them under a name
  list_near : {o p : Option Json} → Near o p → (schema room : ℕ) (of_schema : Bool) → ((x : Json) → o ≡ some x → defects version schema of_schema (Several room (OfKind kind)) x ≡ []) → records_of make (items_at o) ≡ records_of make (items_at p)
  unfolding defects
  list_near alike schema room of_schema e = refl
  list_near (near (in_array {place = place} {xs = xs} {closed = closed} h)) schema room of_schema e =
      records_turned h schema (no_both (unless (leb (count_of xs) room) place over_capacity) (item_defects version schema (OfKind kind) xs) (e (Array place xs closed) refl)).1
  list_near (near (in_object h)) schema room of_schema e = refl

  pub list_kept : (outer : FileKind) (w : List ℕ) (room : ℕ) → RowShape (rows_in version outer) w (Several room (OfKind kind)) → (ms ns : Members) → TurnedMembers ms ns → (schema : ℕ)
      → member_defects version schema outer (rows_in version outer) [] ms ≡ [] → records_of make (items_at (value_of w ms)) ≡ records_of make (items_at (value_of w ns))
  list_kept outer w room r ms ns h schema e =
      list_near (value_near version schema outer (rows_in version outer) w (or_left (not (skips_unknown outer)) (ap is_some r.found)) h [] e) schema room r.row.of_schema
      (λ x v. ap (λ (shape : FileShape). defects version schema r.row.of_schema shape x) (sym r.is) ∙ value_said_lem version schema outer (rows_in version outer) w r.row r.found ms [] e refl x v)
