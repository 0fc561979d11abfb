-- Members in another order are as right as they were.
use Prim.Native.Nat.{ℕ, suc}
use mathlib.Core.Path.{◌≡◌, refl, sym, ap, ◌∙◌}
use mathlib.Core.Bool.{Bool, true, false, cond, not, ◌||◌, ◌&&◌, true≢false}
use mathlib.Core.List.{List, [], ◌∷◌, ◌++◌}
use mathlib.Core.Option.{Option, none, some}
use lib.Dec.{eqb, leb}
use borrow.Author.Tests.{not-true}
use Rattle.rules.specs.Words.{is_some, all}
use Rattle.rules.specs.Capacities.{name_room}
use Rattle.json_rule.specs.Letters.{bytes}
use Rattle.json_rule.specs.Lexemes.{Lexeme}
use Rattle.json_rule.specs.Values.{text_of}
use Rattle.json_rule.specs.Tree.{Defect, over_capacity, Json, Items, Members, no_member, bare_name, member}
use Rattle.json_rule.specs.Members.{is_one_of, names_of}
use Rattle.json_rule.specs.Shapes.{TextUpTo}
use Rattle.json_rule.specs.Defects.{not_published, unless, scalar_defects, with_name, count_of}
use Rattle.file_rule.specs.Tables.{FileKind, TheFile, HeldSnapshot, HeldSchema, HeldField, HeldSpec, HeldPartitionField, HeldOrder, HeldSortField, HeldRef, HeldLogEntry, HeldFileEntry, HeldStatistics, HeldPartitionStatistics, FileShape, Single, IdOrNull, Several, ByName, OfKind, Published, rows_in}
use Rattle.file_rule.specs.FileDefects.{missing_member, row_by, is_repeated, skips_unknown, name_defects, own_name_defects, required_in, range_names, missing_defects, members_count, schema_place, defects, item_defects, member_defects, named_defects}
use Rattle.file_order.specs.Order.{Turned, in_array, in_object, TurnedItems, in_item, behind_item, TurnedMembers, turned, in_member, behind_member}
use Rattle.file_order.proofs.Names.{SameSeen, with_seen, turned_seen, repeated_seen, new_before, new_behind, name_test, new_row, TurnedNames, turned_names}

-- ---- nothing is wrong

pub no_both : (ks ls : List Defect) → ks ++ ls ≡ [] → (ks ≡ []) × (ls ≡ [])
no_both [] ls e = (refl, e)
no_both (k ∷ ks) ls e = absurd (true≢false (ap (λ (l : List Defect). is_there l) e))
  where
    is_there : List Defect → Bool
    is_there [] = false
    is_there (d ∷ ds) = true

pub both_none : {ks ls : List Defect} → ks ≡ [] → ls ≡ [] → ks ++ ls ≡ []
both_none e d = λ i. e i ++ d i

pub test_holds : (b : Bool) (place number : ℕ) → unless b place number ≡ [] → b ≡ true
test_holds true place number e = refl
test_holds false place number e = absurd (true≢false (ap (λ (l : List Defect). is_there l) e))
  where
    is_there : List Defect → Bool
    is_there [] = false
    is_there (d ∷ ds) = true

pub holds_none : (b : Bool) (place number : ℕ) → b ≡ true → unless b place number ≡ []
holds_none b place number e = ap (λ (t : Bool). unless t place number) e

-- ---- counts and names

count_turned : {xs ys : Items} → TurnedItems xs ys → count_of ys ≡ count_of xs
count_turned (in_item h) = refl
count_turned (behind_item h) = ap suc (count_turned h)

members_count_turned : {ms ns : Members} → TurnedMembers ms ns → members_count ns ≡ members_count ms
members_count_turned turned = refl
members_count_turned (in_member h) = refl
members_count_turned (behind_member h) = ap suc (members_count_turned h)

names_with_lem : (t : Lexeme) (x : Json) (ms : Members) → names_of (member t x ms) ≡ with_name (names_of ms) (text_of t)
names_with_lem t x ms = go (text_of t)
  where
    go : (o : Option (List ℕ)) → elim o as (λ _. List (List ℕ)) [ none ↦ names_of ms | some name ↦ name ∷ names_of ms ] ≡ with_name (names_of ms) o
    go none = refl
    go (some name) = refl

names_two : (t u : Lexeme) (x y : Json) (ms : Members) → names_of (member t x (member u y ms)) ≡ with_name (with_name (names_of ms) (text_of u)) (text_of t)
names_two t u x y ms = names_with_lem t x (member u y ms) ∙ ap (λ (l : List (List ℕ)). with_name l (text_of t)) (names_with_lem u y ms)

names_turned : {ms ns : Members} → TurnedMembers ms ns → SameSeen (names_of ns) (names_of ms)
names_turned (turned {t = t} {u = u} {x = x} {y = y} {ms = ms}) =
    λ w. ap (λ (l : List (List ℕ)). is_one_of l w) (names_two u t y x ms) ∙ turned_seen (names_of ms) (text_of t) (text_of u) w ∙ sym (ap (λ (l : List (List ℕ)). is_one_of l w) (names_two t u x y ms))
names_turned (in_member h) = λ w. refl
names_turned (behind_member {t = t} {x = x} {ms = ms} {ns = ns} h) =
    let k : SameSeen (names_of ns) (names_of ms) = names_turned h in
    λ w. ap (λ (l : List (List ℕ)). is_one_of l w) (names_with_lem t x ns) ∙ with_seen (names_of ns) (names_of ms) k (text_of t) w ∙ sym (ap (λ (l : List (List ℕ)). is_one_of l w) (names_with_lem t x ms))

-- ---- missing members

all_same : (p q : List ℕ → Bool) → ((w : List ℕ) → p w ≡ q w) → (l : List (List ℕ)) → all p l ≡ all q l
all_same p q h [] = refl
all_same p q h (w ∷ l) = λ i. h w i && all_same p q h l i

module _ (version : ℕ) (names other : List (List ℕ)) (h : SameSeen names other) where
  range_same : (kind : FileKind) → range_names version kind names ≡ range_names version kind other
  range_same HeldSnapshot =
      λ i. cond (eqb version 3) (cond (h (bytes "first-row-id") i || h (bytes "added-rows") i) (bytes "first-row-id" ∷ bytes "added-rows" ∷ []) []) []
  range_same TheFile = refl
  range_same HeldSchema = refl
  range_same HeldField = refl
  range_same HeldSpec = refl
  range_same HeldPartitionField = refl
  range_same HeldOrder = refl
  range_same HeldSortField = refl
  range_same HeldRef = refl
  range_same HeldLogEntry = refl
  range_same HeldFileEntry = refl
  range_same HeldStatistics = refl
  range_same HeldPartitionStatistics = refl

  pub missing_same : (kind : FileKind) (place : ℕ) (closed : Bool)
      → unless (not closed || all (is_one_of names) (required_in (rows_in version kind) ++ range_names version kind names)) place missing_member
      ≡ unless (not closed || all (is_one_of other) (required_in (rows_in version kind) ++ range_names version kind other)) place missing_member
  missing_same kind place closed =
      ap (λ (l : List (List ℕ)). unless (not closed || all (is_one_of names) (required_in (rows_in version kind) ++ l)) place missing_member) (range_same kind)
      ∙ ap (λ (b : Bool). unless (not closed || b) place missing_member) (all_same (is_one_of names) (is_one_of other) h (required_in (rows_in version kind) ++ range_names version kind other))

-- ---- the names that were seen before

module _ (version schema : ℕ) where
  -- what is said of the value of a name by its row
  abbrev pub said_of : Option Published → Json → List Defect
  said_of o x = elim o [ none ↦ [] | some r ↦ defects version schema r.of_schema r.shape x ]

  pub members_seen : (kind : FileKind) (rows : List Published) (ms : Members) (seen other : List (List ℕ)) → SameSeen seen other
      → member_defects version schema kind rows seen ms ≡ member_defects version schema kind rows other ms
  unfolding defects
  members_seen kind rows no_member seen other h = refl
  members_seen kind rows (bare_name t) seen other h = ap (λ (b : Bool). unless (cond (is_some (row_by rows (text_of t))) (not b) (skips_unknown kind)) t.first not_published) (repeated_seen seen other h (text_of t))
  members_seen kind rows (member t x ms) seen other h =
      λ i. unless (cond (is_some (row_by rows (text_of t))) (not (repeated_seen seen other h (text_of t) i)) (skips_unknown kind)) t.first not_published
      ++ said_of (cond (repeated_seen seen other h (text_of t) i) none (row_by rows (text_of t))) x
      ++ members_seen kind rows ms (with_name seen (text_of t)) (with_name other (text_of t)) (with_seen seen other h (text_of t)) i

  named_seen : (each : FileShape) (ms : Members) (seen other : List (List ℕ)) → SameSeen seen other → named_defects version schema each seen ms ≡ named_defects version schema each other ms
  unfolding defects
  named_seen each no_member seen other h = refl
  named_seen each (bare_name t) seen other h = ap (λ (b : Bool). scalar_defects (TextUpTo name_room) t.first t ++ unless (not b) t.first not_published) (repeated_seen seen other h (text_of t))
  named_seen each (member t x ms) seen other h =
      λ i. (scalar_defects (TextUpTo name_room) t.first t ++ unless (not (repeated_seen seen other h (text_of t) i)) t.first not_published)
      ++ defects version schema false each x
      ++ named_seen each ms (with_name seen (text_of t)) (with_name other (text_of t)) (with_seen seen other h (text_of t)) i

  -- ---- a member

  pub record Right (kind : FileKind) (rows : List Published) (seen : List (List ℕ)) (t : Lexeme) (x : Json) (ms : Members) : Type 0 where
    pub name : name_test kind rows seen (text_of t) ≡ true
    pub value : said_of (new_row rows seen (text_of t)) x ≡ []
    pub others : member_defects version schema kind rows (with_name seen (text_of t)) ms ≡ []

  pub member_right : (kind : FileKind) (rows : List Published) (seen : List (List ℕ)) (t : Lexeme) (x : Json) (ms : Members) → member_defects version schema kind rows seen (member t x ms) ≡ [] → Right kind rows seen t x ms
  unfolding defects
  member_right kind rows seen t x ms e =
      let h = no_both (name_defects kind rows seen t ++ said_of (new_row rows seen (text_of t)) x) (member_defects version schema kind rows (with_name seen (text_of t)) ms) e in
      let k = no_both (name_defects kind rows seen t) (said_of (new_row rows seen (text_of t)) x) h.0 in
      record { name = test_holds (name_test kind rows seen (text_of t)) t.first not_published k.0; value = k.1; others = h.1 }

  pub right_member : (kind : FileKind) (rows : List Published) (seen : List (List ℕ)) (t : Lexeme) (x : Json) (ms : Members) → Right kind rows seen t x ms → member_defects version schema kind rows seen (member t x ms) ≡ []
  unfolding defects
  right_member kind rows seen t x ms r =
      both_none (both_none (holds_none (name_test kind rows seen (text_of t)) t.first not_published r.name) r.value) r.others

  -- a member under a name of its own
  pub record OwnRight (each : FileShape) (seen : List (List ℕ)) (t : Lexeme) (x : Json) (ms : Members) : Type 0 where
    pub text : scalar_defects (TextUpTo name_room) t.first t ≡ []
    pub new : is_repeated seen (text_of t) ≡ false
    pub value : defects version schema false each x ≡ []
    pub others : named_defects version schema each (with_name seen (text_of t)) ms ≡ []

  pub own_right : (each : FileShape) (seen : List (List ℕ)) (t : Lexeme) (x : Json) (ms : Members) → named_defects version schema each seen (member t x ms) ≡ [] → OwnRight each seen t x ms
  unfolding defects
  own_right each seen t x ms e =
      let h = no_both (own_name_defects seen t ++ defects version schema false each x) (named_defects version schema each (with_name seen (text_of t)) ms) e in
      let k = no_both (own_name_defects seen t) (defects version schema false each x) h.0 in
      let n = no_both (scalar_defects (TextUpTo name_room) t.first t) (unless (not (is_repeated seen (text_of t))) t.first not_published) k.0 in
      record { text = n.0; new = not-true (is_repeated seen (text_of t)) (test_holds (not (is_repeated seen (text_of t))) t.first not_published n.1); value = k.1; others = h.1 }

  pub right_own : (each : FileShape) (seen : List (List ℕ)) (t : Lexeme) (x : Json) (ms : Members) → OwnRight each seen t x ms → named_defects version schema each seen (member t x ms) ≡ []
  unfolding defects
  right_own each seen t x ms r =
      both_none (both_none (both_none r.text (ap (λ (b : Bool). unless (not b) t.first not_published) r.new)) r.value) r.others

  -- ---- two neighbours

  members_two : (kind : FileKind) (rows : List Published) (seen : List (List ℕ)) (t u : Lexeme) (x y : Json) (ms : Members) → member_defects version schema kind rows seen (member t x (member u y ms)) ≡ []
      → member_defects version schema kind rows seen (member u y (member t x ms)) ≡ []
  members_two kind rows seen t u x y ms e =
      let r : Right kind rows seen t x (member u y ms) = member_right kind rows seen t x (member u y ms) e in
      let q : Right kind rows (with_name seen (text_of t)) u y ms = member_right kind rows (with_name seen (text_of t)) u y ms r.others in
      let n : TurnedNames kind rows seen (text_of t) (text_of u) = turned_names kind rows seen (text_of t) (text_of u) r.name q.name in
      let later : Right kind rows (with_name seen (text_of u)) t x ms = record {
        name = n.second;
        value = ap (λ (o : Option Published). said_of o x) n.second_row ∙ r.value;
        others = members_seen kind rows ms (with_name (with_name seen (text_of u)) (text_of t)) (with_name (with_name seen (text_of t)) (text_of u)) (turned_seen seen (text_of u) (text_of t)) ∙ q.others;
      } in
      let first : Right kind rows seen u y (member t x ms) = record {
        name = n.first;
        value = ap (λ (o : Option Published). said_of o y) n.first_row ∙ q.value;
        others = right_member kind rows (with_name seen (text_of u)) t x ms later;
      } in
      right_member kind rows seen u y (member t x ms) first

  named_two : (each : FileShape) (seen : List (List ℕ)) (t u : Lexeme) (x y : Json) (ms : Members) → named_defects version schema each seen (member t x (member u y ms)) ≡ []
      → named_defects version schema each seen (member u y (member t x ms)) ≡ []
  named_two each seen t u x y ms e =
      let r : OwnRight each seen t x (member u y ms) = own_right each seen t x (member u y ms) e in
      let q : OwnRight each (with_name seen (text_of t)) u y ms = own_right each (with_name seen (text_of t)) u y ms r.others in
      let later : OwnRight each (with_name seen (text_of u)) t x ms = record {
        text = r.text;
        new = new_behind seen (text_of t) (text_of u) r.new (λ _. q.new);
        value = r.value;
        others = named_seen each ms (with_name (with_name seen (text_of u)) (text_of t)) (with_name (with_name seen (text_of t)) (text_of u)) (turned_seen seen (text_of u) (text_of t)) ∙ q.others;
      } in
      let first : OwnRight each seen u y (member t x ms) = record {
        text = q.text;
        new = new_before seen (text_of t) (text_of u) q.new;
        value = q.value;
        others = right_own each (with_name seen (text_of u)) t x ms later;
      } in
      right_own each seen u y (member t x ms) first

-- ---- a tree

said_turned : (version schema : ℕ) (o : Option Published) (x y : Json) → ((of_schema : Bool) (shape : FileShape) → defects version schema of_schema shape x ≡ [] → defects version schema of_schema shape y ≡ [])
    → said_of version schema o x ≡ [] → said_of version schema o y ≡ []
said_turned version schema none x y h e = refl
said_turned version schema (some r) x y h e = h r.of_schema r.shape e

module _ (version : ℕ) where
  mutual
    unfolding defects

    pub value_turned : {x y : Json} → Turned x y → (schema : ℕ) (of_schema : Bool) (shape : FileShape) → defects version schema of_schema shape x ≡ [] → defects version schema of_schema shape y ≡ []
    value_turned (in_array {place = place} {xs = xs} {ys = ys} h) schema of_schema (Several room each) e =
        let k = no_both (unless (leb (count_of xs) room) place over_capacity) (item_defects version schema each xs) e in
        both_none (ap (λ (n : ℕ). unless (leb n room) place over_capacity) (count_turned h) ∙ k.0) (items_turned h schema each k.1)
    value_turned (in_array h) schema of_schema (Single shape) e = e
    value_turned (in_array h) schema of_schema IdOrNull e = e
    value_turned (in_array h) schema of_schema (ByName room each) e = e
    value_turned (in_array h) schema of_schema (OfKind kind) e = e
    value_turned (in_object {place = place} {ms = ms} {ns = ns} h) schema of_schema (ByName room each) e =
        let k = no_both (unless (leb (members_count ms) room) place over_capacity) (named_defects version schema each [] ms) e in
        both_none (ap (λ (n : ℕ). unless (leb n room) place over_capacity) (members_count_turned h) ∙ k.0) (named_turned h schema each [] k.1)
    value_turned (in_object {place = place} {ms = ms} {ns = ns} {closed = closed} h) schema of_schema (OfKind kind) e =
        let k = no_both (member_defects version (schema_place kind place schema) kind (rows_in version kind) [] ms) (missing_defects version kind place ms closed) e in
        both_none (members_turned h (schema_place kind place schema) kind (rows_in version kind) [] k.0) (missing_same version (names_of ns) (names_of ms) (names_turned h) kind place closed ∙ k.1)
    value_turned (in_object h) schema of_schema (Single shape) e = e
    value_turned (in_object h) schema of_schema IdOrNull e = e
    value_turned (in_object h) schema of_schema (Several room each) e = e

    items_turned : {xs ys : Items} → TurnedItems xs ys → (schema : ℕ) (each : FileShape) → item_defects version schema each xs ≡ [] → item_defects version schema each ys ≡ []
    items_turned (in_item {x = x} {xs = xs} h) schema each e =
        let k = no_both (defects version schema false each x) (item_defects version schema each xs) e in
        both_none (value_turned h schema false each k.0) k.1
    items_turned (behind_item {x = x} {xs = xs} h) schema each e =
        let k = no_both (defects version schema false each x) (item_defects version schema each xs) e in
        both_none k.0 (items_turned h schema each k.1)

    pub members_turned : {ms ns : Members} → TurnedMembers ms ns → (schema : ℕ) (kind : FileKind) (rows : List Published) (seen : List (List ℕ)) → member_defects version schema kind rows seen ms ≡ []
        → member_defects version schema kind rows seen ns ≡ []
    members_turned (turned {t = t} {u = u} {x = x} {y = y} {ms = ms}) schema kind rows seen e = members_two version schema kind rows seen t u x y ms e
    members_turned (in_member {t = t} {x = x} {y = y} {ms = ms} h) schema kind rows seen e =
        let r = member_right version schema kind rows seen t x ms e in
        right_member version schema kind rows seen t y ms
        (record { name = r.name; value = said_turned version schema (new_row rows seen (text_of t)) x y (λ of_schema shape d. value_turned h schema of_schema shape d) r.value; others = r.others })
    members_turned (behind_member {t = t} {x = x} {ms = ms} {ns = ns} h) schema kind rows seen e =
        let r = member_right version schema kind rows seen t x ms e in
        right_member version schema kind rows seen t x ns (record { name = r.name; value = r.value; others = members_turned h schema kind rows (with_name seen (text_of t)) r.others })

    pub named_turned : {ms ns : Members} → TurnedMembers ms ns → (schema : ℕ) (each : FileShape) (seen : List (List ℕ)) → named_defects version schema each seen ms ≡ [] → named_defects version schema each seen ns ≡ []
    named_turned (turned {t = t} {u = u} {x = x} {y = y} {ms = ms}) schema each seen e = named_two version schema each seen t u x y ms e
    named_turned (in_member {t = t} {x = x} {y = y} {ms = ms} h) schema each seen e =
        let r = own_right version schema each seen t x ms e in
        right_own version schema each seen t y ms (record { text = r.text; new = r.new; value = value_turned h schema false each r.value; others = r.others })
    named_turned (behind_member {t = t} {x = x} {ms = ms} {ns = ns} h) schema each seen e =
        let r = own_right version schema each seen t x ms e in
        right_own version schema each seen t x ns (record { text = r.text; new = r.new; value = r.value; others = named_turned h schema each (with_name seen (text_of t)) r.others })
