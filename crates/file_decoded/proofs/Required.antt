-- A member that every version requires is there.
use Prim.Native.Nat.{ℕ, zero, suc}
use mathlib.Core.Path.{◌≡◌, refl, sym, ap, subst, ◌∙◌}
use mathlib.Core.Bool.{Bool, true, false, cond, ◌&&◌, false≢true}
use mathlib.Core.List.{List, [], ◌∷◌, ◌++◌}
use mathlib.Core.Option.{Option, none, some}
use borrow.Table.Steps.{cases}
use lib.Dec.{eqb}
use Rattle.rules.specs.Words.{is_some, some_with, all, collect, same_bytes}
use Rattle.rules.proofs.Checks.{both, and_left, and_right}
use Rattle.json_rule.specs.Values.{text_of}
use Rattle.json_rule.specs.Tree.{Members, no_member, bare_name, member}
use Rattle.json_rule.specs.Members.{is_one_of, names_of, value_of}
use Rattle.json_judge.proofs.Follow.{is_closed, are_all}
use Rattle.file_rule.specs.Tables.{FileKind, Presence, Required, Optional, Absent, Row, Published, is_absent, is_required_by, any_version, published, row_in, rows_in, rows_of}
use Rattle.file_rule.specs.FileDefects.{required_in, range_names}
use Rattle.file_cells.specs.Wants.{nth}
use Rattle.file_holds.proofs.Rows.{same_name_lem}
use Rattle.file_decoded.proofs.Reading.{HeldRecord, always}

all_front : {A : Type 0} (p : A → Bool) (xs ys : List A) → all p (xs ++ ys) ≡ true → all p xs ≡ true
all_front p [] ys e = refl
all_front p (x ∷ xs) ys e = both (and_left (p x) (all p (xs ++ ys)) e) (all_front p xs ys (and_right (p x) (all p (xs ++ ys)) e))

-- a name that is there has a value, in a closed object
there : (name : List ℕ) (ms : Members) → are_all ms ≡ true → is_one_of (names_of ms) name ≡ true → is_some (value_of name ms) ≡ true
unfolding is_closed
there name no_member c e = absurd (false≢true e)
there name (bare_name t) c e = absurd (false≢true c)
there name (member t x ms) c e = go (text_of t) refl e (there name ms (and_right (is_closed x) (are_all ms) c))
  where
    go : (o : Option (List ℕ)) → text_of t ≡ o → is_one_of (elim o [ none ↦ names_of ms | some n ↦ n ∷ names_of ms ]) name ≡ true → (is_one_of (names_of ms) name ≡ true → is_some (value_of name ms) ≡ true)
        → is_some (cond (some_with (same_bytes name) o) (some x) (value_of name ms)) ≡ true
    go none f e h = h e
    go (some n) f e h =
        cases (same_bytes name n)
        (λ s. rw s)
        (λ s. rw s (h (rw s at e)))

-- what every version requires
abbrev pub is_always : Row → Bool
is_always r = is_required_by r.one && is_required_by r.two && is_required_by r.three

required_published : (r : Row) (a : Presence) (q : Published) → is_required_by a ≡ true → published r a ≡ some q → q.is_required ≡ true
required_published r Required q h e = cc
required_published r Optional q h e = absurd (false≢true h)
required_published r Absent q h e = absurd (false≢true h)

not_absent : (a : Presence) → is_required_by a ≡ true → is_absent a ≡ false
not_absent Required h = refl
not_absent Optional h = refl
not_absent Absent h = absurd (false≢true h)

module _ (version : ℕ) where
  required_in_lem : (r : Row) (q : Published) → is_always r ≡ true → row_in version r ≡ some q → q.is_required ≡ true
  unfolding row_in
  required_in_lem r q a e =
      let two = and_left (is_required_by r.one && is_required_by r.two) (is_required_by r.three) a in
      let x : is_required_by r.one ≡ true = and_left (is_required_by r.one) (is_required_by r.two) two in
      let y : is_required_by r.two ≡ true = and_right (is_required_by r.one) (is_required_by r.two) two in
      let z : is_required_by r.three ≡ true = and_right (is_required_by r.one && is_required_by r.two) (is_required_by r.three) a in
      cases (eqb version 1) (λ b. required_published r r.one q x (rw b at e))
      (λ b. cases (eqb version 2) (λ c. required_published r r.two q y (rw (b, c) at e))
      (λ c. cases (eqb version 3) (λ d. required_published r r.three q z (rw (b, c, d) at e))
      (λ d. let f : some (any_version r) ≡ some q = rw (b, c, d) at e in
      let g : any_version r ≡ q = cc in
      ap (λ (p : Published). p.is_required) (sym g) ∙ rw (not_absent r.one x, not_absent r.two y, not_absent r.three z, x, y, z))))

  always_published : (r : Row) → is_always r ≡ true → is_some (row_in version r) ≡ true
  always_published r a =
      let two = and_left (is_required_by r.one && is_required_by r.two) (is_required_by r.three) a in
      always version r
      (rw (not_absent r.one (and_left (is_required_by r.one) (is_required_by r.two) two), not_absent r.two (and_right (is_required_by r.one) (is_required_by r.two) two), not_absent r.three (and_right (is_required_by r.one && is_required_by r.two) (is_required_by r.three) a)))

  -- the name of a required row is among those that are required
  among_required : (names : List (List ℕ)) (rows : List Row) (p : ℕ) (r : Row) → all (is_one_of names) (required_in (collect (row_in version) rows)) ≡ true → nth p rows ≡ some r → is_always r ≡ true → is_one_of names r.name ≡ true
  among_required names [] p r e f a = let z : none ≡ some r = f in cc
  among_required names (x ∷ rows) zero r e f a =
      let g : x ≡ r = cc in
      go (row_in version x) refl (let i : is_some (row_in version r) ≡ true = always_published r a in rw g i) (subst (λ (y : Row). is_always y ≡ true) (sym g) a) e (ap (λ (y : Row). y.name) g)
    where
      go : (o : Option Published) → row_in version x ≡ o → is_some o ≡ true → is_always x ≡ true → all (is_one_of names) (required_in (elim o [ none ↦ collect (row_in version) rows | some y ↦ y ∷ collect (row_in version) rows ])) ≡ true
          → x.name ≡ r.name → is_one_of names r.name ≡ true
      go none d i b e m = absurd (false≢true i)
      go (some q) d i b e m =
          let l : all (is_one_of names) (q.name ∷ required_in (collect (row_in version) rows)) ≡ true = rw (required_in_lem x q b d) at e in
          ap (is_one_of names) (sym m ∙ sym (same_name_lem version x q d)) ∙ and_left (is_one_of names q.name) (all (is_one_of names) (required_in (collect (row_in version) rows))) l
  among_required names (x ∷ rows) (suc p) r e f a = among_required names rows p r (go (row_in version x) e) f a
    where
      go : (o : Option Published) → all (is_one_of names) (required_in (elim o [ none ↦ collect (row_in version) rows | some y ↦ y ∷ collect (row_in version) rows ])) ≡ true
          → all (is_one_of names) (required_in (collect (row_in version) rows)) ≡ true
      go none e = e
      go (some q) e =
          cases q.is_required
          (λ b. and_right (is_one_of names q.name) (all (is_one_of names) (required_in (collect (row_in version) rows))) (rw b at e))
          (λ b. rw b at e)

  pub always_there : (bs cells : List ℕ) {k : FileKind} {base : ℕ} {ms : Members} → HeldRecord version bs cells k base ms → (p : ℕ) (r : Row) → nth p (rows_of k) ≡ some r → is_always r ≡ true → is_some (value_of r.name ms) ≡ true
  unfolding rows_in
  always_there bs cells {k} {base} {ms} h p r e a =
      there r.name ms h.closed
      (among_required (names_of ms) (rows_of k) p r (all_front (is_one_of (names_of ms)) (required_in (rows_in version k)) (range_names version k (names_of ms)) h.required) e a)
