-- The flags of names, row by row: one more name sets the flag of its member, and a flag says whether its name was there.
use Prim.Native.Nat.{ℕ, suc, ◌+◌, ◌-◌, ◌≤◌, ◌<◌}
use mathlib.Core.Path.{◌≡◌, refl, sym, ap, ◌∙◌}
use mathlib.Core.Bool.{Bool, true, false, not, ◌&&◌, true≢false}
use mathlib.Core.List.{List, [], ◌∷◌}
use mathlib.Core.Option.{Option, none, some}
use native.Mathlib.Nat.{zero-add, suc-add}
use native.Mathlib.Omega.{arith}
use borrow.Author.Tests.{not-true, ne_eqb}
use borrow.Table.Steps.{cases}
use lib.Dec.{eqb}
use lib.ListN.{length, get_or, set, replicate, length-replicate}
use Rattle.rules.specs.Words.{is_some, any, unequal_by}
use Rattle.rules.proofs.Checks.{and_left, and_right}
use Rattle.json_rule.specs.Members.{is_one_of}
use Rattle.json_rule.specs.Defects.{with_name}
use Rattle.json_members.proofs.Words.{same_is}
use Rattle.file_rule.specs.Tables.{FileKind, TheFile, HeldSnapshot, HeldSchema, HeldField, HeldSpec, HeldPartitionField, HeldOrder, HeldSortField, HeldRef, HeldLogEntry, HeldFileEntry, HeldStatistics, HeldPartitionStatistics, Row, rows_of, row_in, rows_in}
use Rattle.file_rule.specs.FileDefects.{published_as, is_repeated}
use Rattle.file_cells.specs.Wants.{kind_number, kind_at, first_spot, position, spot_in, spot_by}
use Rattle.file_members.specs.Standings.{published_of}
use Rattle.file_members.specs.Names.{first_in, first_of, count_in, count_of}
use Rattle.file_members.specs.Flags.{flag_room, flag_of, flags_of, flags_in, marked}
use Rattle.file_members.proofs.Names.{named, row_named, same_name, names_apart, no_other, published_named, found_row, spot_of}
use Rattle.file_members.proofs.Shapes.{kind_numbered}
use Rattle.file_members.proofs.Lacking.{count_room}

module _ (version : ℕ) (name : List ℕ) (names : List (List ℕ)) (rest : List Bool) where
  -- a name that no row has changes nothing
  flags_same : (rs : List Row) → row_named name rs ≡ none → flags_of version (name ∷ names) rest rs ≡ flags_of version names rest rs
  flags_same [] n = refl
  flags_same (r ∷ rs) n =
      cases (named name r)
      (λ t. absurd (true≢false (ap (λ o. is_some o) (rw t at n))))
      (λ f. rw f (ap (λ l. flag_of version names r ∷ l) (flags_same rs (rw f at n))))

  -- nor does one that the version does not publish
  flags_absent : (rs : List Row) → unequal_by same_name rs ≡ true → is_some (published_of version (row_named name rs)) ≡ false → flags_of version (name ∷ names) rest rs ≡ flags_of version names rest rs
  flags_absent [] u n = refl
  flags_absent (r ∷ rs) u n =
      cases (named name r)
      (λ t. rw (rw t at n) (ap (λ l. false ∷ l) (flags_same rs (no_other name r rs t (not-true _ (and_left (not (any (same_name r) rs)) _ u))))))
      (λ f. rw f (ap (λ l. flag_of version names r ∷ l) (flags_absent rs (and_right (not (any (same_name r) rs)) _ u) (rw f at n))))

  -- one that it publishes sets the flag of its row
  flags_set : (rs : List Row) → unequal_by same_name rs ≡ true → is_some (published_of version (row_named name rs)) ≡ true → flags_of version (name ∷ names) rest rs ≡ set (flags_of version names rest rs) (position name rs) true
  flags_set [] u t = absurd (true≢false (sym t))
  flags_set (r ∷ rs) u p =
      cases (named name r)
      (λ t. rw (t, rw t at p) (ap (λ l. true ∷ l) (flags_same rs (no_other name r rs t (not-true _ (and_left (not (any (same_name r) rs)) _ u))))))
      (λ f. rw f (ap (λ l. flag_of version names r ∷ l) (flags_set rs (and_right (not (any (same_name r) rs)) _ u) (rw f at p))))

  -- its flag says whether it was there before
  flag_told : (rs : List Row) → is_some (published_of version (row_named name rs)) ≡ true → get_or (flags_of version names rest rs) (position name rs) false ≡ is_one_of names name
  flag_told [] t = absurd (true≢false (sym t))
  flag_told (r ∷ rs) p =
      cases (named name r)
      (λ t. rw (t, rw t at p) (ap (is_one_of names) (same_is r.name name t)))
      (λ f. rw f (flag_told rs (rw f at p)))

-- ---- the place of a member in its record

position_below : (name : List ℕ) (rs : List Row) → is_some (row_named name rs) ≡ true → position name rs < length rs
position_below name [] t = absurd (true≢false (sym t))
position_below name (r ∷ rs) p =
    cases (named name r)
    (λ t. rw t (omega arith))
    (λ f. rw f (let h = position_below name rs (rw f at p) in omega arith))

-- a number that is known is that of a row
pub record PlaceIn (k : FileKind) (spot : ℕ) : Type 0 where
  pub place : ℕ
  pub is : spot ≡ first_spot k + place
  pub below : place < length (rows_of k)

-- a name that is known is published
known : (version : ℕ) (k : FileKind) (name : List ℕ) → eqb (spot_in version k (some name)) 0 ≡ false → is_some (published_as name (rows_in version k)) ≡ true
unfolding spot_in
known version k name n = cases (is_some (published_as name (rows_in version k))) (λ t. t) (λ f. absurd (true≢false (rw f at n)))

module _ (version : ℕ) (k : FileKind) (name : List ℕ) (t : is_some (published_as name (rows_in version k)) ≡ true) where
  spot_is : spot_in version k (some name) ≡ first_spot k + position name (rows_of k)
  unfolding spot_in
  spot_is = rw t

  place_below : position name (rows_of k) < length (rows_of k)
  place_below = position_below name (rows_of k) (found_row version k name t)

  published_row : is_some (published_of version (row_named name (rows_of k))) ≡ true
  published_row = sym (ap (λ o. is_some o) (published_named version k name)) ∙ t

pub first_above : (k : FileKind) → 1 ≤ first_spot k
first_above TheFile = omega arith
first_above HeldSnapshot = omega arith
first_above HeldSchema = omega arith
first_above HeldField = omega arith
first_above HeldSpec = omega arith
first_above HeldPartitionField = omega arith
first_above HeldOrder = omega arith
first_above HeldSortField = omega arith
first_above HeldRef = omega arith
first_above HeldLogEntry = omega arith
first_above HeldFileEntry = omega arith
first_above HeldStatistics = omega arith
first_above HeldPartitionStatistics = omega arith

-- ---- of a record's number

module _ (version n : ℕ) (k : FileKind) (e : kind_at n ≡ some k) where
  pub first_is : first_of n ≡ first_spot k
  unfolding first_of
  first_is = ap first_in e

  pub count_is : count_of n ≡ length (rows_of k)
  unfolding count_of
  count_is = ap count_in e

  place_in : (x : Option (List ℕ)) → eqb (spot_in version k x) 0 ≡ false → PlaceIn k (spot_in version k x)
  unfolding spot_in
  place_in none h = absurd (true≢false h)
  place_in (some name) h =
      let t = known version k name h in
      record { place = position name (rows_of k); is = spot_is version k name t; below = place_below version k name t }

  pub spot_place : (x : Option (List ℕ)) → eqb (spot_by version n x) 0 ≡ false → PlaceIn k (spot_by version n x)
  spot_place x h = rw (spot_of version n k e x) (place_in x (rw (spot_of version n k e x) at h))

  -- it has a flag
  pub spot_flag : (x : Option (List ℕ)) → eqb (spot_by version n x) 0 ≡ false → (first_of n ≤ spot_by version n x) × (spot_by version n x - first_of n < flag_room)
  spot_flag x h =
      let p = spot_place x h in
      let q = p.is in
      let b = p.below in
      (omega (arith, first_is), omega (arith, first_is, count_is, count_room n))

  -- one more name sets the flag of its member
  set_in : (names : List (List ℕ)) (x : Option (List ℕ)) → flags_in version k (with_name names x) ≡ marked (first_spot k) (spot_in version k x) (flags_in version k names)
  unfolding flags_in marked spot_in
  set_in names none = refl
  set_in names (some name) =
      let rest = replicate (flag_room - length (rows_of k)) false in
      cases (is_some (published_as name (rows_in version k)))
      (λ t. let place : first_spot k + position name (rows_of k) - first_spot k ≡ position name (rows_of k) = omega arith in
      rw (t, ne_eqb (first_spot k + position name (rows_of k)) 0 (λ z. omega (arith, first_above k)), place)
      (flags_set version name names rest (rows_of k) (names_apart k) (published_row version k name t)))
      (λ f. rw f (flags_absent version name names rest (rows_of k) (names_apart k) (sym (ap (λ o. is_some o) (published_named version k name)) ∙ f)))

  pub flag_set : (names : List (List ℕ)) (x : Option (List ℕ)) → flags_in version k (with_name names x) ≡ marked (first_of n) (spot_by version n x) (flags_in version k names)
  flag_set names x = rw (first_is, spot_of version n k e x) (set_in names x)

  -- a flag says whether the name was there before
  is_in_lem : (names : List (List ℕ)) (x : Option (List ℕ)) → eqb (spot_in version k x) 0 ≡ false → get_or (flags_in version k names) (spot_in version k x - first_spot k) false ≡ is_repeated names x
  unfolding flags_in spot_in
  is_in_lem names none h = absurd (true≢false h)
  is_in_lem names (some name) h =
      let t = known version k name h in
      let rest = replicate (flag_room - length (rows_of k)) false in
      let place : first_spot k + position name (rows_of k) - first_spot k ≡ position name (rows_of k) = omega arith in
      rw (t, place) (flag_told version name names rest (rows_of k) (published_row version k name t))

  pub flag_is : (names : List (List ℕ)) (x : Option (List ℕ)) → eqb (spot_by version n x) 0 ≡ false → get_or (flags_in version k names) (spot_by version n x - first_of n) false ≡ is_repeated names x
  flag_is names x h = rw (first_is, spot_of version n k e x) (is_in_lem names x (rw (spot_of version n k e x) at h))

-- ---- all flags

and_none : (a : Bool) → a && false ≡ false
and_none true = refl
and_none false = refl

none_of : (version m : ℕ) (rs : List Row) → flags_of version [] (replicate m false) rs ≡ replicate (length rs + m) false
none_of version m [] = rw (zero-add m)
none_of version m (r ∷ rs) = rw (suc-add (length rs) m, and_none (is_some (row_in version r))) (ap (λ l. false ∷ l) (none_of version m rs))

rows_room : (k : FileKind) → length (rows_of k) ≤ flag_room
rows_room k = omega (arith, count_is 0 (kind_number k) k (kind_numbered k), count_room (kind_number k))

-- before the first name none is set
pub flags_none : (version : ℕ) (k : FileKind) → flags_in version k [] ≡ replicate flag_room false
unfolding flags_in
flags_none version k =
    let all-flags : length (rows_of k) + (flag_room - length (rows_of k)) ≡ flag_room = omega (arith, rows_room k) in
    none_of version (flag_room - length (rows_of k)) (rows_of k) ∙ ap (λ m. replicate m false) all-flags

flags_length : (version : ℕ) (names : List (List ℕ)) (rest : List Bool) (rs : List Row) → length (flags_of version names rest rs) ≡ length rs + length rest
flags_length version names rest [] = sym (zero-add (length rest))
flags_length version names rest (r ∷ rs) = ap suc (flags_length version names rest rs) ∙ sym (suc-add (length rs) (length rest))

pub flags_long : (version : ℕ) (k : FileKind) (names : List (List ℕ)) → length (flags_in version k names) ≡ flag_room
unfolding flags_in
flags_long version k names =
    let all-flags : length (rows_of k) + (flag_room - length (rows_of k)) ≡ flag_room = omega (arith, rows_room k) in
    flags_length version names (replicate (flag_room - length (rows_of k)) false) (rows_of k) ∙ rw (length-replicate (flag_room - length (rows_of k)) false) all-flags

-- they turn on which names there are, and not on the order
alike_of : (version : ℕ) (a b : List (List ℕ)) (rest : List Bool) → ((w : List ℕ) → is_one_of a w ≡ is_one_of b w) → (rs : List Row) → flags_of version a rest rs ≡ flags_of version b rest rs
alike_of version a b rest same [] = refl
alike_of version a b rest same (r ∷ rs) = rw (same r.name) (ap (λ l. flag_of version b r ∷ l) (alike_of version a b rest same rs))

pub flags_alike : (version : ℕ) (k : FileKind) (a b : List (List ℕ)) → ((w : List ℕ) → is_one_of a w ≡ is_one_of b w) → flags_in version k a ≡ flags_in version k b
unfolding flags_in
flags_alike version k a b same = alike_of version a b (replicate (flag_room - length (rows_of k)) false) same (rows_of k)
