-- The elements of a table overwritten one by one, from the front, by those of another list as long.
use Prim.Native.Nat.{ℕ, ◌+◌, ◌-◌, ◌≤◌, ◌<◌}
use native.Mathlib.Omega.{arith}
use native.Mathlib.Numerals.{add-one}
use mathlib.Core.Path.{◌≡◌, sym, ap, ◌∙◌}
use mathlib.Core.List.{List, [], ◌∷◌, ◌++◌, map, map-append, append_assoc, append-nil}
use lib.ListN.{length, get_or, take, drop, set, replicate, length-append, length-map, get_or-map, drop_of_length-le}
use lib.Seq.{take_all, take-suc, drop-cons, set_at, length-take-le}
use Rattle.rules.specs.Layout.{pad}

-- one slot of a padded list
set_within : {A : Type 0} (room : ℕ) (b : A) (front : List A) (x y : A) (back : List A) (n : ℕ) → length front ≡ n → set (pad room b (front ++ x ∷ back)) n y ≡ pad room b (front ++ y ∷ back)
set_within {A} room b front x y back n e =
    let q : length (front ++ x ∷ back) ≡ length (front ++ y ∷ back) = simp length-append in
    let r : List A = replicate (room - length (front ++ y ∷ back)) b in
    ap (λ (k : ℕ). set ((front ++ x ∷ back) ++ replicate (room - k) b) n y) q
    ∙ ap (λ (l : List A). set l n y) (append_assoc front (x ∷ back) r)
    ∙ set_at front x (back ++ r) y n e
    ∙ sym (append_assoc front (y ∷ back) r)

module _ {A B : Type 0} (lay : B → A) (room : ℕ) (b : A) where
  -- the slots with the first i of one list, and of the other what follows
  abbrev pub overwritten : List B → List B → ℕ → List A
  overwritten new old i = pad room b (map lay (take i new ++ drop i old))

  module _ (new old : List B) (i : ℕ) (d : B) (h : length new ≡ length old) (k : i < length old) where
    at_old : map lay (take i new ++ drop i old) ≡ map lay (take i new) ++ lay (get_or old i d) ∷ map lay (drop (i + 1) old)
    at_old = map-append lay (take i new) (drop i old) ∙ rw (add-one, drop-cons old i d k)

    at_new : map lay (take (i + 1) new ++ drop (i + 1) old) ≡ map lay (take i new) ++ lay (get_or new i d) ∷ map lay (drop (i + 1) old)
    at_new =
        let j : i < length new = omega arith in
        let t : take (i + 1) new ≡ take i new ++ (get_or new i d ∷ []) = rw add-one (take-suc new i d j) in
        ap (λ (l : List B). map lay (l ++ drop (i + 1) old)) t
        ∙ ap (map lay) (append_assoc (take i new) (get_or new i d ∷ []) (drop (i + 1) old))
        ∙ map-append lay (take i new) (get_or new i d ∷ drop (i + 1) old)

    pub overwrite : set (overwritten new old i) i (lay (get_or new i d)) ≡ overwritten new old (i + 1)
    overwrite =
        let n : length (map lay (take i new)) ≡ i = length-map (take i new) lay ∙ length-take-le i new (omega arith) in
        ap (λ (l : List A). set (pad room b l) i (lay (get_or new i d))) at_old
        ∙ set_within room b (map lay (take i new)) (lay (get_or old i d)) (lay (get_or new i d)) (map lay (drop (i + 1) old)) i n
        ∙ ap (pad room b) (sym at_new)

  pub overwritten_all : (new old : List B) (i : ℕ) → length new ≤ i → length old ≤ i → overwritten new old i ≡ pad room b (map lay new)
  overwritten_all new old i h k =
      let e : drop i old ≡ [] = drop_of_length-le old {i = i} k in
      let a : take i new ++ drop i old ≡ new = rw (e, take_all i new h) (append-nil new) in
      ap (λ (l : List B). pad room b (map lay l)) a

  -- each element as a function makes it of what is read of it
  module _ (read : A → B) (g : B → B) (xs : List A) where
    pub overwrite_by : (i : ℕ) (d : A) {items : List A} {x : A} → i < length xs → items ≡ overwritten (map g (map read xs)) (map read xs) i → x ≡ lay (g (read (get_or xs i d))) → set items i x ≡ overwritten (map g (map read xs)) (map read xs) (i + 1)
    overwrite_by i d {items} {x} k e q =
        let old : List B = map read xs in
        let m : length old ≡ length xs = length-map xs read in
        let n : length (map g old) ≡ length old = length-map old g in
        let f : get_or (map g old) i (g (read d)) ≡ g (read (get_or xs i d)) = get_or-map g old i (read d) ∙ ap g (get_or-map read xs i d) in
        rw (e, q, ← f) (overwrite (map g old) old i (g (read d)) n (omega (arith, m)))
