-- Tables read slot by slot: from the end, and from a place on.
use Prim.Native.Nat.{ℕ, zero, suc, ◌+◌, ◌-◌, ◌≤◌, ◌<◌}
use native.Mathlib.Omega.{arith}
use mathlib.Core.Path.{◌≡◌, refl, sym, ap, ◌∙◌}
use mathlib.Core.Bool.{Bool, true, false}
use mathlib.Core.List.{List, [], ◌∷◌, ◌++◌, map}
use mathlib.Core.Option.{some}
use lib.ListN.{length, get_or, take, drop, length-map, take-append-drop}
use lib.Seq.{take-append-le, take_all}
use Rattle.std.proofs.lemmas.List.{drop-take}
use Rattle.rules.specs.Words.{any, last_of, after_last}
use Rattle.tables.proofs.Table.{Kind, Tidy, listed, read_length, rest, next}
use Rattle.close.proofs.Moved.{drop_map}
use Rattle.close.proofs.Scans.{after_here, last_added_lem}

module _ {K : Kind} {t : K.Whole} (h : Tidy K t) (i : ℕ) (d : K.Slot) (b : i < K.count t) where
  abbrev here : K.Plain
  here = K.read (get_or (K.items t) i d)

  module _ (p : K.Plain → Bool) where
    -- back from the end: the test holds for none from this slot on
    pub none_from : p here ≡ false → any p (drop (i + 1) (listed K t)) ≡ false → any p (drop i (listed K t)) ≡ false
    none_from e n = rw (rest h i d b, e) n

    -- or this is the last for which it holds
    pub last_here : p here ≡ true → any p (drop (i + 1) (listed K t)) ≡ false → after_last p (listed K t) ≡ drop (i + 1) (listed K t)
    last_here e n =
        let s : take i (listed K t) ++ (here ∷ drop (i + 1) (listed K t)) ≡ listed K t = ap (λ (r : List K.Plain). take i (listed K t) ++ r) (sym (rest h i d b)) ∙ take-append-drop i (listed K t) in
        ap (after_last p) (sym s) ∙ after_here p (take i (listed K t)) here (drop (i + 1) (listed K t)) e n

-- the last stands in the slot before the count
pub last_read : {K : Kind} {t : K.Whole} (h : Tidy K t) (d : K.Slot) → 0 < K.count t → last_of (listed K t) ≡ some (K.read (get_or (K.items t) (K.count t - 1) d))
last_read {K} {t} h d z =
    let s : (K.count t - 1) + 1 ≡ K.count t = omega arith in
    let l : take (K.count t) (listed K t) ≡ listed K t = take_all (K.count t) (listed K t) (omega (arith, read_length h)) in
    ap last_of (sym l ∙ ap (λ (n : ℕ). take n (listed K t)) (sym s) ∙ next h (K.count t - 1) d (omega arith)) ∙ last_added_lem (take (K.count t - 1) (listed K t)) _

take_map : {A B : Type 0} (f : A → B) (n : ℕ) (l : List A) → take n (map f l) ≡ map f (take n l)
take_map f zero l = refl
take_map f (suc n) [] = refl
take_map f (suc n) (x ∷ l) = rw (take_map f n l)

-- the slots from a place up to another are laid out from what is read there
pub part_laid : {K : Kind} {t : K.Whole} (h : Tidy K t) {from until : ℕ} → from ≤ until → until ≤ K.count t → take (until - from) (drop from (K.items t)) ≡ map K.lay (drop from (take until (listed K t)))
part_laid {K} {t} h {from} {until} f b =
    let q : from + (until - from) ≡ until = omega arith in
    let n : length (map K.lay (listed K t)) ≡ K.count t = length-map (listed K t) K.lay ∙ read_length h in
    let w : take until (K.items t) ≡ map K.lay (take until (listed K t)) = ap (take until) h.slots ∙ take-append-le until (map K.lay (listed K t)) _ (omega (arith, n)) ∙ take_map K.lay until (listed K t) in
    sym (drop-take from (until - from) (K.items t)) ∙ ap (λ (k : ℕ). drop from (take k (K.items t))) q ∙ ap (drop from) w ∙ drop_map K.lay from (take until (listed K t))
