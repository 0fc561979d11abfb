-- The ids of a table that stand in a list of ids, gathered from the front.
use Prim.Native.Nat.{ℕ, ◌+◌, ◌≤◌, ◌<◌}
use native.Mathlib.Omega.{arith}
use mathlib.Core.Path.{◌≡◌, sym, ap, ◌∙◌}
use mathlib.Core.Bool.{true, false}
use mathlib.Core.List.{List, [], ◌∷◌, ◌++◌, map, map-append}
use lib.IntN.{ℤ}
use lib.ListN.{length, get_or, take, length-append, length-map}
use lib.Signed.{lt_z}
use Rattle.rules.specs.Words.{keep, is_in, ascending}
use Rattle.rules.proofs.Replay.Keys.{held_ids}
use Rattle.rules.proofs.Tables.{by_key}
use Rattle.tables.proofs.Table.{Kind, Tidy, listed, within}
use Rattle.tables.proofs.Filter.{keep_one, keep_none, keep_front, keep_all}
use Rattle.rules.proofs.Replay.Keys.{kept_count}

-- r has the ids among the first i that stand in the list
pub record Gathered {R : Type 0} (K : Kind) (laid : List ℤ → R) (key : K.Plain → ℤ) (ids : List ℤ) (t : K.Whole) (r : R) (i : ℕ) : Type 0 where
  pub fits : K.count t ≤ K.room
  pub sofar : i ≤ K.count t
  pub gathered : r ≡ laid (held_ids key ids (take i (listed K t)))

module _ {K : Kind} {t : K.Whole} (h : Tidy K t) {R : Type 0} {laid : List ℤ → R} {key : K.Plain → ℤ} {ids : List ℤ} where
  pub gather_start : {r : R} → r ≡ laid [] → Gathered K laid key ids t r 0
  gather_start e = record { fits = within h; sofar = omega arith; gathered = e }

  module _ {r : R} {i : ℕ} (d : K.Slot) (b : i < K.count t) (s : Gathered K laid key ids t r i) where
    pub gather_less : is_in ids (key (K.read (get_or (K.items t) i d))) ≡ false → Gathered K laid key ids t r (i + 1)
    gather_less e = record { fits = s.fits; sofar = omega arith; gathered = s.gathered ∙ ap (λ (l : List K.Plain). laid (map key l)) (sym (keep_none h (λ x. is_in ids (key x)) i d b e)) }

    module _ (e : is_in ids (key (K.read (get_or (K.items t) i d))) ≡ true) where
      held_one : held_ids key ids (take (i + 1) (listed K t)) ≡ held_ids key ids (take i (listed K t)) ++ (key (K.read (get_or (K.items t) i d)) ∷ [])
      held_one = ap (map key) (keep_one h (λ x. is_in ids (key x)) i d b e) ∙ map-append key (keep (λ x. is_in ids (key x)) (take i (listed K t))) _

      pub gather_more : {l : List ℤ} {u : R} → l ≡ held_ids key ids (take i (listed K t)) → u ≡ laid (l ++ (key (K.read (get_or (K.items t) i d)) ∷ [])) → Gathered K laid key ids t u (i + 1)
      gather_more {l} {u} g q = record { fits = s.fits; sofar = omega arith; gathered = q ∙ ap laid (rw g (sym held_one)) }

      -- one more is not yet gathered than are asked for
      pub gather_room : ascending (by_key lt_z key) (listed K t) ≡ true → length (held_ids key ids (take i (listed K t))) < length ids
      gather_room a =
          let n = ap length held_one ∙ length-append (held_ids key ids (take i (listed K t))) _ in
          let k = length-map (keep (λ x. is_in ids (key x)) (take (i + 1) (listed K t))) key in
          omega (arith, n, k, keep_front (λ x. is_in ids (key x)) (i + 1) (listed K t), kept_count key ids (listed K t) a)

  pub gather_end : {r : R} {i : ℕ} → K.count t ≤ i → Gathered K laid key ids t r i → r ≡ laid (held_ids key ids (listed K t))
  gather_end b s = s.gathered ∙ ap (λ (l : List K.Plain). laid (map key l)) (keep_all h (λ x. is_in ids (key x)) b)
