-- The keys of a table, gathered into numbers one by one over zeros, and what a search through them says of the table.
use Prim.Native.Nat.{ℕ, zero, suc, ◌+◌, ◌≤◌, ◌<◌}
use native.Mathlib.Omega.{arith}
use native.Mathlib.Numerals.{add-one}
use mathlib.Core.Path.{◌≡◌, refl, sym, ap, ◌∙◌}
use mathlib.Core.Bool.{Bool}
use mathlib.Core.List.{List, [], ◌∷◌, map}
use lib.IntN.{ℤ, pos}
use lib.ListN.{length, get_or, take, set, replicate, length-append, length-replicate, length-map, get_or-map}
use lib.Pow.{pow_pos}
use lib.Seq.{take-suc, take_all, take_at, length-take-le}
use mir.Syntax.{Width, w32, w64}
use mir.Val.{SFits, hbits}
use Rattle.rules.specs.Words.{eq_z, any, is_in}
use Rattle.rules.specs.Layout.{pad}
use Rattle.rules.proofs.Slots.Relaid.{set_pad}
use Rattle.search.specs.Places.{index_of}
use Rattle.search.proofs.Places.{eq_z_turned}
use Rattle.tables.proofs.Table.{Kind, Tidy, listed, read_length, within, at}
use Rattle.tables.proofs.Search.{any_map}

-- one more element of a list written over blanks
pub pad_more : {A : Type 0} (room i : ℕ) (b d : A) (l : List A) → i < length l → length l ≤ room → set (pad room b (take i l)) i (get_or l i d) ≡ pad room b (take (i + 1) l)
pad_more room i b d l h k = rw (add-one, take-suc l i d h) (set_pad room b (take i l) i (get_or l i d) (length-take-le i l (omega arith)) (omega arith))

pad_length : {A : Type 0} (room : ℕ) (b : A) (l : List A) → length l ≤ room → length (pad room b l) ≡ room
pad_length room b l h = simp (length-append, length-replicate) (omega arith)

pub index_map : {A B : Type 0} (p : B → Bool) (f : A → B) (l : List A) → index_of p (map f l) ≡ index_of (λ x. p (f x)) l
index_map p f [] = refl
index_map p f (x ∷ l) = rw (index_map p f l)

-- r has the keys of the first i
pub record Keyed (K : Kind) (key : K.Plain → ℤ) (t : K.Whole) (r : List ℤ) (i : ℕ) : Type 0 where
  pub fits : K.count t ≤ K.room
  pub sofar : i ≤ K.count t
  pub keys : r ≡ pad K.room (pos 0) (take i (map key (listed K t)))

module _ {K : Kind} {t : K.Whole} (h : Tidy K t) (key : K.Plain → ℤ) where
  keys_long : length (map key (listed K t)) ≡ K.count t
  keys_long = length-map (listed K t) key ∙ read_length h

  pub keyed_start : Keyed K key t (pad K.room (pos 0) []) 0
  keyed_start = record { fits = within h; sofar = omega arith; keys = refl }

  pub keyed_on : {r u : List ℤ} {i : ℕ} (d : K.Slot) → i < K.count t → Keyed K key t r i → u ≡ set r i (key (K.read (get_or (K.items t) i d))) → Keyed K key t u (i + 1)
  keyed_on {r} {u} {i} d b s e =
      let k : get_or (map key (listed K t)) i (key (K.read d)) ≡ key (K.read (get_or (K.items t) i d)) = get_or-map key (listed K t) i (K.read d) ∙ ap key (at h i d b) in
      record {
        fits = s.fits;
        sofar = omega arith;
        keys = e ∙ rw (s.keys, ← k) (pad_more K.room i (pos 0) (key (K.read d)) (map key (listed K t)) (omega (arith, keys_long)) (omega (arith, keys_long, within h)));
      }

  pub keyed_end : {r : List ℤ} {i : ℕ} → K.count t ≤ i → Keyed K key t r i → r ≡ pad K.room (pos 0) (map key (listed K t))
  keyed_end {r} {i} b s = s.keys ∙ ap (pad K.room (pos 0)) (take_all i (map key (listed K t)) (omega (arith, keys_long)))

  -- ---- the keys that are lent

  module _ {r : List ℤ} (e : r ≡ pad K.room (pos 0) (map key (listed K t))) where
    pub lent : take (K.count t) r ≡ map key (listed K t)
    lent = ap (take (K.count t)) e ∙ take_at (map key (listed K t)) _ (K.count t) keys_long

    pub lent_within : K.count t ≤ length r
    lent_within = omega (arith, within h, ap length e ∙ pad_length K.room (pos 0) (map key (listed K t)) (omega (arith, keys_long, within h)))

    pub lent_slice : K.count t ≡ length (take (K.count t) r)
    lent_slice = sym (ap length lent ∙ keys_long)

    pub lent_place : (p : ℤ → Bool) {k : ℕ} → k ≡ index_of p (take (K.count t) r) → k ≡ index_of (λ x. p (key x)) (listed K t)
    lent_place p q = q ∙ ap (index_of p) lent ∙ index_map p key (listed K t)

    pub lent_in : (id : ℤ) → is_in (take (K.count t) r) id ≡ any (λ x. eq_z (key x) id) (listed K t)
    lent_in id = ap (λ (l : List ℤ). is_in l id) lent ∙ any_map (eq_z id) key (listed K t) ∙ ap (λ (q : K.Plain → Bool). any q (listed K t)) (λ i x. eq_z_turned id (key x) i)

-- ---- each of the numbers fits a width

pub wide_fits : {z : ℤ} → SFits w32 z → SFits w64 z
wide_fits f = record { sfits = omega (arith, f.sfits) }

module _ (w : Width) where
  pub zeros_fit : (n k : ℕ) → SFits w (get_or (replicate n (pos 0)) k (pos 0))
  zeros_fit zero k = record { sfits = pow_pos (hbits w) }
  zeros_fit (suc n) zero = record { sfits = pow_pos (hbits w) }
  zeros_fit (suc n) (suc k) = zeros_fit n k

  pub set_fits : (r : List ℤ) (i : ℕ) (z : ℤ) → ((k : ℕ) → SFits w (get_or r k (pos 0))) → SFits w z → (k : ℕ) → SFits w (get_or (set r i z) k (pos 0))
  set_fits [] i z f g k = f k
  set_fits (x ∷ r) zero z f g zero = g
  set_fits (x ∷ r) zero z f g (suc k) = f (suc k)
  set_fits (x ∷ r) (suc i) z f g zero = f zero
  set_fits (x ∷ r) (suc i) z f g (suc k) = set_fits r i z (λ j. f (suc j)) g k

  pub take_fits : (n : ℕ) (r : List ℤ) → ((k : ℕ) → SFits w (get_or r k (pos 0))) → (k : ℕ) → SFits w (get_or (take n r) k (pos 0))
  take_fits zero r f k = record { sfits = pow_pos (hbits w) }
  take_fits (suc n) [] f k = f k
  take_fits (suc n) (x ∷ r) f zero = f zero
  take_fits (suc n) (x ∷ r) f (suc k) = take_fits n r (λ j. f (suc j)) k
