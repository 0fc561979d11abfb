-- An offer behind those before it, if there is room.
use Prim.Native.Nat.{ℕ, ◌+◌, ◌-◌, ◌≤◌, ◌<◌}
use mathlib.Core.Path.{◌≡◌, sym, ap, ◌∙◌}
use mathlib.Core.List.{List}
use native.Mathlib.Omega.{arith}
use borrow.Author.Tests.{le-leb, lt-leb}
use borrow.Table.Steps.{cases}
use lib.Dec.{eqb}
use lib.ListN.{length}
use lib.Seq.{sets}
use Rattle.json_members.specs.Kept.{front}
use Rattle.json_store.specs.Puts.{part}
use Rattle.json_store.specs.Made.{offer_in, offer_fits, offers_with, offers_end}
use Rattle.json_store.specs.Parts.{offer_at, offer_length}
use Rattle.json_store.proofs.Stores.{part_length}

pub offer_part : (kind : ℕ) (numbers texts : List ℕ) → part (offer_at kind) (offer_length kind numbers) texts ≡ offer_in kind numbers texts
unfolding offer_at offer_length offer_in front
offer_part kind numbers texts =
    cases (eqb kind 9) (λ t. rw t) (λ a. rw a (cases (eqb kind 18) (λ t. rw t) (λ b. rw b)))

module _ (kind place : ℕ) (numbers texts : List ℕ) (len : ℕ) (is : len ≡ offer_length kind numbers) where
  pub offer_long : length (offer_in kind numbers texts) ≡ len
  offer_long = sym (ap length (offer_part kind numbers texts)) ∙ part_length (offer_at kind) (offer_length kind numbers) texts ∙ sym is

  module _ (most : offer_at kind + len ≤ 1731) where
    pub no_room : (offers : List ℕ) → 77824 - len < place → (offers ≡ offers_with place (offer_in kind numbers texts) offers) × (place ≡ offers_end place (offer_in kind numbers texts))
    unfolding offer_fits
    no_room offers h = let n = lt-leb (place + length (offer_in kind numbers texts)) 77824 (omega (arith, offer_long)) in (rw n, rw n)

    pub appended : (offers E : List ℕ) (from : ℕ) → from ≡ offer_at kind → place ≤ 77824 - len → E ≡ sets offers place (part from len texts) → (E ≡ offers_with place (offer_in kind numbers texts) offers) × (place + len ≡ offers_end place (offer_in kind numbers texts))
    unfolding offer_fits
    appended offers E from f h e =
        let n = le-leb (place + length (offer_in kind numbers texts)) 77824 (omega (arith, offer_long)) in
        (rw n (e ∙ rw (f, is) (ap (sets offers place) (offer_part kind numbers texts))), rw n (ap (λ (k : ℕ). place + k) (sym offer_long)))
