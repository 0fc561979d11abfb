-- The keys of a table, gathered from its slots: what is found of the keys is found of the table.
use Prim.Native.Nat.{ℕ, zero, suc, ◌-◌, ◌≤◌}
use native.Mathlib.Omega.{arith}
use mathlib.Core.Path.{◌≡◌, refl, sym, ap, ◌∙◌}
use mathlib.Core.Bool.{Bool, true, ◌&&◌}
use mathlib.Core.List.{List, [], ◌∷◌, map, map-map}
use borrow.Table.Steps.{cases}
use lib.Dec.{leb}
use lib.IntN.{ℤ, pos}
use lib.ListN.{length, take, replicate}
use lib.Seq.{take-append-le}
use lib.Signed.{lt_z}
use Rattle.rules.specs.Words.{eq_z, all, any, is_in, ascending}
use Rattle.rules.specs.Capacities.{snapshot_room}
use Rattle.rules.specs.Layout.{counted, pad}
use Rattle.rules.specs.Blanks.{tidy_slots}
use Rattle.rules.proofs.Checks.{both, and_left, and_right}
use Rattle.rules.proofs.Tables.{log_formed, by_key, pairs_read}
use Rattle.search.proofs.Places.{eq_z_turned}
use Rattle.tables.proofs.Search.{any_map}
use Rattle.formed.specs.declared.order.Keys.{Keys}
use Rattle.formed.specs.Found.{Told, Found}
use Rattle.formed.proofs.Bools.{asked, not_asked}
use Rattle.formed.proofs.Counted.{read_taken, fitting}
use Rattle.formed.proofs.Filled.{filled_read}

take_map : {A B : Type 0} (f : A → B) (n : ℕ) (l : List A) → take n (map f l) ≡ map f (take n l)
take_map f zero l = refl
take_map f (suc n) [] = refl
take_map f (suc n) (x ∷ l) = ap (λ (r : List _). f x ∷ r) (take_map f n l)

-- what is found of keys with zeros after them is found of the keys, where no more count than there are
pub unpadded : {ok : Bool} (n : ℕ) (l : List ℤ) {k : Keys} → (ok ≡ true → n ≤ length l) → Told ok n (pad snapshot_room (pos 0) l) k → Told ok n l k
unpadded {ok} n l h t =
    record {
      slots = t.slots;
      order = t.order ∙ cases ok (λ y. rw (y, same y)) (λ f. rw f);
      few = t.few;
      keys = λ y. t.keys y ∙ same y;
    }
  where
    same : ok ≡ true → take n (pad snapshot_room (pos 0) l) ≡ take n l
    same y = take-append-le n l (replicate (snapshot_room - length l) (pos 0)) (h y)

-- what is found of the slots is found of the table that is read of them
module _ {A B : Type 0} (rd : A → B) (tidy : A → Bool) (formed : B → Bool) (blank : A → Bool) (key : B → ℤ) (b : A) (room n : ℕ) (items : List A) (e : length items ≡ room) where
  abbrev listed : List B
  listed = map rd (counted b items n)

  abbrev here : Bool
  here = tidy_slots room tidy blank items n

  abbrev passed : Bool
  passed = leb n room && tidy_slots room (λ (x : A). tidy x && formed (rd x)) blank items n

  found : passed ≡ (here && log_formed room formed listed)
  found = filled_read rd tidy formed blank b room n items e

  counted_keys : passed ≡ true → take n (map (λ (x : A). key (rd x)) items) ≡ map key listed
  counted_keys t =
      let m : n ≤ room = fitting rd b items n room here (all formed listed) found t in
      take_map (λ (x : A). key (rd x)) n items ∙ sym (ap (map key) (read_taken rd b items n (omega (arith, e))) ∙ map-map key rd (take n items))

  pub found_read : {k : Keys} → Told passed n (map (λ (x : A). key (rd x)) items) k → Found here room formed key listed k
  found_read t =
      record {
        slots = t.slots ∙ found;
        order = t.order ∙ cases passed
            (λ y. rw y (asked here (log_formed room formed listed) (ascending (by_key lt_z key) listed) found y (ap (ascending lt_z) (counted_keys y) ∙ pairs_read key lt_z listed)))
            (λ f. rw f (not_asked here (log_formed room formed listed) (ascending (by_key lt_z key) listed) found f));
        few = t.few;
        keys = λ y. let y' : passed ≡ true = sym t.slots ∙ y in t.keys y' ∙ counted_keys y';
      }

-- ---- the keys of a table that was found well formed

module _ {A : Type 0} {tidy : Bool} {room : ℕ} {formed : A → Bool} {key : A → ℤ} {l : List A} {k : Keys} (f : Found tidy room formed key l k) (t : k.formed ≡ true) where
  pub keys_found : take k.count k.ids ≡ map key l
  keys_found =
      let o = sym f.order ∙ t in
      f.keys (f.slots ∙ both (and_left tidy _ o) (and_left (log_formed room formed l) _ (and_right tidy _ o)))

  pub found_in : (id : ℤ) → is_in (take k.count k.ids) id ≡ any (λ x. eq_z (key x) id) l
  found_in id = ap (λ (s : List ℤ). is_in s id) keys_found ∙ any_map (eq_z id) key l ∙ ap (λ (q : A → Bool). any q l) (λ i x. eq_z_turned id (key x) i)
