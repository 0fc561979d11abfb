-- The list of the updates that were closed, one behind the other: laid out in a blank list, and what they offer behind what was offered before.
use Prim.Native.Nat.{ℕ, suc, ◌+◌, ◌-◌, ◌*◌, ◌≤◌, ◌<◌}
use native.Mathlib.Nat.{add-zero, zero-add}
use native.Mathlib.Omega.{arith}
use mathlib.Core.Path.{◌≡◌, refl, sym, ap, ◌∙◌}
use mathlib.Core.Bool.{true}
use mathlib.Core.List.{List, [], ◌∷◌, ◌++◌, map, append_assoc, append-nil}
use mathlib.Core.Option.{some}
use borrow.Author.Tests.{leb-true, le-leb}
use borrow.Table.Steps.{cases}
use lib.Dec.{eqb, leb}
use lib.ListN.{length, set, replicate, take, length-append, length-map}
use lib.Seq.{sets, set_at, take-append_seam}
use Rattle.records.specs.Blanks.{no_update}
use Rattle.records.specs.declared.update.TableUpdate.{TableUpdate}
use Rattle.records.specs.declared.update.UpdateList.{UpdateList}
use Rattle.rules.specs.Capacities.{list_room, schema_field_room, field_bytes}
use Rattle.rules.specs.Layout.{pad}
use Rattle.rules.specs.Register.{Update}
use Rattle.rules.specs.Kinds.{laid_update, laid_updates, add_schema_kind, add_partition_spec_kind}
use Rattle.rules.proofs.Checks.{by_test}
use Rattle.json_rule.specs.Tree.{Members}
use Rattle.json_rule.specs.Records.{Sent, offer_of, offers_of, update_at, updates_from}
use Rattle.json_rule.specs.Shapes.{Action}
use Rattle.json_rule.proofs.Fits.{updates_length, offers_room}
use Rattle.json_members.specs.Slots.{kind_in}
use Rattle.json_members.specs.Rows.{action_at}
use Rattle.json_store.specs.Places.{fields_at, partitions_at}
use Rattle.json_store.specs.Numbers.{magnitude_at, count_at}
use Rattle.json_store.specs.Made.{update_made, offer_in, offer_fits, offers_with, offers_end}
use Rattle.json_store.specs.Puts.{part}
use Rattle.json_store.specs.Stored.{UpdateHeld}
use Rattle.json_store.proofs.Stores.{part_length}
use Rattle.json_made.proofs.Made.{IsMade, update_made_lem}

-- ---- blanks

module _ {A : Type 0} (room : ℕ) (b : A) where
  pad_none : replicate room b ≡ pad room b []
  pad_none = let e : room ≡ room - 0 = omega arith in ap (λ n. replicate n b) e

  -- one more, behind those that are there
  pad_next : (xs : List A) (a : A) (n : ℕ) → length xs ≡ n → n < room → set (pad room b xs) n a ≡ pad room b (xs ++ a ∷ [])
  pad_next xs a n e h =
      let k : room - length xs ≡ suc (room - suc (length xs)) = omega arith in
      let l : room - length (xs ++ a ∷ []) ≡ room - suc (length xs) = simp length-append (omega arith) in
      rw (k, l, append_assoc xs (a ∷ []) (replicate (room - suc (length xs)) b)) (set_at xs b (replicate (room - suc (length xs)) b) a n e)

  -- some more
  pad_more : (xs vs : List A) (n : ℕ) → length xs ≡ n → n + length vs ≤ room → sets (pad room b xs) n vs ≡ pad room b (xs ++ vs)
  pad_more xs [] n e h = rw append-nil
  pad_more xs (a ∷ vs) n e h =
      ap (λ (l : List A). sets l (suc n) vs) (pad_next xs a n e (omega arith))
      ∙ (pad_more (xs ++ a ∷ []) vs (suc n) (simp length-append (omega arith)) (omega arith)
      ∙ ap (pad room b) (append_assoc xs (a ∷ []) vs))

-- ---- with one more that is sent

offers_more : (sent : List Sent) (x : Sent) → offers_of (sent ++ x ∷ []) ≡ offers_of sent ++ offer_of x
offers_more [] x = append-nil (offer_of x)
offers_more (y ∷ sent) x = rw (offers_more sent x, append_assoc)

updates_more : (place : ℕ) (sent : List Sent) (x : Sent) → updates_from place (sent ++ x ∷ []) ≡ updates_from place sent ++ update_at (place + length (offers_of sent)) x ∷ []
updates_more place [] x = ap (λ p. update_at p x ∷ []) (sym (add-zero place))
updates_more place (y ∷ sent) x =
    ap (λ (l : List Update). update_at place y ∷ l)
    (updates_more (place + length (offer_of y)) sent x
    ∙ ap (λ p. updates_from (place + length (offer_of y)) sent ++ update_at p x ∷ []) (simp length-append (omega arith)))

map_more : {A B : Type 0} (f : A → B) (xs ys : List A) → map f (xs ++ ys) ≡ map f xs ++ map f ys
map_more f [] ys = refl
map_more f (x ∷ xs) ys = rw (map_more f xs ys)

-- ---- the list so far

-- what one update offers at most: 32 fields of a schema
abbrev pub most_offered : ℕ
most_offered = schema_field_room * field_bytes

-- the updates that were sent so far are laid out, and as many are counted; what they offer stands in front of zeros, and ends at a place
pub record ListMade (sent : List Sent) (items : List TableUpdate) (count : ℕ) (offers : List ℕ) (end : ℕ) : Type 0 where
  pub laid : items ≡ pad list_room no_update (map laid_update (updates_from 0 sent))
  pub counted : count ≡ length sent
  pub offered : offers ≡ pad offers_room 0 (offers_of sent)
  pub ended : end ≡ length (offers_of sent)
  pub short : length (offers_of sent) ≤ length sent * most_offered

pub list_begins : ListMade [] (replicate list_room no_update) 0 (replicate offers_room 0) 0
list_begins = record { laid = pad_none list_room no_update; counted = refl; offered = pad_none offers_room 0; ended = refl; short = omega arith }

-- ---- one update more

laid_more : (sent : List Sent) (x : Sent) → length sent < list_room
    → set (pad list_room no_update (map laid_update (updates_from 0 sent))) (length sent) (laid_update (update_at (length (offers_of sent)) x)) ≡ pad list_room no_update (map laid_update (updates_from 0 (sent ++ x ∷ [])))
laid_more sent x h =
    pad_next list_room no_update (map laid_update (updates_from 0 sent)) (laid_update (update_at (length (offers_of sent)) x)) (length sent) (length-map (updates_from 0 sent) laid_update ∙ updates_length 0 sent) h
    ∙ ap (pad list_room no_update)
    (sym (ap (map laid_update) (updates_more 0 sent x ∙ ap (λ p. updates_from 0 sent ++ update_at p x ∷ []) (zero-add (length (offers_of sent)))) ∙ map_more laid_update (updates_from 0 sent) (update_at (length (offers_of sent)) x ∷ [])))

pub list_more : (sent : List Sent) (x : Sent) {items : List TableUpdate} {count : ℕ} {offers : List ℕ} {end : ℕ} → ListMade sent items count offers end → length sent < list_room → length (offer_of x) ≤ most_offered
    → ListMade (sent ++ x ∷ []) (set items count (laid_update (update_at end x))) (count + 1) (offers_with end (offer_of x) offers) (offers_end end (offer_of x))
unfolding offer_fits
list_more sent x {items} {count} {offers} {end} m h o =
    let room : length (offers_of sent) + length (offer_of x) ≤ offers_room = omega (arith, m.short) in
    let fits : leb (length (offers_of sent) + length (offer_of x)) offers_room ≡ true = le-leb (length (offers_of sent) + length (offer_of x)) offers_room room in
    let length_more : length (offers_of (sent ++ x ∷ [])) ≡ length (offers_of sent) + length (offer_of x) = ap length (offers_more sent x) ∙ length-append (offers_of sent) (offer_of x) in
    record {
      laid = rw (m.laid, m.counted, m.ended) (laid_more sent x h);
      counted = rw (m.counted, length-append sent (x ∷ []));
      offered = rw (m.offered, m.ended, fits, offers_more sent x) (pad_more offers_room 0 (offers_of sent) (offer_of x) (length (offers_of sent)) refl room);
      ended = rw (m.ended, fits) (sym length_more);
      short = rw length_more (omega (arith, m.short, length-append sent (x ∷ [])));
    }

-- ---- the update of what is stored

part_short : (place n room : ℕ) (l : List ℕ) → n ≤ room → length (part place n l) ≤ room
part_short place n room l h = rw (part_length place n l) h

count_short : (room : ℕ) (numbers : List ℕ) (list : ℕ) → count_at room numbers list ≤ room
unfolding count_at
count_short room numbers list =
    cases (leb (magnitude_at numbers list) room) (λ t. rw t (leb-true (magnitude_at numbers list) room t)) (λ f. rw f (omega arith))

offer_short : (kind : ℕ) (numbers texts : List ℕ) → length (offer_in kind numbers texts) ≤ most_offered
unfolding offer_in
offer_short kind numbers texts =
    by_test (λ (l : List ℕ). length l ≤ most_offered) (eqb kind add_schema_kind)
    (λ _. part_short fields_at (count_at 32 numbers 38 * 38) most_offered texts (omega (arith, count_short 32 numbers 38)))
    (λ _. by_test (λ (l : List ℕ). length l ≤ most_offered) (eqb kind add_partition_spec_kind)
    (λ _. part_short partitions_at (count_at 8 numbers 52 * 42) most_offered texts (omega (arith, count_short 8 numbers 52)))
    (λ _. omega arith))

-- an update that is closed, with its members stored
pub list_closed : (sent : List Sent) {items : List TableUpdate} {count : ℕ} {offers : List ℕ} {end : ℕ} → ListMade sent items count offers end → length sent < list_room
    → (slots numbers texts : List ℕ) (a : Action) (ms : Members) → action_at (kind_in slots) ≡ some a → UpdateHeld slots numbers texts (kind_in slots) ms
    → ListMade (sent ++ a.sends ms ∷ []) (set items count (update_made end slots numbers texts)) (count + 1)
    (offers_with end (offer_in (kind_in slots) numbers texts) offers) (offers_end end (offer_in (kind_in slots) numbers texts))
list_closed sent {end = end} m h slots numbers texts a ms e s =
    let made : IsMade (kind_in slots) end slots numbers texts (a.sends ms) = update_made_lem (kind_in slots) a e end slots numbers texts ms s in
    rw (made.update, made.offer) (list_more sent (a.sends ms) m h (omega (arith, offer_short (kind_in slots) numbers texts, ap length made.offer)))

-- ---- the list of all, and what all offer

pub list_ends : (sent : List Sent) {items : List TableUpdate} {count : ℕ} {offers : List ℕ} {end : ℕ} → ListMade sent items count offers end
    → ◌≡◌ {A = UpdateList} (record { items = items; count = count }) (laid_updates (updates_from 0 sent))
unfolding laid_updates
list_ends sent m = λ i. record { items = m.laid i; count = (m.counted ∙ sym (updates_length 0 sent)) i }

pub offers_end_lem : (sent : List Sent) {items : List TableUpdate} {count : ℕ} {offers : List ℕ} {end : ℕ} → ListMade sent items count offers end → take end offers ≡ offers_of sent
offers_end_lem sent m = rw (m.offered, m.ended) (take-append_seam (offers_of sent) (replicate (offers_room - length (offers_of sent)) 0))
