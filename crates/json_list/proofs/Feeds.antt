-- A part, update by update.
use Prim.Native.Nat.{ℕ, ◌+◌, ◌-◌, ◌%◌, ◌≤◌, ◌<◌, min}
use mathlib.Core.Path.{◌≡◌, sym, ap, ◌∙◌}
use mathlib.Core.Bool.{Bool, true, false, ◌&&◌}
use mathlib.Core.List.{List}
use native.Mathlib.Nat.{add-zero}
use native.Mathlib.Omega.{arith}
use borrow.Author.Tests.{leb-true, leb-false, ltb-true, eq-eqb, ne_eqb}
use borrow.Table.Steps.{cases}
use lib.Dec.{eqb, leb, ltb}
use lib.ListN.{length, get_or, take, length-take, drop_of_length-le}
use lib.Seq.{take_all, take-length}
use Rattle.records.specs.Blanks.{no_updates}
use Rattle.records.specs.declared.update.TableUpdate.{TableUpdate}
use Rattle.records.specs.declared.update.UpdateList.{UpdateList}
use Rattle.rules.proofs.Checks.{and_right}
use Rattle.json_machine.specs.declared.Lexer.{Lexer}
use Rattle.json_machine.specs.Modes.{between_mode, stopped_mode, may_end}
use Rattle.json_machine.specs.Lexing.{Reading, reading}
use Rattle.json_members.specs.Slots.{number_in, place_in}
use Rattle.json_members.specs.Model.{taking_end}
use Rattle.json_store.specs.Made.{offers_with, offers_end}
use Rattle.json_feed.specs.Feeding.{Fed, fed, fed_all, last_fed}
use Rattle.json_list.specs.declared.step.Run.{Run}
use Rattle.json_list.specs.Listing.{Work, Listing, listing, Worked, worked_to, place_of, with_item, made_of, offer_of, with_update, storing, lists}
use Rattle.json_list.specs.Turns.{run_of, Turn, turn}
use Rattle.json_list.specs.Parts.{onward, ReadsOn}
use Rattle.json_list.specs.States.{state, readable, feeding, no_offers, last_worked, Ended, ended, answering, ending_of, ending}

-- ---- an update that is closed

-- there is room for it
pub room_for : (done place : ℕ) (t : Bool) → t ≡ eqb done 2 && ltb place 64 → t ≡ true → place < 64
room_for done place t e f = ltb-true place 64 (and_right (eqb done 2) (ltb place 64) (sym e ∙ f))

module _ (w : Work) (list : UpdateList) (offered : ℕ) (offers : List ℕ) (done place : ℕ) (t : Bool) (p : place ≡ place_of w) (e : t ≡ eqb done 2 && ltb place 64) where
  pub stored : t ≡ true → (u : TableUpdate) (offers' : List ℕ) (offered' : ℕ) → u ≡ made_of offered w → offers' ≡ offers_with offered (offer_of w) offers → offered' ≡ offers_end offered (offer_of w) → storing done (listing w list offered offers) ≡ listing w (with_item place u list) offered' offers'
  unfolding storing with_update
  stored f u offers' offered' a b c = rw (← p, sym e ∙ f, a, b, c)

  pub passed : t ≡ false → storing done (listing w list offered offers) ≡ listing w list offered offers
  unfolding storing
  passed f = rw (← p, sym e ∙ f)

module _ (before : ℕ) (part : List ℕ) (r : Reading) (w : Work) (i : ℕ) (y : Turn) (s : ReadsOn before part (turn r w i 0) y) (list : UpdateList) (offered : ℕ) (offers : List ℕ) where
  pub reads_to : (l : Listing) → storing y.done (listing y.work list offered offers) ≡ l → onward before part i r (listing w list offered offers) ≡ onward before part y.place y.reading l
  unfolding storing
  reads_to l e = s.leads list offered offers ∙ ap (λ (x : Listing). onward before part y.place y.reading x) e

-- ---- how much of a part is read

module _ (before : ℕ) (part : List ℕ) (n : ℕ) (h : n ≡ min (18446744073709551615 - before) (length part)) where
  pub part_long : n ≡ length (take n part)
  part_long = simp length-take (omega arith)

  pub part_fits : (i : ℕ) → i < n → (i < length (take n part)) × (before + length (take n part) < 18446744073709551616)
  part_fits i l = let e = part_long in (omega arith, omega arith)

  part_read : take n part ≡ readable before part
  part_read =
      let m = 18446744073709551615 - before in
      cases (leb m (length part))
      (λ t. let e : n ≡ m = omega (arith, leb-true m (length part) t) in rw e)
      (λ f. let g = leb-false m (length part) f in let e : n ≡ length part = omega arith in rw (e, take-length part) (sym (take_all m part (omega arith))))

  -- all of it
  module _ (l : Lexer) (kept : List ℕ) (x : Listing) (run₀ : Run) (e : run₀ ≡ run_of l l.mode 0 0) (i : ℕ) (r : Reading) (y : Listing) where
    from_start : onward before (take n part) run₀.at (reading run₀.lexer kept) x ≡ fed_all lists before (fed (reading l kept) x) (readable before part)
    from_start =
        ap (λ (q : Run). onward before (take n part) q.at (reading q.lexer kept) x) e
        ∙ ap (λ (p : ℕ). fed_all lists p (fed (reading l kept) x) (take n part)) (add-zero before)
        ∙ ap (λ (bs : List ℕ). fed_all lists before (fed (reading l kept) x) bs) part_read

    to_end : n ≤ i → onward before (take n part) i r y ≡ fed r y
    unfolding fed_all
    to_end g = ap (λ (bs : List ℕ). fed_all lists (before + i) (fed r y) bs) (drop_of_length-le (take n part) {i = i} (omega (arith, part_long)))

    pub part_fed : n ≤ i → onward before (take n part) run₀.at (reading run₀.lexer kept) x ≡ onward before (take n part) i r y → state (before + n) (fed r y) ≡ feeding part (state before (fed (reading l kept) x))
    unfolding feeding
    part_fed g f =
        ap (λ (m : ℕ). state (before + m) (fed r y)) (part_long ∙ ap length part_read)
        ∙ ap (λ (z : Fed Listing). state (before + length (readable before part)) z) (sym (to_end g) ∙ sym f ∙ from_start)

-- ---- the end of the text

module _ (len : ℕ) (r : Reading) (w : Work) (list : UpdateList) (offered : ℕ) (offers : List ℕ) where
  last_feeds : (last_fed lists len (fed r (listing w list offered offers))).sink ≡ storing (last_worked len r w).done (listing (last_worked len r w).work list offered offers)
  unfolding last_fed last_worked storing
  last_feeds =
      let m = r.lexer.mode in
      cases (may_end m) (λ t. rw t)
      (λ n. cases (eqb m between_mode) (λ t. rw (n, t))
      (λ nb. cases (eqb m stopped_mode) (λ t. rw (n, nb, t)) (λ ns. rw (n, nb, ns))))

  pub ended_by : (v : Work) (done : ℕ) (list' : UpdateList) (offered' : ℕ) (offers' slots : List ℕ) (x : Ended) → worked_to v done ≡ last_worked len r w → listing v list' offered' offers' ≡ storing done (listing v list offered offers) → slots ≡ taking_end len v.slots → x ≡ answering slots list' offered' offers' → x ≡ ending (state len (fed r (listing w list offered offers)))
  unfolding ending
  ended_by v done list' offered' offers' slots x a b c d =
      let e : (last_fed lists len (fed r (listing w list offered offers))).sink ≡ listing v list' offered' offers' = last_feeds ∙ ap (λ (y : Worked). storing y.done (listing y.work list offered offers)) (sym a) ∙ sym b in
      d ∙ ap (λ (s : List ℕ). answering s list' offered' offers') c ∙ ap (λ (l : Listing). ending_of len l) (sym e)

-- ---- the answer

module _ (slots : List ℕ) (list : UpdateList) (offered : ℕ) (offers : List ℕ) where
  pub answered_list : number_in slots ≡ 0 → ended (record { number = 0; place = 0; list = record { items = list.items; count = get_or slots 13 0 }; offered = offered }) offers ≡ answering slots list offered offers
  unfolding answering
  answered_list e = rw (eq-eqb (number_in slots) 0 e)

  pub answered_refusal : (none : UpdateList) (after : List ℕ) → (number_in slots ≡ 0 → ⊥) → none ≡ no_updates → after ≡ no_offers offers → ended (record { number = number_in slots % 256; place = place_in slots; list = none; offered = 0 }) after ≡ answering slots list offered offers
  unfolding answering
  answered_refusal none after n a b = rw (ne_eqb (number_in slots) 0 n, a, b)
