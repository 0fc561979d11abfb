-- Before the first byte.
use Prim.Native.Nat.{ℕ}
use native.Mathlib.Omega.{arith}
use mathlib.Core.Path.{◌≡◌, refl, sym, ap, subst, ◌∙◌}
use mathlib.Core.List.{List, []}
use lib.ListN.{length, get_or, replicate, length-replicate}
use Rattle.records.specs.Blanks.{no_update, no_updates}
use Rattle.json_rule.proofs.Fits.{offers_room}
use Rattle.json_members.specs.Slots.{start_slots}
use Rattle.json_made.proofs.Listed.{ListMade, list_begins}
use Rattle.json_stands.proofs.Laid.{State, laid}
use Rattle.json_stands.proofs.Stands.{start_stands}
use Rattle.json_list.specs.Listing.{Listing, work, listing}
use Rattle.json_list.specs.States.{no_offers}
use Rattle.json_list.proofs.States.{zeroing_all}
use Rattle.json_store.specs.Puts.{store}
use Rattle.json_gather.proofs.Gathers.{nothing}
use Rattle.json_gather.proofs.Gathered.{Gathered, here_at}
use Rattle.json_answer.proofs.Counted.{first}
use Rattle.json_answer.proofs.Follows.{both_start, Follows}

-- ---- the start

abbrev pub listing_at_start : List ℕ → Listing
listing_at_start offers = listing (work start_slots (replicate 304 0) (replicate 1731 0)) no_updates 0 (no_offers offers)

made_start : (offers : List ℕ) → length offers ≡ offers_room → ListMade [] no_updates.items 0 (no_offers offers) 0
unfolding no_updates
made_start offers e = subst (λ (l : List ℕ). ListMade [] (replicate 64 no_update) 0 l 0) (sym (zeroing_all offers_room offers e)) list_begins

-- a number of the first state
start_at : (i : ℕ) → get_or start_slots i 0 ≡ get_or (laid start_stands.by) i 0
start_at i = ap (λ (l : List ℕ). get_or l i 0) start_stands.laid_so

gathered_start : (s : State) → s.expect ≡ 0 → s.within ≡ 0 → s.wanted ≡ 1 → s.passed ≡ 0 → length s.held.marks ≡ 64 → Gathered s (store (replicate 304 0) (replicate 1731 0)) []
gathered_start s e w v q z =
    record {
      judged = [];
      above = here_at q;
      gathers = rw w (nothing (λ _. v));
      long = record { numbers = length-replicate {A = ℕ} 304 0; texts = length-replicate {A = ℕ} 1731 0 };
      sized = z;
      idle = λ n. absurd (n q);
      first = λ f _. absurd (omega arith);
      goes = λ f. omega arith;
    }

pub start_follows : (offers : List ℕ) → length offers ≡ offers_room → Follows (listing_at_start offers) both_start
start_follows offers e =
    let s = start_stands.by in
    record {
      stands = start_stands;
      long = ap length (zeroing_all offers_room offers e) ∙ length-replicate {A = ℕ} offers_room 0;
      good =
          λ _. record {
            by = s;
            laid_so = start_stands.laid_so;
            stands = start_stands.stands;
            gathered = gathered_start s (sym (start_at 0)) (sym (start_at 2)) (sym (start_at 3)) (sym (start_at 4)) start_stands.stands.frames.sized.marks_all;
            counted = first (sym (start_at 0)) (sym (start_at 2)) (sym (start_at 3)) (sym (start_at 4)) refl;
            made = made_start offers e;
          };
    }
