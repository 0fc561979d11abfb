-- Reading on in a part, turn by turn.
use Prim.Native.Nat.{ℕ, suc, ◌+◌, ◌≤◌, ◌<◌}
use mathlib.Core.Path.{◌≡◌, refl, sym, ap, ◌∙◌}
use mathlib.Core.Bool.{Bool, true, false, cond, true≢false}
use mathlib.Core.List.{List}
use native.Mathlib.Omega.{arith}
use borrow.Author.Tests.{eqb-true, ne_eqb}
use borrow.Table.Steps.{cases}
use lib.Dec.{eqb, ltb}
use lib.ListN.{length, get_or, drop, length-drop}
use lib.Seq.{slice, drop-cons}
use Rattle.records.specs.declared.update.UpdateList.{UpdateList}
use Rattle.json_machine.specs.declared.Text.{Text}
use Rattle.json_machine.specs.declared.Lexer.{Lexer}
use Rattle.json_machine.specs.Modes.{between_mode, text_mode, stopped_mode, whole, broken, ended, after_mode}
use Rattle.json_machine.specs.Digest.{Keeps, counted, settled, plain_run}
use Rattle.json_machine.specs.Lexing.{in_mode, with_text, Reading, reading, with_next, head_of, read_byte}
use Rattle.json_machine.proofs.Plain.{plain_run_within}
use Rattle.json_feed.specs.Feeding.{Fed, fed, whole_fed, broken_fed, fed_once, fed_byte, fed_all}
use Rattle.json_feed.proofs.Steps.{begun_not_ended, fed_broken, fed_ended, fed_mode}
use Rattle.json_feed.proofs.Runs.{fed_run}
use Rattle.json_list.specs.Listing.{Work, Listing, listing, storing, broken_work, lists}
use Rattle.json_list.specs.Turns.{Turn, turn, whole_turn, stepped}
use Rattle.json_list.specs.Parts.{left, onward, listing_of, ReadsOn, PastPlain}

-- ---- how much is left

-- at most two turns for each byte
one_more_lem : (m : ℕ) → cond (eqb m between_mode) 0 1 ≤ 1
one_more_lem m = cases (eqb m between_mode) (λ t. rw t (omega arith)) (λ f. rw f (omega arith))

-- a byte further
module _ (len i j : ℕ) (r q : Reading) where
  left_further : i < len → i < j → left len j q < left len i r
  left_further h g = omega (arith, one_more_lem q.lexer.mode)

-- ---- the plain bytes of a text

module _ (part : List ℕ) (from end : ℕ) (f : from < length part) (e : end ≡ from + plain_run (drop from part)) where
  pub run_within : end ≤ length part
  run_within = omega (arith, plain_run_within (drop from part), length-drop from part)

  pub past_run : (l : Lexer) (t : Text) (kept after : List ℕ) (len : ℕ) → l.mode ≡ text_mode → from < end → t ≡ settled l.text → Keeps kept t.len (slice from end part) len after → PastPlain part from (reading l kept) end (reading (with_text (counted len t) l) after) 0
  past_run l t kept after len m h s k =
      let less = left_further (length part) from end (reading l kept) (reading (with_text (counted len t) l) after) f h in
      record {
        leads = λ before x. rw s (fed_run lists before from end (fed (reading l kept) x) part len after m e h (rw s at k));
        least = omega arith;
        moves = λ g. less;
        none = refl;
      }

-- ---- one byte

module _ {before : ℕ} {part : List ℕ} {x t u : Turn} where
  either : (b : Bool) → (b ≡ true → ReadsOn before part x t) → (b ≡ false → ReadsOn before part x u) → ReadsOn before part x (cond b t u)
  either true p q = p refl
  either false p q = q refl

-- a byte that shows that a number ended before it comes behind one
ended_within : (m b : ℕ) → eqb (after_mode m b) ended ≡ true → eqb m between_mode ≡ false
unfolding after_mode
ended_within m b e =
    cases (eqb m between_mode) (λ t. absurd (true≢false (sym (rw (eqb-true m between_mode t) at e) ∙ begun_not_ended b))) (λ f. f)

module _ (before : ℕ) (part : List ℕ) (i : ℕ) (r : Reading) (w : Work) (h : i < length part) where
  here : ℕ
  here = get_or part i 0

  -- the byte, and then those behind it
  one_on : (l : Listing) (z : Fed Listing) → fed_byte lists here (before + i) (fed r l) ≡ z → onward before part i r l ≡ fed_all lists (before + (i + 1)) z (drop (i + 1) part)
  unfolding fed_all here
  one_on l z e =
      let p : suc (before + i) ≡ before + (i + 1) = omega arith in
      let q : suc i ≡ i + 1 = omega arith in
      ap (λ (x : List ℕ). fed_all lists (before + i) (fed r l) x) (drop-cons part i 0 h)
      ∙ ap (λ (x : Fed Listing). fed_all lists (suc (before + i)) x (drop (suc i) part)) e
      ∙ rw (p, q)

  -- the same byte again
  once_more : (l : Listing) (z : Fed Listing) → fed_byte lists here (before + i) (fed r l) ≡ fed_byte lists here (before + i) z → onward before part i r l ≡ fed_all lists (before + i) z (drop i part)
  unfolding fed_all here
  once_more l z e =
      ap (λ (x : List ℕ). fed_all lists (before + i) (fed r l) x) (drop-cons part i 0 h)
      ∙ ap (λ (x : Fed Listing). fed_all lists (suc (before + i)) x (drop (suc i) part)) e
      ∙ ap (λ (x : List ℕ). fed_all lists (before + i) z x) (sym (drop-cons part i 0 h))

  next : ℕ
  next = after_mode r.lexer.mode here

  On : Turn → Type 0
  On t = ReadsOn before part (turn r w i 0) t

  on_broken : eqb next broken ≡ true → On (turn (reading (in_mode stopped_mode r.lexer) r.slots) (broken_work (head_of r.lexer) r.lexer.first (before + i) w) (i + 1) 0)
  unfolding storing next On
  on_broken e =
      record {
        leads = λ list offered offers. let l = listing w list offered offers in one_on l (broken_fed lists (before + i) (fed r l)) (fed_broken lists here (before + i) (fed r l) (eqb-true next broken e));
        less = left_further (length part) i (i + 1) r (reading (in_mode stopped_mode r.lexer) r.slots) h (omega arith);
      }

  on_ended : eqb next ended ≡ true → On (whole_turn i r w)
  unfolding storing next On
  on_ended e =
      record {
        leads = λ list offered offers. let l = listing w list offered offers in once_more l (whole_fed lists r l) (fed_ended lists here (before + i) (fed r l) (eqb-true next ended e));
        less = rw (ended_within r.lexer.mode here e) (omega arith);
      }

  module _ (n1 : eqb next broken ≡ false) (n2 : eqb next ended ≡ false) where
    on_mode : ltb next whole ≡ true → On (turn (read_byte here (before + i) r) w (i + 1) 0)
    unfolding storing next On
    on_mode e =
        record {
          leads = λ list offered offers. let l = listing w list offered offers in one_on l (fed (read_byte here (before + i) r) l) (fed_mode lists here (before + i) (fed r l) n1 n2 e);
          less = left_further (length part) i (i + 1) r (read_byte here (before + i) r) h (omega arith);
        }

    whole_fed_lem : ltb next whole ≡ false → (l : Listing) → fed_byte lists here (before + i) (fed r l) ≡ whole_fed lists (with_next here (before + i) r) l
    unfolding fed_byte fed_once next
    whole_fed_lem e l = rw (n1, n2, e)

    on_whole_lem : ltb next whole ≡ false → On (whole_turn (i + 1) (with_next here (before + i) r) w)
    unfolding storing On
    on_whole_lem e =
        record {
          leads = λ list offered offers. let l = listing w list offered offers in one_on l (whole_fed lists (with_next here (before + i) r) l) (whole_fed_lem e l);
          less = left_further (length part) i (i + 1) r (reading (in_mode between_mode (with_next here (before + i) r).lexer) (with_next here (before + i) r).slots) h (omega arith);
        }

  step_on : ReadsOn before part (turn r w i 0) (stepped (get_or part i 0) (before + i) i r w)
  unfolding stepped next On here
  step_on = either (eqb next broken) on_broken (λ n1. either (eqb next ended) on_ended (λ n2. either (ltb next whole) (on_mode n1 n2) (on_whole_lem n1 n2)))

-- ---- one turn: the plain bytes of a text, and the byte behind them

module _ (before : ℕ) (part : List ℕ) (i j done : ℕ) (r q : Reading) (w : Work) (p : PastPlain part i r j q done) where
  pub turn_steps : (y : Turn) → j < length part → y ≡ stepped (get_or part j 0) (before + j) j q w → ReadsOn before part (turn r w i 0) y
  unfolding storing
  turn_steps y h e =
      let s = step_on before part j q w h in
      rw e
      (record {
        leads = λ list offered offers. p.leads before (listing w list offered offers) ∙ s.leads list offered offers;
        less = omega (arith, s.less, p.least);
      })

  pub turn_stays : length part ≤ j → ReadsOn before part (turn r w i 0) (turn q w j done)
  unfolding storing
  turn_stays h = rw p.none (record { leads = λ list offered offers. p.leads before (listing w list offered offers); less = p.moves h })

-- ---- turn by turn

-- no update is stored where none was closed
not_stored : (done : ℕ) (l : Listing) → (done ≡ 2 → ⊥) → storing done l ≡ l
unfolding storing
not_stored done l n = rw (ne_eqb done 2 n)

-- some turns, or none yet
pub record Reached (before : ℕ) (part : List ℕ) (x y : Turn) : Type 0 where
  pub leads : (list : UpdateList) (offered : ℕ) (offers : List ℕ) → onward before part x.place x.reading (listing_of x list offered offers) ≡ onward before part y.place y.reading (listing_of y list offered offers)
  pub least : left (length part) y.place y.reading ≤ left (length part) x.place x.reading
  pub closed : y.done ≡ 2 → left (length part) y.place y.reading < left (length part) x.place x.reading

module _ (before : ℕ) (part : List ℕ) where
  pub reached_none : (r : Reading) (w : Work) (i : ℕ) → Reached before part (turn r w i 0) (turn r w i 0)
  reached_none r w i = record { leads = λ list offered offers. refl; least = omega arith; closed = λ e. absurd (omega arith) }

  module _ (x y : Turn) (p : Reached before part x y) where
    pub reached_on : (z : Turn) → (y.done ≡ 2 → ⊥) → ReadsOn before part (turn y.reading y.work y.place 0) z → Reached before part x z
    reached_on z n s =
        record {
          leads =
              λ list offered offers. p.leads list offered offers
              ∙ ap (λ (l : Listing). onward before part y.place y.reading l) (not_stored y.done (listing y.work list offered offers) n ∙ sym (not_stored 0 (listing y.work list offered offers) (λ e. omega arith)))
              ∙ s.leads list offered offers;
          least = omega (arith, p.least, s.less);
          closed = λ e. omega (arith, p.least, s.less);
        }

    pub reached_closed : y.done ≡ 2 → ReadsOn before part x y
    reached_closed e = record { leads = p.leads; less = p.closed e }

    pub reached_end : x.place < length part → length part ≤ y.place → ReadsOn before part x y
    reached_end h g = record { leads = p.leads; less = left_further (length part) x.place y.place x.reading y.reading h (omega arith) }
