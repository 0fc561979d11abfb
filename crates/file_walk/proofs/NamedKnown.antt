-- The names that were there, from one turn to the next.
use Prim.Native.Nat.{ℕ, suc, ◌≤◌, ◌<◌}
use native.Mathlib.Omega.{arith}
use mathlib.Core.Path.{◌≡◌, refl, sym, ap, ◌∙◌}
use mathlib.Core.Bool.{Bool, true, false, not, true≢false}
use mathlib.Core.List.{List, [], ◌++◌}
use mathlib.Core.Option.{Option, none, some}
use lib.Dec.{leb, ltb}
use lib.ListN.{length}
use borrow.Table.Steps.{cases}
use borrow.Author.Tests.{ltb-true, lt-ltb}
use Rattle.rules.specs.Capacities.{name_room}
use Rattle.rules.proofs.Checks.{both}
use Rattle.json_rule.specs.Lexemes.{Lexeme}
use Rattle.json_rule.specs.Values.{text_of}
use Rattle.json_rule.specs.Tree.{Defect, over_capacity, Value, Whole, Cut, Missing}
use Rattle.json_rule.specs.Defects.{unless, refused_at, not_published, text_defects, with_name, least}
use Rattle.json_judge.specs.Refusal.{sooner}
use Rattle.json_judge.proofs.Least.{least_append}
use Rattle.file_rule.specs.FileDefects.{is_repeated, own_name_defects}
use Rattle.file_cells.specs.Filled.{next_count}
use Rattle.file_walk.specs.declared.seat.Seat.{Seat}
use Rattle.file_walk.specs.Seats.{refusal_of, said_by}
use Rattle.file_walk.specs.Outcomes.{Outcome, told, wanted_defects, of_value}
use Rattle.file_walk.specs.Named.{over_room, names_at, is_early, all_short, Known, NameThere}
use Rattle.file_walk.proofs.NamedNames.{early_later, early_more, early_with, names_put}
use Rattle.file_walk.proofs.NamedReads.{not_early}

-- a long name is refused at its place
long_early : (place p : ℕ) (b : Bool) → place < p → is_early (least (refused_at place over_capacity ++ unless b place not_published)) p ≡ true
long_early place p b h =
    rw (least_append (refused_at place over_capacity) (unless b place not_published))
    (early_more (least (refused_at place over_capacity)) (least (unless b place not_published)) p (lt-ltb place p h))

short_with : (seen : List (List ℕ)) (place p : ℕ) (b : Bool) (x : Option (List ℕ)) → place < p
    → is_early (least (text_defects name_room place x ++ unless b place not_published)) p ≡ false → all_short seen ≡ true → all_short (with_name seen x) ≡ true
short_with seen place p b none h e a = a
short_with seen place p b (some text) h e a =
    cases (leb (length text) name_room)
    (λ t. both t a)
    (λ f. absurd (true≢false (sym (long_early place p b h) ∙ rw f at e)))

over_early : (room count first p : ℕ) → first < p → is_early (refusal_of (over_room room count) first) p ≡ false → ltb count room ≡ true
over_early room count first p h e = cases (ltb count room) (λ t. t) (λ f. absurd (true≢false (sym (lt-ltb first p h) ∙ rw f at e)))

-- what was refused before stays refused, whatever a value comes to
pub value_grows : (bs : List ℕ) (version schema want base : ℕ) (said : Option Defect) (cells cells' : List ℕ) (s : Seat) (v : Value)
    → told bs s cells' ≡ of_value version schema want base said cells v → (p : ℕ) → is_early said p ≡ true → is_early (said_by s) p ≡ true
value_grows bs version schema want base said cells cells' s (Whole x ts) e p h =
    let is : said_by s ≡ sooner said (least (wanted_defects version schema want x)) = ap (λ (o : Outcome). o.said) e in
    rw is (early_more said (least (wanted_defects version schema want x)) p h)
value_grows bs version schema want base said cells cells' s (Cut x stop) e p h =
    let is : said_by s ≡ sooner (sooner said (least (wanted_defects version schema want x))) (some stop) = ap (λ (o : Outcome). o.said) e in
    rw is (early_more (sooner said (least (wanted_defects version schema want x))) (some stop) p (early_more said (least (wanted_defects version schema want x)) p h))
value_grows bs version schema want base said cells cells' s (Missing stop) e p h =
    let is : said_by s ≡ sooner said (some stop) = ap (λ (o : Outcome). o.said) e in
    rw is (early_more said (some stop) p h)

pub value_state : (bs : List ℕ) (version schema want base : ℕ) (said : Option Defect) (cells cells' : List ℕ) (s : Seat) (v : Value)
    → told bs s cells' ≡ of_value version schema want base said cells v → s.state < 3
value_state bs version schema want base said cells cells' s (Whole x ts) e = let is : s.state ≡ 0 = ap (λ (o : Outcome). o.state) e in omega arith
value_state bs version schema want base said cells cells' s (Cut x stop) e = let is : s.state ≡ 1 = ap (λ (o : Outcome). o.state) e in omega arith
value_state bs version schema want base said cells cells' s (Missing stop) e = let is : s.state ≡ 2 = ap (λ (o : Outcome). o.state) e in omega arith

module _ (bs : List ℕ) (room first : ℕ) (seat : Seat) (places : List ℕ) (r : Seat) (after : List ℕ) (w : NameThere bs room first seat places r after) (small : room ≤ 128) (before : first < seat.from) (seen : List (List ℕ)) (k : Known bs seen seat places) where
  abbrev u : Lexeme
  u = w.lexeme

  abbrev over : Option Defect
  over = refusal_of (over_room room seat.count) first

  abbrev own : Option Defect
  own = least (own_name_defects seen u)

  module _ (calm : is_early (said_by r) r.from ≡ false) where
    still : is_early (sooner (sooner (said_by seat) over) own) r.from ≡ false
    still = rw (w.said seen k) at calm

    calm_seat : is_early (said_by seat) seat.from ≡ false
    calm_seat =
        not_early (said_by seat) (sooner (sooner (said_by seat) over) own) seat.from r.from
        (λ e. early_more (sooner (said_by seat) over) own r.from (early_more (said_by seat) over r.from (early_later (said_by seat) seat.from r.from (omega (arith, w.later, w.beyond)) e)))
        still

    room_left : ltb seat.count room ≡ true
    room_left =
        over_early room seat.count first r.from (omega (arith, w.later, w.beyond))
        (not_early over (sooner (sooner (said_by seat) over) own) r.from r.from
        (λ e. early_more (sooner (said_by seat) over) own r.from (early_with (said_by seat) over r.from e))
        still)

    short_names : all_short (with_name seen (text_of u)) ≡ true
    short_names =
        short_with seen u.first r.from (not (is_repeated seen (text_of u))) (text_of u) w.beyond
        (not_early own (sooner (sooner (said_by seat) over) own) r.from r.from (λ e. early_with (sooner (said_by seat) over) own r.from e) still)
        (k.short calm_seat)

    held_names : with_name seen (text_of u) ≡ names_at bs after (next_count room seat.count)
    held_names =
        let l : seat.count < room = ltb-true seat.count room room_left in
        ap (λ (names : List (List ℕ)). with_name names (text_of u)) (k.held calm_seat)
        ∙ (ap (λ (o : Option (List ℕ)). with_name (names_at bs places seat.count) o) (sym w.name)
        ∙ (sym (names_put bs places seat.count u.first (omega (arith, w.long)))
        ∙ (ap (λ (l : List ℕ). names_at bs l (suc seat.count)) (sym w.puts) ∙ rw room_left)))

  -- a seat behind it at which no less was refused
  pub known_next : (n : Seat) → ((p : ℕ) → is_early (said_by r) p ≡ true → is_early (said_by n) p ≡ true) → n.count ≡ next_count room seat.count → r.from ≤ n.from
      → Known bs (with_name seen (text_of w.lexeme)) n after
  known_next n grows counts onward =
      let calm : is_early (said_by n) n.from ≡ false → is_early (said_by r) r.from ≡ false =
      λ e. not_early (said_by r) (said_by n) r.from n.from (λ t. grows n.from (early_later (said_by r) r.from n.from onward t)) e in
      record {
        held = λ e. held_names (calm e) ∙ ap (names_at bs after) (sym counts);
        short = λ e. short_names (calm e);
      }

-- none at first
pub known_none : (bs : List ℕ) (s : Seat) (places : List ℕ) → s.count ≡ 0 → Known bs [] s places
unfolding names_at
known_none bs s places e = record { held = λ h. ap (names_at bs places) (sym e); short = λ h. refl }
