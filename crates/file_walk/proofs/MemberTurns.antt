-- One turn of the reader of an object: a member's value, and what stands behind it.
use Prim.Native.Nat.{ℕ, ◌+◌}
use mathlib.Core.Path.{◌≡◌, refl, sym, ap, ◌∙◌}
use mathlib.Core.Bool.{cond}
use mathlib.Core.List.{List, []}
use mathlib.Core.Option.{Option, some}
use lib.Dec.{eqb}
use lib.ListN.{length}
use borrow.Table.Steps.{cases}
use Rattle.json_rule.specs.Lexemes.{Lexeme}
use Rattle.json_rule.specs.Values.{text_of}
use Rattle.json_rule.specs.Tree.{Defect, no_member, bare_name, Value, Whole, Cut, Missing, Named, ClosedBy, OpenBy, with_member, first_member, more_members, next_member}
use Rattle.json_rule.specs.Defects.{with_name}
use Rattle.json_judge.specs.Refusal.{sooner}
use Rattle.json_tokens.specs.Tokens.{lexemes_at, TokenAt}
use Rattle.json_tokens.specs.declared.token.Token.{Token}
use Rattle.json_descent.specs.Descent.{members_from}
use Rattle.file_cells.specs.Wants.{want_in, spot_for}
use Rattle.file_cells.specs.Cells.{offset_at}
use Rattle.file_cells.specs.Filled.{filled}
use Rattle.file_walk.specs.declared.seat.Seat.{Seat}
use Rattle.file_walk.specs.Seats.{said_by, is_mark, stop_place, begun_by, after_one, settled_by}
use Rattle.file_walk.specs.Outcomes.{Outcome, outcome, told, of_value}
use Rattle.file_walk.specs.Members.{name_said, next_skip, known_spot, names_in, of_members, members_told, names_told}
use Rattle.file_walk.proofs.Said.{said_refused}
use Rattle.file_walk.proofs.Tokens.{members_more, members_begin}
use Rattle.file_walk.proofs.MemberSteps.{value_said, said_none, said_bare, members_with}

module _ (version schema kind base depth : ℕ) (bs : List ℕ) where
  abbrev again : List Lexeme → Named
  again us = members_from (length bs) depth us

  pub none_open : (seen : List (List ℕ)) (count : ℕ) (said : Option Defect) (cells : List ℕ) (stop : Defect)
      → of_members version schema kind base seen count said cells (OpenBy no_member stop) ≡ outcome (sooner said (some stop)) cells 1 [] count
  unfolding filled
  none_open seen count said cells stop = rw (said_none version schema kind seen)

  pub bare_open : (seen : List (List ℕ)) (count : ℕ) (said : Option Defect) (cells : List ℕ) (t : Lexeme) (stop : Defect)
      → of_members version schema kind base seen count said cells (OpenBy (bare_name t) stop) ≡ outcome (sooner (sooner said (name_said version kind seen t)) (some stop)) cells 1 [] count
  unfolding filled
  bare_open seen count said cells t stop = rw (said_bare version schema kind seen t)

  none_closed : (seen : List (List ℕ)) (count : ℕ) (said : Option Defect) (cells : List ℕ) (ts : List Lexeme)
      → of_members version schema kind base seen count said cells (ClosedBy no_member ts) ≡ outcome said cells 0 ts count
  unfolding filled
  none_closed seen count said cells ts = rw (said_none version schema kind seen)

  pub begun : (t : Token) (slots : List ℕ) (s : Seat) (cells : List ℕ) → TokenAt bs s.from t slots
      → members_told version bs schema kind base depth [] (begun_by 125 t s) cells
      ≡ of_members version schema kind base [] 0 (said_by s) cells (first_member (length bs) again (lexemes_at bs s.from))
  unfolding begun_by
  begun t slots s cells n =
      rw (members_begin bs s.from t slots n again)
      (cases (is_mark 125 t) (λ e. rw e (sym (none_closed [] 0 (said_by s) cells (lexemes_at bs t.after)))) (λ e. rw e))

  pub begun_names : (t : Token) (slots : List ℕ) (s : Seat) → TokenAt bs s.from t slots
      → names_told version bs depth [] (begun_by 125 t s) ≡ names_in [] (first_member (length bs) again (lexemes_at bs s.from))
  unfolding begun_by
  begun_names t slots s n = rw (members_begin bs s.from t slots n again) (cases (is_mark 125 t) (λ e. rw e) (λ e. rw e))

  pub after : (seen : List (List ℕ)) (t : Token) (slots : List ℕ) (s : Seat) (cells : List ℕ) → TokenAt bs s.from t slots
      → members_told version bs schema kind base depth seen (after_one 125 (length bs) t s) cells
      ≡ of_members version schema kind base seen s.count (said_by s) cells (more_members (length bs) again (lexemes_at bs s.from))
  unfolding after_one
  after seen t slots s cells n =
      rw (members_more bs s.from t slots n again)
      (cases (is_mark 44 t)
      (λ e. rw e)
      (λ e. rw e (cases (is_mark 125 t)
      (λ f. rw f (sym (none_closed seen s.count (said_by s) cells (lexemes_at bs t.after))))
      (λ f. rw (f, said_refused 27 (stop_place (length bs) t) s) (sym (none_open seen s.count (said_by s) cells (record { place = stop_place (length bs) t; number = 27 })))))))

  pub after_names : (seen : List (List ℕ)) (t : Token) (slots : List ℕ) (s : Seat) → TokenAt bs s.from t slots
      → names_told version bs depth seen (after_one 125 (length bs) t s) ≡ names_in seen (more_members (length bs) again (lexemes_at bs s.from))
  unfolding after_one
  after_names seen t slots s n =
      rw (members_more bs s.from t slots n again) (cases (is_mark 44 t) (λ e. rw e) (λ e. rw e (cases (is_mark 125 t) (λ f. rw f) (λ f. rw f))))

  -- a member, by what its value came to
  module _ (seen : List (List ℕ)) (count : ℕ) (said : Option Defect) (cells held : List ℕ) (t : Lexeme) (s : Seat) where
    abbrev spot : ℕ
    spot = spot_for version kind seen t

    abbrev behind : Seat
    behind = settled_by count (next_skip kind (known_spot version kind t) count) s

    pub turned : (v : Value) → told bs s held ≡ of_value version schema (want_in version spot) (base + offset_at spot) (sooner said (name_said version kind seen t)) cells v
        → cond (eqb s.state 0)
        (of_members version schema kind base (with_name seen (text_of t)) behind.count (said_by behind) held (more_members (length bs) again (lexemes_at bs s.from)))
        (told bs behind held)
        ≡ of_members version schema kind base seen count said cells (next_member (length bs) t again v)
    unfolding settled_by
    turned (Whole x ts) e =
        let state : s.state ≡ 0 = ap (λ (o : Outcome). o.state) e in
        let rest : lexemes_at bs s.from ≡ ts = rw state at (ap (λ (o : Outcome). o.rest) e) in
        let is_said : said_by s ≡ sooner (sooner said (name_said version kind seen t)) (value_said version schema kind seen t x) = ap (λ (o : Outcome). o.said) e in
        let is_cells : held ≡ filled version (want_in version spot) (base + offset_at spot) x cells = ap (λ (o : Outcome). o.cells) e in
        rw (ap (λ (n : ℕ). eqb n 0) state, ap (λ (n : ℕ). eqb n 2) state, is_said, is_cells, rest)
        (sym (members_with version schema kind base seen count said cells t x (more_members (length bs) again ts)))
    turned (Cut x stop) e =
        let state : s.state ≡ 1 = ap (λ (o : Outcome). o.state) e in
        let is_said : said_by s ≡ sooner (sooner (sooner said (name_said version kind seen t)) (value_said version schema kind seen t x)) (some stop) = ap (λ (o : Outcome). o.said) e in
        let is_cells : held ≡ filled version (want_in version spot) (base + offset_at spot) x cells = ap (λ (o : Outcome). o.cells) e in
        rw (ap (λ (n : ℕ). eqb n 0) state, ap (λ (n : ℕ). eqb n 2) state, is_said, is_cells, state)
        (sym (none_open (with_name seen (text_of t)) (next_skip kind (known_spot version kind t) count) (sooner (sooner said (name_said version kind seen t)) (value_said version schema kind seen t x))
        (filled version (want_in version spot) (base + offset_at spot) x cells) stop)
        ∙ sym (members_with version schema kind base seen count said cells t x (OpenBy no_member stop)))
    turned (Missing stop) e =
        let state : s.state ≡ 2 = ap (λ (o : Outcome). o.state) e in
        let is_said : said_by s ≡ sooner (sooner said (name_said version kind seen t)) (some stop) = ap (λ (o : Outcome). o.said) e in
        let is_cells : held ≡ cells = ap (λ (o : Outcome). o.cells) e in
        rw (ap (λ (n : ℕ). eqb n 0) state, ap (λ (n : ℕ). eqb n 2) state, is_said, is_cells) (sym (bare_open seen count said cells t stop))

    pub turned_names : (v : Value) → told bs s held ≡ of_value version schema (want_in version spot) (base + offset_at spot) (sooner said (name_said version kind seen t)) cells v
        → cond (eqb s.state 0) (names_in (with_name seen (text_of t)) (more_members (length bs) again (lexemes_at bs s.from))) (with_name seen (text_of t))
        ≡ names_in seen (next_member (length bs) t again v)
    turned_names (Whole x ts) e =
        let state : s.state ≡ 0 = ap (λ (o : Outcome). o.state) e in
        let rest : lexemes_at bs s.from ≡ ts = rw state at (ap (λ (o : Outcome). o.rest) e) in
        rw (ap (λ (n : ℕ). eqb n 0) state, rest) (go (more_members (length bs) again ts))
      where
        go : (n : Named) → names_in (with_name seen (text_of t)) n ≡ names_in seen (with_member t x n)
        go (ClosedBy ms us) = refl
        go (OpenBy ms stop) = refl
    turned_names (Cut x stop) e = let state : s.state ≡ 1 = ap (λ (o : Outcome). o.state) e in rw (ap (λ (n : ℕ). eqb n 0) state)
    turned_names (Missing stop) e = let state : s.state ≡ 2 = ap (λ (o : Outcome). o.state) e in rw (ap (λ (n : ℕ). eqb n 0) state)
