-- The reader of an object keeps its promise at a member.
use Prim.Native.Nat.{ℕ, ◌+◌, ◌≤◌}
use native.Mathlib.Omega.{arith}
use mathlib.Core.Path.{◌≡◌, sym, ap, ap₂, ◌∙◌}
use mathlib.Core.Bool.{Bool, false, cond}
use mathlib.Core.List.{List}
use mathlib.Core.Option.{Option}
use lib.Dec.{eqb}
use lib.ListN.{length}
use borrow.Table.Steps.{cases}
use borrow.Author.Tests.{eq-eqb, ne_eqb}
use Rattle.json_rule.specs.Lexemes.{Lexeme}
use Rattle.json_rule.specs.Values.{text_of}
use Rattle.json_rule.specs.Tree.{Defect, Value, Named, more_members}
use Rattle.json_rule.specs.Defects.{with_name}
use Rattle.json_judge.specs.Refusal.{sooner}
use Rattle.json_tokens.specs.Tokens.{lexemes_at, TokenAt}
use Rattle.json_tokens.specs.declared.token.Token.{Token}
use Rattle.json_descent.specs.Descent.{value_from, members_from}
use Rattle.file_cells.specs.Wants.{want_in, spot_for}
use Rattle.file_cells.specs.Cells.{offset_at}
use Rattle.file_walk.specs.declared.seat.Seat.{Seat}
use Rattle.file_walk.specs.Seats.{said_by, after_one, settled_by}
use Rattle.file_walk.specs.Outcomes.{told, of_value}
use Rattle.file_walk.specs.Members.{name_said, next_skip, known_spot, names_in, Flagged, of_members, NameThere, NameRead, MayMember, MemberTurned}
use Rattle.file_walk.specs.Walked.{MayWalk, Walked}
use Rattle.file_walk.proofs.Rows.{meant_member, offset_small}
use Rattle.file_walk.proofs.MemberTurns.{after, after_names, turned, turned_names}
use Rattle.file_walk.proofs.ListWalks.{after_onward, after_count, by_value}

-- ---- behind a value

module _ (before behind : ℕ) (v : Seat) where
  settled_from : (settled_by before behind v).from ≡ v.from
  unfolding settled_by
  settled_from = cases (eqb v.state 2) (λ e. rw e) (λ e. rw e)

  settled_state : (v.state ≡ 2 → ⊥) → (settled_by before behind v).state ≡ v.state
  unfolding settled_by
  settled_state f = rw (ne_eqb v.state 2 f)

  settled_missing : v.state ≡ 2 → (settled_by before behind v).state ≡ 1
  unfolding settled_by
  settled_missing e = rw (eq-eqb v.state 2 e)

  settled_count : (v.state ≡ 2 → ⊥) → (settled_by before behind v).count ≡ behind
  unfolding settled_by
  settled_count f = rw (ne_eqb v.state 2 f)

-- ---- the object breaks off at a name

pub member_cut : (bs : List ℕ) (version kind schema base depth : ℕ) (seat : Seat) (cells : List ℕ) (flags : List Bool) (e : Seat) (marks : List Bool) → NameRead bs version kind seat flags e marks
    → (e.state ≡ 3 → ⊥) → MemberTurned bs version kind schema base depth seat cells flags e cells marks
member_cut bs version kind schema base depth seat cells flags e marks n f =
    let state = n.states f in
    let not_3 : eqb e.state 3 ≡ false = ne_eqb e.state 3 f in
    record {
      told_by = λ seen g.
          let c = n.cut state seen g in
          record { names = names_in seen (members_from (length bs) depth (lexemes_at bs seat.from)); flagged = c.flagged depth; is = rw not_3 (c.is depth schema base cells); same = rw not_3 };
      later = λ z. absurd (f z);
      counts = λ z. absurd (f z);
      onward = n.onward;
      fits = n.fits;
    }

-- ---- a value is read

pub may_value : (bs : List ℕ) (version base depth : ℕ) (seat e : Seat) (want place : ℕ) → MayMember bs base depth seat → e.from ≤ length bs → want ≡ want_in version e.spot → place ≡ base + offset_at e.spot
    → MayWalk bs want place depth e
may_value bs version base depth seat e want place m h w p =
    record { meant = rw w (meant_member version e.spot); shallow = m.shallow; low = omega (arith, p, offset_small e.spot, m.low); fits = h }

module _ (bs : List ℕ) (version kind schema base depth : ℕ) (seat : Seat) (cells : List ℕ) (flags : List Bool) (e : Seat) (marks : List Bool) (n : NameRead bs version kind seat flags e marks) (st : e.state ≡ 3)
    (want place : ℕ) (is-want : want ≡ want_in version e.spot) (is-place : place ≡ base + offset_at e.spot) (v : Seat) (held : List ℕ) (w : Walked bs version want schema place depth e cells v held)
    (s : Seat) (is-s : s ≡ settled_by seat.count e.count v) where
  abbrev x : Value
  x = value_from (length bs) depth (lexemes_at bs e.from)

  by : {P : Type 0} → (v.state ≡ 0 → P) → (v.state ≡ 1 → P) → (v.state ≡ 2 → P) → P
  by f g h = by_value bs version schema want place (said_by e) cells held v x w.is f g h

  from_is : s.from ≡ v.from
  from_is = ap (λ (y : Seat). y.from) is-s ∙ settled_from seat.count e.count v

  state_is : (v.state ≡ 2 → ⊥) → s.state ≡ v.state
  state_is f = ap (λ (y : Seat). y.state) is-s ∙ settled_state seat.count e.count v f

  state_missing : v.state ≡ 2 → s.state ≡ 1
  state_missing f = ap (λ (y : Seat). y.state) is-s ∙ settled_missing seat.count e.count v f

  count_is : (v.state ≡ 2 → ⊥) → s.count ≡ e.count
  count_is f = ap (λ (y : Seat). y.count) is-s ∙ settled_count seat.count e.count v f

  abbrev again : List Lexeme → Named
  again us = members_from (length bs) depth us

  module _ (seen : List (List ℕ)) (g : Flagged version kind flags seen) where
    abbrev there : NameThere bs version kind seat e marks seen
    there = n.there st seen g

    abbrev t : Lexeme
    t = there.lexeme

    value_told : told bs v held ≡ of_value version schema (want_in version (spot_for version kind seen t)) (base + offset_at (spot_for version kind seen t)) (sooner (said_by seat) (name_said version kind seen t)) cells x
    value_told =
        w.is
        ∙ (ap₂ (λ (a b : ℕ). of_value version schema a b (said_by e) cells x) (is-want ∙ ap (want_in version) there.spot) (is-place ∙ ap (λ (k : ℕ). base + offset_at k) there.spot)
        ∙ ap (λ (d : Option Defect). of_value version schema (want_in version (spot_for version kind seen t)) (base + offset_at (spot_for version kind seen t)) d cells x) there.said)

    s_is : s ≡ settled_by seat.count (next_skip kind (known_spot version kind t) seat.count) v
    s_is = is-s ∙ ap (λ (k : ℕ). settled_by seat.count k v) there.count

    turn : cond (eqb v.state 0) (of_members version schema kind base (with_name seen (text_of t)) s.count (said_by s) held (more_members (length bs) again (lexemes_at bs v.from))) (told bs s held)
        ≡ of_members version schema kind base seen seat.count (said_by seat) cells (members_from (length bs) depth (lexemes_at bs seat.from))
    turn =
        ap (λ (y : Seat). cond (eqb v.state 0) (of_members version schema kind base (with_name seen (text_of t)) y.count (said_by y) held (more_members (length bs) again (lexemes_at bs v.from))) (told bs y held)) s_is
        ∙ (turned version schema kind base depth bs seen seat.count (said_by seat) cells held t v x value_told
        ∙ ap (of_members version schema kind base seen seat.count (said_by seat) cells) (sym (there.is depth)))

    turn_names : cond (eqb v.state 0) (names_in (with_name seen (text_of t)) (more_members (length bs) again (lexemes_at bs v.from))) (with_name seen (text_of t))
        ≡ names_in seen (members_from (length bs) depth (lexemes_at bs seat.from))
    turn_names = turned_names version schema kind base depth bs seen seat.count (said_by seat) cells held t v x value_told ∙ ap (names_in seen) (sym (there.is depth))

  -- the object breaks off in the value, or before it
  pub member_ends : (s.state ≡ 0 → ⊥) → MemberTurned bs version kind schema base depth seat cells flags s held marks
  member_ends f =
      let broken : v.state ≡ 0 → ⊥ = λ z. f (state_is (λ y. omega (arith, y, z)) ∙ z) in
      let cut : s.state ≡ 1 = by (λ z. absurd (broken z)) (λ z. state_is (λ y. omega (arith, y, z)) ∙ z) (λ z. state_missing z) in
      let not_3 : eqb s.state 3 ≡ false = ap (λ (k : ℕ). eqb k 3) cut in
      record {
        told_by = λ seen g.
            record {
              names = with_name seen (text_of (t seen g));
              flagged = (there seen g).flagged;
              is = rw not_3 (rw (ne_eqb v.state 0 broken) at (turn seen g));
              same = rw not_3 (rw (ne_eqb v.state 0 broken) at (turn_names seen g));
            };
        later = λ z. absurd (omega (arith, z, cut));
        counts = λ z. absurd (omega (arith, z, cut));
        onward = omega (arith, from_is, w.onward, n.onward);
        fits = omega (arith, from_is, w.fits);
      }

  -- something stands behind it
  pub member_goes : s.state ≡ 0 → (u : Token) (slots : List ℕ) → TokenAt bs s.from u slots → (r : Seat) → r ≡ after_one 125 (length bs) u s
      → MemberTurned bs version kind schema base depth seat cells flags r held marks
  member_goes z u slots k r is-r =
      let whole : v.state ≡ 0 = by (λ y. y) (λ y. absurd (omega (arith, z, y, state_is (λ q. omega (arith, q, y))))) (λ y. absurd (omega (arith, z, state_missing y))) in
      let o = after_onward bs 125 u slots s k (omega (arith, from_is, w.fits)) in
      let later-than = w.later whole in
      let count = count_is (λ q. omega (arith, q, whole)) in
      rw is-r
      (record {
        told_by = λ seen g.
            record {
              names = with_name seen (text_of (t seen g));
              flagged = (there seen g).flagged;
              is =
                  after version schema kind base depth bs (with_name seen (text_of (t seen g))) u slots s held k
                  ∙ (ap (λ (p : ℕ). of_members version schema kind base (with_name seen (text_of (t seen g))) s.count (said_by s) held (more_members (length bs) again (lexemes_at bs p))) from_is
                  ∙ (rw (eq-eqb v.state 0 whole) at (turn seen g)));
              same =
                  after_names version schema kind base depth bs (with_name seen (text_of (t seen g))) u slots s k
                  ∙ (ap (λ (p : ℕ). names_in (with_name seen (text_of (t seen g))) (more_members (length bs) again (lexemes_at bs p))) from_is
                  ∙ (rw (eq-eqb v.state 0 whole) at (turn_names seen g)));
            };
        later = λ y. omega (arith, o.onward, later-than, from_is, n.onward);
        counts = λ y. omega (arith, after_count 125 (length bs) u s, count, n.counts st, o.onward, later-than, from_is);
        onward = omega (arith, o.onward, later-than, from_is, n.onward);
        fits = o.fits;
      })
