-- What is read of a name and the colon behind it, by their tokens.
use Prim.Native.Nat.{ℕ}
use native.Mathlib.Omega.{arith}
use mathlib.Core.Path.{◌≡◌, sym, ap, ap₂, subst, ◌∙◌}
use mathlib.Core.Bool.{true, false, cond, not, true≢false}
use mathlib.Core.List.{List, ◌++◌}
use mathlib.Core.Option.{Option}
use lib.Dec.{eqb}
use lib.ListN.{length, set}
use borrow.Table.Steps.{cases}
use borrow.Author.Tests.{eqb-true}
use Rattle.rules.proofs.Checks.{and_left}
use Rattle.rules.specs.Capacities.{name_room}
use Rattle.json_rule.specs.Lexemes.{Lexeme, quote}
use Rattle.json_rule.specs.Values.{text_of}
use Rattle.json_rule.specs.Tree.{Defect, bare_name, OpenBy, next_member, after_name}
use Rattle.json_rule.specs.Defects.{unless, not_published, text_defects, least}
use Rattle.json_judge.specs.Refusal.{sooner}
use Rattle.json_tokens.specs.Tokens.{lexemes_at, WholeAt, TokenAt}
use Rattle.json_tokens.specs.declared.token.Token.{Token}
use Rattle.json_descent.specs.Descent.{value_from, members_from}
use Rattle.json_descent.proofs.Laws.{members_one}
use Rattle.file_rule.specs.FileDefects.{is_repeated, own_name_defects}
use Rattle.file_cells.specs.Wants.{stands_at_schema}
use Rattle.file_walk.specs.declared.seat.Seat.{Seat}
use Rattle.file_walk.specs.Seats.{refusal_of, said_by, refused, stopped, is_mark, stop_place}
use Rattle.file_walk.specs.Outcomes.{told}
use Rattle.file_walk.specs.Named.{over_room, of_named, names_at, is_early, Known, name_fault, no_name_place, behind_name, name_judged, MayName, NameThere, NameRead}
use Rattle.file_walk.proofs.Said.{said_refused}
use Rattle.file_walk.proofs.Tokens.{name_after}
use Rattle.file_walk.proofs.NamedNames.{early_later, early_more, name_fault_lem}
use Rattle.file_walk.proofs.NamedTokens.{whole_token, text_kept, name_again, name_none, name_one}
use Rattle.file_walk.proofs.NamedSteps.{named_bare, none_open}

pub not_early : (a b : Option Defect) (p q : ℕ) → (is_early a p ≡ true → is_early b q ≡ true) → is_early b q ≡ false → is_early a p ≡ false
not_early a b p q f e = cases (is_early a p) (λ t. absurd (true≢false (sym (f t) ∙ e))) (λ t. t)

not_3 : {P : Type 0} → ◌≡◌ {A = ℕ} 1 3 → P
not_3 e = absurd (omega arith)

module _ (bs : List ℕ) (room first : ℕ) (seat : Seat) (places : List ℕ) (may : MayName bs room seat) (t : Token) (slots : List ℕ) (n : TokenAt bs seat.from t slots) where
  -- ---- no name

  no_name_told : (version schema each base depth : ℕ) (cells : List ℕ) (seen : List (List ℕ)) → is_mark quote t ≡ false → stands_at_schema each ≡ false
      → told bs (stopped 27 (no_name_place (length bs) t) 1 seat) cells
      ≡ of_named version schema each room base first seat.count seen (said_by seat) cells (members_from (length bs) depth (lexemes_at bs seat.from))
  no_name_told version schema each base depth cells seen e plain =
      rw (
        members_one (length bs) depth (lexemes_at bs seat.from),
        name_none bs seat.from t slots n (λ u us. after_name (length bs) u (λ vs. next_member (length bs) u (λ ws. members_from (length bs) depth ws) (value_from (length bs) depth vs)) us) e,
        said_refused 27 (no_name_place (length bs) t) seat,
      )
      (sym (none_open version schema each room base first plain seat.count seen (said_by seat) cells (record { place = no_name_place (length bs) t; number = 27 }) may.counts))

  no_name_read : is_mark quote t ≡ false → NameRead bs room first seat places (stopped 27 (no_name_place (length bs) t) 1 seat) places
  no_name_read e =
      record {
        there = λ s. not_3 s;
        stops = λ version schema each base depth cells seen s plain k. no_name_told version schema each base depth cells seen e plain;
        counts = λ s. may.counts;
        onward = omega arith;
        fits = may.fits;
      }

  pub no_name_so : (r : Seat) (place : ℕ) → place ≡ no_name_place (length bs) t → r ≡ stopped 27 place 1 seat → is_mark quote t ≡ false → NameRead bs room first seat places r places
  no_name_so r place p q e = subst (λ (x : Seat). NameRead bs room first seat places x places) (sym (q ∙ ap (λ (n : ℕ). stopped 27 n 1 seat) p)) (no_name_read e)

  -- ---- a name

  module _ (e : is_mark quote t ≡ true) where
    abbrev w : WholeAt bs seat.from t slots
    w = whole_token bs seat.from t slots n e

    abbrev u : Lexeme
    u = w.lexeme

    abbrev over : Seat
    over = refused (over_room room seat.count) first seat

    abbrev judged : Seat
    judged = name_judged bs places slots room first t seat

    over_said : said_by over ≡ sooner (said_by seat) (refusal_of (over_room room seat.count) first)
    over_said = said_refused (over_room room seat.count) first seat

    -- nothing was refused up to the name, so nothing was before
    calm : is_early (said_by over) t.first ≡ false → is_early (said_by seat) seat.from ≡ false
    calm = not_early (said_by seat) (said_by over) seat.from t.first
        (λ f. rw over_said (early_more (said_by seat) (refusal_of (over_room room seat.count) first) t.first (early_later (said_by seat) seat.from t.first w.later f)))

    judged_said : (seen : List (List ℕ)) → Known bs seen seat places → said_by judged ≡ sooner (sooner (said_by seat) (refusal_of (over_room room seat.count) first)) (least (own_name_defects seen u))
    unfolding name_fault
    judged_said seen k =
        said_refused (name_fault bs places slots t over) t.first over
        ∙ name_fault_lem (said_by over) t.first seen (names_at bs places seat.count) (λ f. k.held (calm f)) (λ f. k.short (calm f)) slots t.len (text_of u) (text_kept bs seat.from t slots n e)
        ∙ ap₂ (λ (a : Option Defect) (p : ℕ). sooner a (least (text_defects name_room p (text_of u) ++ unless (not (is_repeated seen (text_of u))) p not_published))) over_said w.first

    module _ (c : Token) (others : List ℕ) (m : TokenAt bs t.after c others) (long : length places ≡ 128) where
      members_after : (depth : ℕ) → members_from (length bs) depth (lexemes_at bs seat.from)
          ≡ cond (is_mark 58 c) (next_member (length bs) u (λ us. members_from (length bs) depth us) (value_from (length bs) depth (lexemes_at bs c.after)))
          (OpenBy (bare_name u) (record { place = stop_place (length bs) c; number = 27 }))
      members_after depth =
          members_one (length bs) depth (lexemes_at bs seat.from)
          ∙ (name_one bs seat.from t slots n (λ u us. after_name (length bs) u (λ vs. next_member (length bs) u (λ ws. members_from (length bs) depth ws) (value_from (length bs) depth vs)) us) e
          ∙ name_after bs t.after c others m u (λ vs. next_member (length bs) u (λ ws. members_from (length bs) depth ws) (value_from (length bs) depth vs)))

      fits_after : is_mark 58 c ≡ true → WholeAt bs t.after c others
      fits_after f = m.whole (eqb-true c.state 1 (and_left (eqb c.state 1) (eqb c.head 58) f))

      name_there : is_mark 58 c ≡ true → NameThere bs room first seat places (behind_name (length bs) c t.first judged) (set places seat.count t.first)
      unfolding behind_name
      name_there f =
          rw f
          (record {
            lexeme = u;
            is = λ depth. rw f at (members_after depth);
            place = w.first;
            said = judged_said;
            name = name_again bs seat.from t slots n e;
            later = omega (arith, w.later, w.first);
            beyond = omega (arith, w.beyond, w.first, (fits_after f).later, (fits_after f).beyond);
            long = long;
            puts = ap (set places seat.count) w.first;
          })

      name_stops : (version schema each base depth : ℕ) (cells : List ℕ) (seen : List (List ℕ)) → is_mark 58 c ≡ false → stands_at_schema each ≡ false → Known bs seen seat places
          → told bs (stopped 27 (stop_place (length bs) c) 1 judged) cells
          ≡ of_named version schema each room base first seat.count seen (said_by seat) cells (members_from (length bs) depth (lexemes_at bs seat.from))
      name_stops version schema each base depth cells seen f plain k =
          rw (members_after depth, f, said_refused 27 (stop_place (length bs) c) judged, judged_said seen k)
          (sym (named_bare version schema each room base first plain seat.count seen (said_by seat) cells u (record { place = stop_place (length bs) c; number = 27 }) may.counts))

      name_read : NameRead bs room first seat places (behind_name (length bs) c t.first judged) (set places seat.count t.first)
      unfolding behind_name
      name_read =
          cases (is_mark 58 c)
          (λ f.
          let k : NameThere bs room first seat places (behind_name (length bs) c t.first judged) (set places seat.count t.first) = name_there f in
          rw f
          (record {
            there = λ s. rw f at k;
            stops = λ version schema each base depth cells seen s plain k. absurd (true≢false s);
            counts = λ s. absurd (true≢false s);
            onward = omega (arith, w.later, w.beyond, (fits_after f).later, (fits_after f).beyond);
            fits = (fits_after f).fits;
          }))
          (λ f. rw f
          (record {
            there = λ s. not_3 s;
            stops = λ version schema each base depth cells seen s plain k. name_stops version schema each base depth cells seen f plain k;
            counts = λ s. may.counts;
            onward = omega arith;
            fits = may.fits;
          }))

      pub name_so : (r j : Seat) (after : List ℕ) → j ≡ judged → r ≡ behind_name (length bs) c t.first j → after ≡ set places seat.count t.first → NameRead bs room first seat places r after
      name_so r j after p q a =
          subst (λ (l : List ℕ). NameRead bs room first seat places r l) (sym a)
          (subst (λ (x : Seat). NameRead bs room first seat places x (set places seat.count t.first)) (sym (q ∙ ap (behind_name (length bs) c t.first) p)) name_read)
