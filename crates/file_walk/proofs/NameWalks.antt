-- The reader of a name and of the colon behind it keeps its promise.
use Prim.Native.Nat.{ℕ, suc, ◌≤◌, ◌<◌}
use native.Mathlib.Omega.{arith}
use mathlib.Core.Path.{◌≡◌, refl, sym, ap, ap₂, ◌∙◌}
use mathlib.Core.Bool.{Bool, true, false, cond, ◌&&◌}
use mathlib.Core.List.{List}
use mathlib.Core.Option.{Option, some}
use lib.Dec.{eqb}
use lib.ListN.{length}
use borrow.Table.Steps.{cases}
use borrow.Author.Tests.{eqb-true, eqb-false, ne_eqb}
use Rattle.json_rule.specs.Lexemes.{Lexeme, quote}
use Rattle.json_rule.specs.Values.{text_of}
use Rattle.json_rule.specs.Tree.{is_byte, Named, OpenBy, no_member, bare_name, name, after_name, next_member}
use Rattle.json_rule.specs.Defects.{with_name}
use Rattle.json_judge.specs.Refusal.{sooner}
use Rattle.json_machine.specs.Digest.{lone_length}
use Rattle.json_members.specs.Kept.{front, TextKept}
use Rattle.json_tokens.specs.Tokens.{lexemes_at, TokenAt}
use Rattle.json_tokens.specs.declared.token.Token.{Token}
use Rattle.json_descent.specs.Descent.{value_from, members_from}
use Rattle.json_descent.proofs.Laws.{members_one}
use Rattle.file_rule.specs.Tables.{FileKind}
use Rattle.file_rule.specs.FileDefects.{is_repeated}
use Rattle.file_cells.specs.Wants.{spot_by, spot_for}
use Rattle.file_members.specs.Names.{first_of}
use Rattle.file_members.specs.Flags.{marked}
use Rattle.file_members.proofs.Judging.{member_kept}
use Rattle.file_members.proofs.Flags.{spot_flag, flag_set, flag_is}
use Rattle.file_walk.specs.declared.seat.Seat.{Seat}
use Rattle.file_walk.specs.Seats.{refusal_of, said_by, refused, moved_to, counting, spotting, stopped, is_mark, stop_place}
use Rattle.file_walk.specs.Members.{was_seen, HasFlag, name_number, next_skip, fresh_spot, name_stop, after_colon, Flagged, known_spot, name_said, NameRead}
use Rattle.file_walk.proofs.Said.{said_refused}
use Rattle.file_walk.proofs.Tokens.{by_state, name_after}
use Rattle.file_walk.proofs.ValueSteps.{is_whole, its_byte, other_byte, mark_bounds}
use Rattle.file_walk.proofs.Numbered.{OfKindAt, by_kind}
use Rattle.file_walk.proofs.MemberSteps.{no_spot}
use Rattle.file_walk.proofs.MemberTurns.{none_open, bare_open}

-- ---- the name, by its token

picks : {X : Type 0} (a w : Bool) (x y z : X) → a ≡ true → w ≡ true → cond a (cond w x y) z ≡ x
picks a w x y z p q = rw (p, q)

breaks : {X : Type 0} (a w : Bool) (x y z : X) → a ≡ true → w ≡ false → cond a (cond w x y) z ≡ y
breaks a w x y z p q = rw (p, q)

passes : {X : Type 0} (a : Bool) (x z : X) → a ≡ false → cond a x z ≡ z
passes a x z p = rw p

module _ (bs : List ℕ) (from : ℕ) (t : Token) (slots : List ℕ) (n : TokenAt bs from t slots) (again : Lexeme → List Lexeme → Named) where
  abbrev stopped_at : ℕ → Named
  stopped_at p = OpenBy no_member (record { place = p; number = 27 })

  name_at_lem : (e : is_mark 34 t ≡ true) → name (length bs) again (lexemes_at bs from) ≡ again (n.whole (is_whole bs 0 from t slots n 34 e)).lexeme (lexemes_at bs t.after)
  name_at_lem e =
      let w = n.whole (is_whole bs 0 from t slots n 34 e) in
      let l = w.lexeme in
      ap (name (length bs) again) w.is
      ∙ picks (is_byte quote l) l.whole (again l (lexemes_at bs t.after)) (stopped_at l.stop) (stopped_at l.first) (its_byte bs 0 from t slots n 34 e) w.is_whole

  at_end_lem : t.state ≡ 0 → name_stop (length bs) t ≡ length bs
  at_end_lem e = rw (ap (λ (k : ℕ). eqb k 0) e)

  at_whole : t.state ≡ 1 → name_stop (length bs) t ≡ t.first
  at_whole e = rw (ap (λ (k : ℕ). eqb k 0) e, ap (λ (k : ℕ). eqb k 2) e)

  at_broken : t.state ≡ 2 → name_stop (length bs) t ≡ cond (eqb t.head 34) t.stop t.first
  at_broken e = rw (ap (λ (k : ℕ). eqb k 0) e, ap (λ (k : ℕ). eqb k 2) e)

  name_not : is_mark 34 t ≡ false → name (length bs) again (lexemes_at bs from) ≡ stopped_at (name_stop (length bs) t)
  name_not e =
      by_state bs from t slots n
      (λ s. ap (name (length bs) again) (n.at_end s) ∙ ap stopped_at (sym (at_end_lem s)))
      (λ s. let w = n.whole s in
      ap (name (length bs) again) w.is ∙ (passes (is_byte quote w.lexeme) _ (stopped_at w.lexeme.first) (other_byte bs 0 from t slots n 34 e s) ∙ ap stopped_at (sym (at_whole s ∙ w.first))))
      (λ s. let w = n.broken s in
      ap (name (length bs) again) w.is
      ∙ cases (eqb t.head 34)
      (λ h. breaks (is_byte quote w.lexeme) w.lexeme.whole _ (stopped_at w.lexeme.stop) (stopped_at w.lexeme.first) (ap (λ (k : ℕ). eqb k 34) (sym w.head) ∙ h) w.is_broken
      ∙ ap stopped_at (sym (at_broken s ∙ (passes_not (eqb t.head 34) t.stop t.first h ∙ w.stop))))
      (λ h. passes (is_byte quote w.lexeme) _ (stopped_at w.lexeme.first) (ap (λ (k : ℕ). eqb k 34) (sym w.head) ∙ h)
      ∙ ap stopped_at (sym (at_broken s ∙ (passes (eqb t.head 34) t.stop t.first h ∙ w.first)))))
    where
      passes_not : (a : Bool) (x z : ℕ) → a ≡ true → cond a x z ≡ x
      passes_not a x z p = rw p

-- ---- which member it is

-- a member that is known has a flag
pub has_flag : (version kind : ℕ) (x : Option (List ℕ)) (first known : ℕ) → first ≡ first_of kind → known ≡ spot_by version kind x → HasFlag first known
has_flag version kind x first known f e =
    by_kind kind
    (λ n b. let z : known ≡ 0 = e ∙ no_spot version kind x n in record { above = λ h. absurd (h z); below = λ h. absurd (h z) })
    (λ k o. record {
      above = λ h. rw (f, e) (spot_flag version kind k o.is x (ne_eqb (spot_by version kind x) 0 (λ z. h (e ∙ z)))).0;
      below = λ h. rw (f, e) (spot_flag version kind k o.is x (ne_eqb (spot_by version kind x) 0 (λ z. h (e ∙ z)))).1;
    })

module _ (version kind : ℕ) (flags : List Bool) (seen : List (List ℕ)) (l : Lexeme) (g : Flagged version kind flags seen) where
  abbrev known : ℕ
  known = known_spot version kind l

  abbrev repeated : Bool
  repeated = was_seen (first_of kind) known flags

  -- a flag says whether the name was there
  flag_told : (k : FileKind) → OfKindAt kind k → eqb known 0 ≡ false → repeated ≡ is_repeated seen (text_of l)
  flag_told k o e = rw (e, g.are k o.is) (flag_is version kind k o.is seen (text_of l) e)

  number_told : name_number kind known repeated ≡ name_number kind known (is_repeated seen (text_of l))
  number_told =
      by_kind kind (λ n b. rw b)
      (λ k o. cases (eqb known 0) (λ e. rw e) (λ e. ap (λ (r : Bool). name_number kind known r) (flag_told k o e)))

  fresh_of_lem : (n : ℕ) (r : Bool) → n ≡ 0 → fresh_spot n r ≡ 0
  fresh_of_lem n r e = cases r (λ a. rw a) (λ a. rw a e)

  spot_told : fresh_spot known repeated ≡ spot_for version kind seen l
  unfolding spot_for
  spot_told =
      cases (eqb known 0)
      (λ e. fresh_of_lem known repeated (eqb-true known 0 e) ∙ sym (fresh_of_lem known (is_repeated seen (text_of l)) (eqb-true known 0 e)))
      (λ e. by_kind kind
      (λ n b. absurd (eqb-false known 0 e (no_spot version kind (text_of l) n)))
      (λ k o. ap (fresh_spot known) (flag_told k o e)))

  flags_told : Flagged version kind (marked (first_of kind) known flags) (with_name seen (text_of l))
  flags_told = record { are = λ k e. ap (marked (first_of kind) known) (g.are k e) ∙ sym (flag_set version kind k e seen (text_of l)) }

skips_below : (b : Bool) (count from : ℕ) → count < from → cond b (suc count) count ≤ from
skips_below true count from h = omega arith
skips_below false count from h = omega arith

-- ---- no name

module _ (bs : List ℕ) (version kind : ℕ) (seat : Seat) (flags : List Bool) (fit : seat.from ≤ length bs) (t : Token) (slots : List ℕ) (n : TokenAt bs seat.from t slots) where
  no_members : is_mark 34 t ≡ false → (depth : ℕ) → members_from (length bs) depth (lexemes_at bs seat.from) ≡ OpenBy no_member (record { place = name_stop (length bs) t; number = 27 })
  no_members e depth = members_one (length bs) depth (lexemes_at bs seat.from) ∙ name_not bs seat.from t slots n _ e

  pub no_name_lem : (r : Seat) → is_mark 34 t ≡ false → r ≡ stopped 27 (name_stop (length bs) t) 1 seat → NameRead bs version kind seat flags r flags
  no_name_lem r e f =
      let state : r.state ≡ 1 = ap (λ (y : Seat). y.state) f in
      let from : r.from ≡ seat.from = ap (λ (y : Seat). y.from) f in
      record {
        states = λ h. state;
        there = λ z. absurd (omega (arith, z, state));
        cut = λ z seen g.
            record {
              is = λ depth schema base cells.
                  rw (f, no_members e depth, said_refused 27 (name_stop (length bs) t) seat) (sym (none_open version schema kind base depth bs seen seat.count (said_by seat) cells (record { place = name_stop (length bs) t; number = 27 })));
              flagged = λ depth. rw (no_members e depth) g;
            };
        later = λ z. absurd (omega (arith, z, state));
        counts = λ z. absurd (omega (arith, z, state));
        onward = omega (arith, from);
        fits = omega (arith, from, fit);
      }

  -- ---- a name

  module _ (e : is_mark 34 t ≡ true) (low : seat.count ≤ seat.from) where
    abbrev l : Lexeme
    l = (n.whole (is_whole bs 0 seat.from t slots n 34 e)).lexeme

    pub its_text : TextKept slots t.len (text_of l)
    its_text = let w = n.whole (is_whole bs 0 seat.from t slots n 34 e) in w.kept.text (its_byte bs 0 seat.from t slots n 34 e)

    pub flag_of_lem : (first known : ℕ) → first ≡ first_of kind → known ≡ cond (eqb t.len lone_length) 0 (spot_by version kind (some (front t.len slots))) → HasFlag first known
    flag_of_lem first known f k = has_flag version kind (text_of l) first known f (k ∙ member_kept version kind slots t.len (text_of l) its_text)

    its_place : t.first ≡ l.first
    its_place = (n.whole (is_whole bs 0 seat.from t slots n 34 e)).first

    pub count_below : seat.count < length bs
    count_below = let m = mark_bounds bs 0 seat.from t slots n 34 e in omega (arith, m.0, m.1, low)

    with_name_lem : (depth : ℕ) → members_from (length bs) depth (lexemes_at bs seat.from)
        ≡ after_name (length bs) l (λ vs. next_member (length bs) l (λ us. members_from (length bs) depth us) (value_from (length bs) depth vs)) (lexemes_at bs t.after)
    with_name_lem depth =
        members_one (length bs) depth (lexemes_at bs seat.from)
        ∙ name_at_lem bs seat.from t slots n (λ u us. after_name (length bs) u (λ vs. next_member (length bs) u (λ ws. members_from (length bs) depth ws) (value_from (length bs) depth vs)) us) e

    module _ (c : Token) (slots' : List ℕ) (m : TokenAt bs t.after c slots') where
      colon_there : (depth : ℕ) → is_mark 58 c ≡ true
          → members_from (length bs) depth (lexemes_at bs seat.from) ≡ next_member (length bs) l (λ us. members_from (length bs) depth us) (value_from (length bs) depth (lexemes_at bs c.after))
      colon_there depth h = with_name_lem depth ∙ (name_after bs t.after c slots' m l (λ vs. next_member (length bs) l (λ us. members_from (length bs) depth us) (value_from (length bs) depth vs)) ∙ rw h)

      colon_not : (depth : ℕ) → is_mark 58 c ≡ false
          → members_from (length bs) depth (lexemes_at bs seat.from) ≡ OpenBy (bare_name l) (record { place = stop_place (length bs) c; number = 27 })
      colon_not depth h = with_name_lem depth ∙ (name_after bs t.after c slots' m l (λ vs. next_member (length bs) l (λ us. members_from (length bs) depth us) (value_from (length bs) depth vs)) ∙ rw h)

      abbrev member_known : ℕ
      member_known = known_spot version kind l

      abbrev was_there : Bool
      was_there = was_seen (first_of kind) member_known flags

      -- the name is judged
      abbrev judged_seat : Seat
      judged_seat = spotting (fresh_spot member_known was_there) (refused (name_number kind member_known was_there) t.first seat)

      judged_said : (seen : List (List ℕ)) → Flagged version kind flags seen → said_by judged_seat ≡ sooner (said_by seat) (name_said version kind seen l)
      judged_said seen g =
          said_refused (name_number kind member_known was_there) t.first seat
          ∙ ap₂ (λ (k p : ℕ). sooner (said_by seat) (refusal_of k p)) (number_told version kind flags seen l g) its_place

      abbrev marks_now : List Bool
      marks_now = marked (first_of kind) member_known flags

      goes : is_mark 58 c ≡ true → NameRead bs version kind seat flags (moved_to c.after 3 (counting (next_skip kind member_known seat.count) judged_seat)) marks_now
      goes h =
          let a = mark_bounds bs 0 seat.from t slots n 34 e in
          let b = mark_bounds bs 0 t.after c slots' m 58 h in
          record {
            states = λ f. absurd (f refl);
            there = λ z seen g.
                record {
                  lexeme = l;
                  is = λ depth. colon_there depth h;
                  said = judged_said seen g;
                  spot = spot_told version kind flags seen l g;
                  count = refl;
                  flagged = flags_told version kind flags seen l g;
                };
            cut = λ z. absurd (omega (arith, z));
            later = λ z. omega (arith, a.0, b.0);
            counts = λ z. skips_below (eqb kind 0 && eqb member_known 0) seat.count c.after (omega (arith, a.0, b.0, low));
            onward = omega (arith, a.0, b.0);
            fits = b.1;
          }

      breaks_off_lem : is_mark 58 c ≡ false → NameRead bs version kind seat flags (stopped 27 (stop_place (length bs) c) 1 judged_seat) marks_now
      breaks_off_lem h =
          record {
            states = λ f. refl;
            there = λ z. absurd (omega (arith, z));
            cut = λ z seen g.
                record {
                  is = λ depth schema base cells.
                      rw (colon_not depth h, said_refused 27 (stop_place (length bs) c) judged_seat, judged_said seen g)
                      (sym (bare_open version schema kind base depth bs seen seat.count (said_by seat) cells l (record { place = stop_place (length bs) c; number = 27 })));
                  flagged = λ depth. rw (colon_not depth h) (flags_told version kind flags seen l g);
                };
            later = λ z. absurd (omega (arith, z));
            counts = λ z. absurd (omega (arith, z));
            onward = omega arith;
            fits = fit;
          }

      read_name_lem : NameRead bs version kind seat flags (after_colon kind member_known (length bs) c judged_seat) marks_now
      unfolding after_colon
      read_name_lem = cases (is_mark 58 c) (λ h. rw h (goes h)) (λ h. rw h (breaks_off_lem h))

      pub a_name_lem : (known first : ℕ) (repeated : Bool) (s : Seat) (marks : List Bool) (r : Seat) → known ≡ spot_by version kind (text_of l) → first ≡ first_of kind → repeated ≡ was_seen first known flags
          → s ≡ spotting (fresh_spot known repeated) (refused (name_number kind known repeated) t.first seat) → marks ≡ marked first known flags → r ≡ after_colon kind known (length bs) c s
          → NameRead bs version kind seat flags r marks
      a_name_lem known first repeated s marks r ek ef er es em ec =
          let R : repeated ≡ was_there = er ∙ ap₂ (λ (f k : ℕ). was_seen f k flags) ef ek in
          let S : s ≡ judged_seat = es ∙ ap₂ (λ (k : ℕ) (b : Bool). spotting (fresh_spot k b) (refused (name_number kind k b) t.first seat)) ek R in
          rw (ec, S, ek, em, ek, ef) read_name_lem
