-- The reader of an object keeps its promise, from the first bracket to the last.
use Prim.Native.Nat.{ℕ, ◌≤◌}
use native.Mathlib.Omega.{arith}
use mathlib.Core.Path.{◌≡◌, refl, sym, ap, ap₂, subst, ◌∙◌}
use mathlib.Core.Bool.{Bool, false}
use mathlib.Core.List.{List, []}
use mathlib.Core.Option.{Option}
use lib.Dec.{eqb}
use lib.ListN.{length, replicate}
use borrow.Author.Tests.{eq-eqb, ne_eqb}
use Rattle.json_rule.specs.Tree.{Defect, Named, first_member}
use Rattle.json_rule.specs.Defects.{stands_at}
use Rattle.json_judge.specs.Refusal.{sooner}
use Rattle.json_tokens.specs.Tokens.{lexemes_at, TokenAt}
use Rattle.json_tokens.specs.declared.token.Token.{Token}
use Rattle.json_descent.specs.Descent.{members_from}
use Rattle.file_cells.specs.Wants.{stands_at_schema, named_at, record_at}
use Rattle.file_members.proofs.Flags.{flags_none}
use Rattle.file_walk.specs.declared.seat.Seat.{Seat}
use Rattle.file_walk.specs.Seats.{refusal_of, said_by, refused, begun_by}
use Rattle.file_walk.specs.Outcomes.{told, misplaced_number}
use Rattle.file_walk.specs.Members.{record_flag, inner_place, lack_number, names_in, Flagged, of_members, members_told, names_told, MayMember, MemberTurned}
use Rattle.file_walk.specs.Walked.{MayEnter, ObjectWalked}
use Rattle.file_walk.proofs.Said.{said_refused}
use Rattle.file_walk.proofs.MemberTurns.{begun, begun_names}
use Rattle.file_walk.proofs.ListWalks.{begun_onward}
use Rattle.file_walk.proofs.Objects.{closing, object}

-- ---- the loop

module _ (bs : List ℕ) (version kind schema base depth : ℕ) (begin : Seat) (start : List ℕ) where
  -- what is said of the object from its first member on is what is said of it from here on; and the flags are those of the names that were there
  pub record Membering (s : Seat) (cells : List ℕ) (flags : List Bool) : Type 0 where
    pub names : List (List ℕ)
    pub flagged : Flagged version kind flags names
    pub is : members_told version bs schema kind base depth names s cells ≡ members_told version bs schema kind base depth [] begin start
    pub same : names_told version bs depth names s ≡ names_told version bs depth [] begin
    pub onward : begin.from ≤ s.from
    pub fits : s.from ≤ length bs
    pub counts : s.state ≡ 3 → s.count ≤ s.from

  pub membering_more : (s : Seat) (cells : List ℕ) (flags : List Bool) (r : Seat) (after : List ℕ) (marks : List Bool) → Membering s cells flags → s.state ≡ 3
      → MemberTurned bs version kind schema base depth s cells flags r after marks → Membering r after marks
  membering_more s cells flags r after marks l e m =
      let t = m.told_by l.names l.flagged in
      record {
        names = t.names;
        flagged = t.flagged;
        is = t.is ∙ (rw (eq-eqb s.state 3 e) at l.is);
        same = t.same ∙ (rw (eq-eqb s.state 3 e) at l.same);
        onward = omega (arith, l.onward, m.onward);
        fits = m.fits;
        counts = m.counts;
      }

pub may_member : (bs : List ℕ) (version kind want schema base depth : ℕ) (seat begin : Seat) (start : List ℕ) (s : Seat) (cells : List ℕ) (flags : List Bool) → MayEnter bs want base depth seat
    → Membering bs version kind schema base depth begin start s cells flags → s.state ≡ 3 → MayMember bs base depth s
may_member bs version kind want schema base depth seat begin start s cells flags m l e = record { shallow = m.shallow; low = m.low; counts = l.counts e; fits = l.fits }

-- ---- from the first bracket to the last

module _ (bs : List ℕ) (version want schema base depth first : ℕ) (seat : Seat) (start : List ℕ) (m : MayEnter bs want base depth seat) (own : named_at want ≡ 0) (kind inner : ℕ) (is_kind : kind ≡ record_at want)
    (is-inner : inner ≡ inner_place kind first schema) (p : Seat) (is-placed : p ≡ refused (misplaced_number want (record_flag kind)) (stands_at (stands_at_schema want) schema first) seat) (t : Token) (slots : List ℕ)
    (n : TokenAt bs seat.from t slots) (begin : Seat) (is-begun : begin ≡ begun_by 125 t p) where
  same_from : p.from ≡ seat.from
  same_from = ap (λ (x : Seat). x.from) is-placed

  at_placed : TokenAt bs p.from t slots
  at_placed = subst (λ (k : ℕ). TokenAt bs k t slots) (sym same_from) n

  begun_at : (seat.from ≤ begin.from) × ((begin.from ≤ length bs) × (begin.count ≡ 0))
  begun_at = rw (is-begun, ← same_from) (begun_onward bs 125 t slots p at_placed (omega (arith, same_from, m.fits)))

  pub object_begins : (flags : List Bool) → flags ≡ replicate 23 false → Membering bs version kind inner base depth begin start begin start flags
  object_begins flags e =
      record {
        names = [];
        flagged = record { are = λ k z. e ∙ sym (flags_none version k) };
        is = refl;
        same = refl;
        onward = omega arith;
        fits = begun_at.1.0;
        counts = λ z. omega (arith, begun_at.1.1);
      }

  abbrev inside : Named
  inside = first_member (length bs) (λ us. members_from (length bs) depth us) (lexemes_at bs seat.from)

  abbrev placing : ℕ → Option Defect
  placing k = refusal_of (misplaced_number want (record_flag k)) (stands_at (stands_at_schema want) schema first)

  from_begin : members_told version bs inner kind base depth [] begin start
      ≡ of_members version (inner_place (record_at want) first schema) (record_at want) base [] 0 (sooner (said_by seat) (placing (record_at want))) start inside
  from_begin =
      ap (λ (y : Seat). members_told version bs inner kind base depth [] y start) is-begun
      ∙ (begun version inner kind base depth bs t slots p start at_placed
      ∙ (ap₂ (λ (d : Option Defect) (k : ℕ). of_members version inner kind base [] 0 d start (first_member (length bs) (λ us. members_from (length bs) depth us) (lexemes_at bs k)))
      (ap said_by is-placed ∙ said_refused (misplaced_number want (record_flag kind)) (stands_at (stands_at_schema want) schema first) seat) same_from
      ∙ ap₂ (λ (i k : ℕ). of_members version i k base [] 0 (sooner (said_by seat) (placing k)) start inside) (is-inner ∙ ap (λ (k : ℕ). inner_place k first schema) is_kind) is_kind))

  names_begin : names_told version bs depth [] begin ≡ names_in [] inside
  names_begin =
      ap (names_told version bs depth []) is-begun
      ∙ (begun_names version inner kind base depth bs t slots p at_placed
      ∙ ap (λ (k : ℕ). names_in [] (first_member (length bs) (λ us. members_from (length bs) depth us) (lexemes_at bs k))) same_from)

  pub object_ends : (s : Seat) (cells : List ℕ) (flags : List Bool) (r : Seat) → Membering bs version kind inner base depth begin start s cells flags → (s.state ≡ 3 → ⊥)
      → r ≡ refused (lack_number version kind s.state flags) first s → ObjectWalked bs version want schema base depth first seat start r cells
  object_ends s cells flags r l f e =
      let not_3 : eqb s.state 3 ≡ false = ne_eqb s.state 3 f in
      let names-are : l.names ≡ names_in [] inside = (rw not_3 at l.same) ∙ names_begin in
      let told_is : told bs s cells ≡ of_members version (inner_place (record_at want) first schema) (record_at want) base [] 0 (sooner (said_by seat) (placing (record_at want))) start inside = (rw not_3 at l.is) ∙ from_begin in
      let g : Flagged version (record_at want) flags (names_in [] inside) = subst (λ (k : ℕ). Flagged version k flags (names_in [] inside)) is_kind (subst (λ (ns : List (List ℕ)). Flagged version kind flags ns) names-are l.flagged) in
      record {
        is =
            rw (e, said_refused (lack_number version kind s.state flags) first s, is_kind)
            (◌∙◌ {b = closing version (record_at want) first flags (of_members version (inner_place (record_at want) first schema) (record_at want) base [] 0 (sooner (said_by seat) (placing (record_at want))) start inside)}
            (ap (closing version (record_at want) first flags) told_is)
            (sym (object version schema want base first (said_by seat) start inside flags m.meant own g)));
        onward = omega (arith, begun_at.0, l.onward, ap (λ (x : Seat). x.from) e);
        fits = omega (arith, l.fits, ap (λ (x : Seat). x.from) e);
      }
