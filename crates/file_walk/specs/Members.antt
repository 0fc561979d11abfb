-- What is said and held of what an object has from a member on.
use Rattle.std.specs.Prelude.{ℕ, suc, ◌+◌, ◌-◌, ◌*◌, ◌≤◌, ◌<◌, ◌≡◌, Bool, false, cond, ◌&&◌, List, [], eqb, leb, length, get_or}
use Rattle.std.proofs.Math.Option.{Option, none, some}
use Rattle.json_rule.specs.Lexemes.{Lexeme}
use Rattle.json_rule.specs.Values.{text_of}
use Rattle.json_rule.specs.Tree.{Defect, Members, no_member, bare_name, member, Named, ClosedBy, OpenBy, next_member}
use Rattle.json_rule.specs.Defects.{with_name, least, not_published}
use Rattle.json_judge.specs.Refusal.{sooner}
use Rattle.json_tokens.specs.Tokens.{lexemes_at}
use Rattle.json_tokens.specs.declared.token.Token.{Token}
use Rattle.json_descent.specs.Descent.{value_from, members_from}
use Rattle.file_rule.specs.Tables.{FileKind, rows_in}
use Rattle.file_rule.specs.FileDefects.{missing_member, is_repeated, member_defects}
use Rattle.file_cells.specs.Wants.{kind_at, spot_by, spot_for}
use Rattle.file_cells.specs.Filled.{filled_members}
use Rattle.file_members.specs.Flags.{flags_in, lacks_in}
use Rattle.file_walk.specs.Seats.{said_by, refusal_of, read_whole, was_cut, goes_on, moved_to, counting, stopped, is_mark, stop_place}
use Rattle.file_walk.specs.Outcomes.{Outcome, outcome, told}
use Rattle.file_walk.specs.declared.seat.Seat.{Seat}

-- the names that were there, with those of more members
abbrev pub all_names : List (List ℕ) → Members → List (List ℕ)
all_names seen no_member = seen
all_names seen (bare_name t) = with_name seen (text_of t)
all_names seen (member t x ms) = all_names (with_name seen (text_of t)) ms

abbrev pub names_in : List (List ℕ) → Named → List (List ℕ)
names_in seen (ClosedBy ms ts) = all_names seen ms
names_in seen (OpenBy ms stop) = all_names seen ms

-- what is wrong with a name, by whether it is known, and was there before: what is no record says nothing of it, and the file skips what it does not know
abbrev pub name_number : ℕ → ℕ → Bool → ℕ
name_number kind known repeated = cond (leb 13 kind) 0 (cond (eqb known 0) (cond (eqb kind 0) 0 not_published) (cond repeated not_published 0))

-- what the file does not know is counted
abbrev pub next_skip : ℕ → ℕ → ℕ → ℕ
next_skip kind known count = cond (eqb kind 0 && eqb known 0) (suc count) count

-- the flags of the members that were there
abbrev pub was_seen : ℕ → ℕ → List Bool → Bool
was_seen first known flags = cond (eqb known 0) false (get_or flags (known - first) false)

-- a known member has a flag
pub record HasFlag (first known : ℕ) : Type 0 where
  pub above : (known ≡ 0 → ⊥) → first ≤ known
  pub below : (known ≡ 0 → ⊥) → known - first < 23

-- the number of a member whose value is wanted: none of one that was there before
abbrev pub fresh_spot : ℕ → Bool → ℕ
fresh_spot known repeated = cond repeated 0 known

-- where a name cannot stand, or breaks off
abbrev pub name_stop : ℕ → Token → ℕ
name_stop len t = cond (eqb t.state 0) len (cond (eqb t.state 2 && eqb t.head 34) t.stop t.first)

-- behind a name: the colon, and a value to come
unfoldable pub after_colon : ℕ → ℕ → ℕ → Token → Seat → Seat
after_colon kind known len t s = cond (is_mark 58 t) (moved_to t.after goes_on (counting (next_skip kind known s.count) s)) (stopped 27 (stop_place len t) was_cut s)

-- a record, told as what an element is to be
abbrev pub record_flag : ℕ → ℕ
record_flag kind = cond (leb 13 kind) 0 1

-- the place of the schema around what a record has
abbrev pub inner_place : ℕ → ℕ → ℕ → ℕ
inner_place kind first schema = cond (eqb kind 2) first schema

module _ (version : ℕ) where
  -- of a record the flags are those of its members whose names were there
  pub record Flagged (kind : ℕ) (flags : List Bool) (seen : List (List ℕ)) : Type 0 where
    pub are : (k : FileKind) → kind_at kind ≡ some k → flags ≡ flags_in version k seen

  -- a name of a record that is known in the version
  abbrev pub known_spot : ℕ → Lexeme → ℕ
  known_spot kind t = spot_by version kind (text_of t)

  abbrev pub name_said : ℕ → List (List ℕ) → Lexeme → Option Defect
  name_said kind seen t = refusal_of (name_number kind (known_spot kind t) (is_repeated seen (text_of t))) t.first

  abbrev pub skips_from : ℕ → ℕ → Members → ℕ
  skips_from kind count no_member = count
  skips_from kind count (bare_name t) = count
  skips_from kind count (member t x ms) = skips_from kind (next_skip kind (known_spot kind t) count) ms

  abbrev pub defects_of_kind : ℕ → Option FileKind → List (List ℕ) → Members → List Defect
  defects_of_kind schema none seen ms = []
  defects_of_kind schema (some k) seen ms = member_defects version schema k (rows_in version k) seen ms

  abbrev pub members_said : ℕ → ℕ → List (List ℕ) → Members → Option Defect
  members_said schema kind seen ms = least (defects_of_kind schema (kind_at kind) seen ms)

  abbrev pub of_members : ℕ → ℕ → ℕ → List (List ℕ) → ℕ → Option Defect → List ℕ → Named → Outcome
  of_members schema kind base seen count said cells (ClosedBy ms ts) =
      outcome (sooner said (members_said schema kind seen ms)) (filled_members version kind base seen ms cells) read_whole ts (skips_from kind count ms)
  of_members schema kind base seen count said cells (OpenBy ms stop) =
      outcome (sooner (sooner said (members_said schema kind seen ms)) (some stop)) (filled_members version kind base seen ms cells) was_cut [] (skips_from kind count ms)

  -- what a seat inside an object says: what is to come, or how the object ended
  abbrev pub members_told : List ℕ → ℕ → ℕ → ℕ → ℕ → List (List ℕ) → Seat → List ℕ → Outcome
  members_told bs schema kind base depth seen s cells =
      cond (eqb s.state goes_on) (of_members schema kind base seen s.count (said_by s) cells (members_from (length bs) depth (lexemes_at bs s.from))) (told bs s cells)

  -- and which names were there in the end
  abbrev pub names_told : List ℕ → ℕ → List (List ℕ) → Seat → List (List ℕ)
  names_told bs depth seen s = cond (eqb s.state goes_on) (names_in seen (members_from (length bs) depth (lexemes_at bs s.from))) seen

-- a record that was closed lacks a member that it must have
abbrev pub lack_number : ℕ → ℕ → ℕ → List Bool → ℕ
lack_number version kind state flags = cond (eqb state 0) (cond (leb 13 kind) 0 (cond (lacks_in version kind flags) missing_member 0)) 0

-- ---- a name and the colon behind it

module _ (bs : List ℕ) (version kind : ℕ) (seat r : Seat) (flags : List Bool) (seen : List (List ℕ)) where
  -- both are there, and a value is to come
  pub record NameThere : Type 0 where
    pub lexeme : Lexeme
    pub is : (depth : ℕ)
        → members_from (length bs) depth (lexemes_at bs seat.from)
        ≡ next_member (length bs) lexeme (λ us. members_from (length bs) depth us) (value_from (length bs) depth (lexemes_at bs r.from))
    pub said : said_by r ≡ sooner (said_by seat) (name_said version kind seen lexeme)
    pub spot : r.spot ≡ spot_for version kind seen lexeme
    pub count : r.count ≡ next_skip kind (known_spot version kind lexeme) seat.count
    pub flagged : Flagged version kind flags (with_name seen (text_of lexeme))

  -- the object breaks off before a value
  pub record NameCut : Type 0 where
    pub is : (depth schema base : ℕ) (cells : List ℕ)
        → told bs r cells ≡ of_members version schema kind base seen seat.count (said_by seat) cells (members_from (length bs) depth (lexemes_at bs seat.from))
    pub flagged : (depth : ℕ) → Flagged version kind flags (names_in seen (members_from (length bs) depth (lexemes_at bs seat.from)))

pub record NameRead (bs : List ℕ) (version kind : ℕ) (seat : Seat) (flags : List Bool) (r : Seat) (after : List Bool) : Type 0 where
  pub states : (r.state ≡ 3 → ⊥) → r.state ≡ 1
  pub there : r.state ≡ 3 → (seen : List (List ℕ)) → Flagged version kind flags seen → NameThere bs version kind seat r after seen
  pub cut : r.state ≡ 1 → (seen : List (List ℕ)) → Flagged version kind flags seen → NameCut bs version kind seat r after seen
  pub later : r.state ≡ 3 → seat.from < r.from
  pub counts : r.state ≡ 3 → r.count ≤ r.from
  pub onward : seat.from ≤ r.from
  pub fits : r.from ≤ length bs

-- ---- a member and what stands behind it

pub record MayMember (bs : List ℕ) (base depth : ℕ) (seat : Seat) : Type 0 where
  pub shallow : depth ≤ 16
  pub low : base + 2097152 ≤ 2097152 * depth
  pub counts : seat.count ≤ seat.from
  pub fits : seat.from ≤ length bs

module _ (bs : List ℕ) (version kind schema base depth : ℕ) (seat : Seat) (cells : List ℕ) (r : Seat) (after : List ℕ) (flags : List Bool) (seen : List (List ℕ)) where
  pub record MemberTold : Type 0 where
    pub names : List (List ℕ)
    pub flagged : Flagged version kind flags names
    pub is : members_told version bs schema kind base depth names r after
        ≡ of_members version schema kind base seen seat.count (said_by seat) cells (members_from (length bs) depth (lexemes_at bs seat.from))
    pub same : names_told version bs depth names r ≡ names_in seen (members_from (length bs) depth (lexemes_at bs seat.from))

pub record MemberTurned (bs : List ℕ) (version kind schema base depth : ℕ) (seat : Seat) (cells : List ℕ) (flags : List Bool) (r : Seat) (after : List ℕ) (marks : List Bool) : Type 0 where
  pub told_by : (seen : List (List ℕ)) → Flagged version kind flags seen → MemberTold bs version kind schema base depth seat cells r after marks seen
  pub later : r.state ≡ 3 → seat.from < r.from
  pub counts : r.state ≡ 3 → r.count ≤ r.from
  pub onward : seat.from ≤ r.from
  pub fits : r.from ≤ length bs
