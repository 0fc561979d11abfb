-- What a text has before the byte at which it is not JSON can be completed (`some_json`): the lexeme that breaks off there, or what is wanted there, an empty
-- text for a value, and the brackets that are open. What completes it opens none, so it is nested no deeper.
use Prim.Native.Nat.{ℕ, zero, suc, ◌+◌, ◌-◌, ◌≤◌, ◌<◌}
use native.Mathlib.Omega.{arith}
use mathlib.Core.Path.{◌≡◌, refl, ◌∙◌, sym, ap}
use mathlib.Core.Bool.{Bool, true, false, cond, true≢false}
use mathlib.Core.List.{List, [], ◌∷◌, ◌++◌, append_assoc}
use mathlib.Core.Option.{none, some}
use lib.Dec.{eqb, leb}
use lib.ListN.{length, take, drop, length-append, length-drop, take-append-drop}
use lib.Seq.{length-take-le, append_snoc, take-add, drop_at}
use borrow.Author.Tests.{eqb-true}
use Rattle.rules.specs.Words.{is_some}
use Rattle.rules.proofs.Checks.{by_test}
use Rattle.json_rule.specs.Lexemes.{quote, is_space, is_digit, string, Part, Ends, Breaks, part_of, Lexeme, followed, lexemes}
use Rattle.json_rule.specs.Tree.{Defect, not_json, deepest, is_byte, is_scalar, text}
use Rattle.json_rule.proofs.Walk.{Want, AValue, ItemOrClose, CommaOrCloseList, AName, NameOrClose, AColon, CommaOrCloseObject, TheEnd, Turn, Goes, Stops, after, closing, cannot_stand, breaks_off, value_turn, name_turn, turn, onward, at_end, walk, turn_says, end_says, text_walk}
use Rattle.json_rule.proofs.Stop.{lexemes_late, walk_late}
use Rattle.json_rule.proofs.Modes.{mode_of, run, part_run, reach, is_end, Alike, same, past, run_alike, a_quote, a_bracket, a_brace, a_colon, Closing, nothing, begins, ends_closing, run_fits, first_sensible, Completes, run_completes}

-- ---- what closes a text

-- the innermost bracket is a list's, or an object's
abbrev InList : List Bool → Type 0
InList [] = ⊥
InList (true ∷ around) = Unit {0}
InList (false ∷ around) = ⊥

abbrev InObject : List Bool → Type 0
InObject [] = ⊥
InObject (true ∷ around) = ⊥
InObject (false ∷ around) = Unit {0}

-- the brackets that are open suit what may stand next
abbrev Fitting : Want → List Bool → Type 0
Fitting AValue around = Unit {0}
Fitting ItemOrClose around = InList around
Fitting CommaOrCloseList around = InList around
Fitting AName around = InObject around
Fitting NameOrClose around = InObject around
Fitting AColon around = InObject around
Fitting CommaOrCloseObject around = InObject around
Fitting TheEnd around = around ≡ []

after_fits : (around : List Bool) → Fitting (after around) around
after_fits [] = refl
after_fits (true ∷ around) = tt
after_fits (false ∷ around) = tt

abbrev TurnFits : Turn → Type 0
TurnFits (Goes want around) = Fitting want around
TurnFits (Stops d) = Unit {0}

closing_fits : (around : List Bool) → TurnFits (closing around)
closing_fits [] = refl
closing_fits (b ∷ around) = after_fits around

value_fits : (around : List Bool) (t : Lexeme) → TurnFits (value_turn around t)
value_fits around t =
    by_test TurnFits (is_byte 91 t) (λ _. by_test TurnFits (leb deepest (length around)) (λ _. tt) (λ _. tt))
    (λ _. by_test TurnFits (is_byte 123 t) (λ _. by_test TurnFits (leb deepest (length around)) (λ _. tt) (λ _. tt))
    (λ _. by_test TurnFits (is_scalar t) (λ _. by_test TurnFits t.whole (λ _. after_fits around) (λ _. tt)) (λ _. tt)))

name_fits : (around : List Bool) (t : Lexeme) → InObject around → TurnFits (name_turn around t)
name_fits around t h = by_test TurnFits (is_byte quote t) (λ _. by_test TurnFits t.whole (λ _. h) (λ _. tt)) (λ _. tt)

turn_fits : (want : Want) (around : List Bool) (t : Lexeme) → Fitting want around → TurnFits (turn want around t)
turn_fits AValue around t h = value_fits around t
turn_fits ItemOrClose around t h = by_test TurnFits (is_byte 93 t) (λ _. closing_fits around) (λ _. value_fits around t)
turn_fits CommaOrCloseList around t h = by_test TurnFits (is_byte 44 t) (λ _. tt) (λ _. by_test TurnFits (is_byte 93 t) (λ _. closing_fits around) (λ _. tt))
turn_fits AName around t h = name_fits around t h
turn_fits NameOrClose around t h = by_test TurnFits (is_byte 125 t) (λ _. closing_fits around) (λ _. name_fits around t h)
turn_fits AColon around t h = by_test TurnFits (is_byte 58 t) (λ _. tt) (λ _. tt)
turn_fits CommaOrCloseObject around t h = by_test TurnFits (is_byte 44 t) (λ _. h) (λ _. by_test TurnFits (is_byte 125 t) (λ _. closing_fits around) (λ _. tt))
turn_fits TheEnd around t h = tt

-- the last bytes of what these brackets hold
abbrev shut : List Bool → List ℕ
shut [] = []
shut (true ∷ around) = 93 ∷ shut around
shut (false ∷ around) = 125 ∷ shut around

-- what closes a text in which that may stand next: an empty text for a value
abbrev closes : Want → List Bool → List ℕ
closes AValue around = 34 ∷ 34 ∷ shut around
closes ItemOrClose around = shut around
closes CommaOrCloseList around = shut around
closes AName around = 34 ∷ 34 ∷ 58 ∷ 34 ∷ 34 ∷ shut around
closes NameOrClose around = shut around
closes AColon around = 58 ∷ 34 ∷ 34 ∷ shut around
closes CommaOrCloseObject around = shut around
closes TheEnd around = []

shut_closing : (around : List Bool) → Closing (shut around)
shut_closing [] = nothing
shut_closing (true ∷ around) = begins a_bracket
shut_closing (false ∷ around) = begins a_brace

closes_closing : (want : Want) (around : List Bool) → Closing (closes want around)
closes_closing AValue around = begins a_quote
closes_closing ItemOrClose around = shut_closing around
closes_closing CommaOrCloseList around = shut_closing around
closes_closing AName around = begins a_quote
closes_closing NameOrClose around = shut_closing around
closes_closing AColon around = begins a_colon
closes_closing CommaOrCloseObject around = shut_closing around
closes_closing TheEnd around = nothing

module _ (len : ℕ) where
  none_left : (steps place : ℕ) → walk len TheEnd [] (lexemes steps place []) ≡ none
  unfolding lexemes
  none_left zero place = refl
  none_left (suc steps) place = refl

  shut_walk : (around : List Bool) (steps place : ℕ) → length (shut around) ≤ steps → walk len (after around) around (lexemes steps place (shut around)) ≡ none
  unfolding lexemes is_space is_digit part_of
  shut_walk [] steps place h = none_left steps place
  shut_walk (true ∷ around) zero place h = absurd (omega arith)
  shut_walk (true ∷ around) (suc steps) place h = shut_walk around steps (suc place + 0) (omega arith)
  shut_walk (false ∷ around) zero place h = absurd (omega arith)
  shut_walk (false ∷ around) (suc steps) place h = shut_walk around steps (suc place + 0) (omega arith)

  -- an empty text where a value may stand, and the brackets
  value_walk : (around : List Bool) (steps place : ℕ) → length (closes AValue around) ≤ steps → walk len AValue around (lexemes steps place (closes AValue around)) ≡ none
  unfolding lexemes is_space is_digit part_of string is_scalar
  value_walk around zero place h = absurd (omega arith)
  value_walk around (suc steps) place h = shut_walk around steps (suc place + 1) (omega arith)

  colon_walk : (around : List Bool) (steps place : ℕ) → length (closes AColon around) ≤ steps → walk len AColon around (lexemes steps place (closes AColon around)) ≡ none
  unfolding lexemes is_space is_digit part_of
  colon_walk around zero place h = absurd (omega arith)
  colon_walk around (suc steps) place h = value_walk around steps (suc place + 0) (omega arith)

  name_walk : (around : List Bool) (steps place : ℕ) → length (closes AName around) ≤ steps → walk len AName around (lexemes steps place (closes AName around)) ≡ none
  unfolding lexemes is_space is_digit part_of string
  name_walk around zero place h = absurd (omega arith)
  name_walk around (suc steps) place h = colon_walk around steps (suc place + 1) (omega arith)

  -- a bracket at once
  empty_list_walk : (around : List Bool) → InList around → (steps place : ℕ) → length (shut around) ≤ steps → walk len ItemOrClose around (lexemes steps place (shut around)) ≡ none
  unfolding lexemes is_space is_digit part_of
  empty_list_walk [] f steps place h = absurd f
  empty_list_walk (true ∷ around) f zero place h = absurd (omega arith)
  empty_list_walk (true ∷ around) f (suc steps) place h = shut_walk around steps (suc place + 0) (omega arith)
  empty_list_walk (false ∷ around) f steps place h = absurd f

  empty_object_walk : (around : List Bool) → InObject around → (steps place : ℕ) → length (shut around) ≤ steps → walk len NameOrClose around (lexemes steps place (shut around)) ≡ none
  unfolding lexemes is_space is_digit part_of
  empty_object_walk [] f steps place h = absurd f
  empty_object_walk (true ∷ around) f steps place h = absurd f
  empty_object_walk (false ∷ around) f zero place h = absurd (omega arith)
  empty_object_walk (false ∷ around) f (suc steps) place h = shut_walk around steps (suc place + 0) (omega arith)

  closes_walk : (want : Want) (around : List Bool) → Fitting want around → (steps place : ℕ) → length (closes want around) ≤ steps → walk len want around (lexemes steps place (closes want around)) ≡ none
  closes_walk AValue around f steps place h = value_walk around steps place h
  closes_walk ItemOrClose around f steps place h = empty_list_walk around f steps place h
  closes_walk CommaOrCloseList [] f steps place h = absurd f
  closes_walk CommaOrCloseList (true ∷ around) f steps place h = shut_walk (true ∷ around) steps place h
  closes_walk CommaOrCloseList (false ∷ around) f steps place h = absurd f
  closes_walk AName around f steps place h = name_walk around steps place h
  closes_walk NameOrClose around f steps place h = empty_object_walk around f steps place h
  closes_walk AColon around f steps place h = colon_walk around steps place h
  closes_walk CommaOrCloseObject [] f steps place h = absurd f
  closes_walk CommaOrCloseObject (true ∷ around) f steps place h = absurd f
  closes_walk CommaOrCloseObject (false ∷ around) f steps place h = shut_walk (false ∷ around) steps place h
  closes_walk TheEnd around f steps place h = rw f (none_left steps place)

-- ---- a lexeme that is whole, and one that breaks off

abbrev whole_lexeme : ℕ → ℕ → List ℕ → Lexeme
whole_lexeme b place body = record { head = b; body = body; first = place; whole = true; stop = 0 }

abbrev broken_lexeme : ℕ → ℕ → ℕ → Lexeme
broken_lexeme b place stop = record { head = b; body = []; first = place; whole = false; stop = stop }

-- the walk does not look at the bytes behind the first
turn_body : (want : Want) (around : List Bool) (b place : ℕ) (body other : List ℕ) → turn want around (whole_lexeme b place body) ≡ turn want around (whole_lexeme b place other)
unfolding is_scalar
turn_body AValue around b place body other = refl
turn_body ItemOrClose around b place body other = refl
turn_body CommaOrCloseList around b place body other = refl
turn_body AName around b place body other = refl
turn_body NameOrClose around b place body other = refl
turn_body AColon around b place body other = refl
turn_body CommaOrCloseObject around b place body other = refl
turn_body TheEnd around b place body other = refl

-- the bytes that are lexemes by themselves: brackets, comma and colon
data Mark : ℕ → Type 0 where
  opens_list : Mark 91
  closes_list : Mark 93
  opens_object : Mark 123
  closes_object : Mark 125
  a_comma : Mark 44
  names_end : Mark 58

mark_alone : {c : ℕ} → Mark c → (bs : List ℕ) → part_of c bs ≡ Ends 0
unfolding part_of is_digit
mark_alone opens_list bs = refl
mark_alone closes_list bs = refl
mark_alone opens_object bs = refl
mark_alone closes_object bs = refl
mark_alone a_comma bs = refl
mark_alone names_end bs = refl

-- none of them breaks off
not_mark : (b : ℕ) (bs : List ℕ) (n : ℕ) → part_of b bs ≡ Breaks n → {c : ℕ} → Mark c → eqb b c ≡ false
not_mark b bs n e {c} m = go (eqb b c) refl
  where
    go : (t : Bool) → eqb b c ≡ t → t ≡ false
    go true q = let k : b ≡ c = eqb-true b c q in absurd (true≢false (ap is_end (sym (mark_alone m bs) ∙ (rw k at e))))
    go false q = refl

-- where a lexeme that breaks off cannot stand it is refused as a whole one would be; where it could, a whole one goes on
data BrokenTurn (place stop : ℕ) (u : Turn) (v : List ℕ → Turn) : Type 0 where
  cannot : u ≡ Stops (record { place = place; number = not_json }) → BrokenTurn place stop u v
  breaks : (want : Want) (around : List Bool) → u ≡ Stops (record { place = stop; number = not_json }) → ((body : List ℕ) → v body ≡ Goes want around) → BrokenTurn place stop u v

chosen_broken : (b place stop : ℕ) (want : Want) (around : List Bool) (c : Bool)
    → BrokenTurn place stop (cond c (breaks_off (broken_lexeme b place stop)) (cannot_stand (broken_lexeme b place stop))) (λ body. cond c (Goes want around) (cannot_stand (whole_lexeme b place body)))
chosen_broken b place stop want around true = breaks want around refl (λ body. refl)
chosen_broken b place stop want around false = cannot refl

module _ (b place stop : ℕ) (bs : List ℕ) (n : ℕ) (e : part_of b bs ≡ Breaks n) where
  apart : {c : ℕ} → Mark c → eqb b c ≡ false
  apart m = not_mark b bs n e m

  value_broken : (around : List Bool) → BrokenTurn place stop (value_turn around (broken_lexeme b place stop)) (λ body. value_turn around (whole_lexeme b place body))
  unfolding is_scalar
  value_broken around = rw (apart opens_list, apart opens_object) (chosen_broken b place stop (after around) around (is_scalar (broken_lexeme b place stop)))

  turn_broken : (want : Want) (around : List Bool) → BrokenTurn place stop (turn want around (broken_lexeme b place stop)) (λ body. turn want around (whole_lexeme b place body))
  turn_broken AValue around = value_broken around
  turn_broken ItemOrClose around = rw (apart closes_list) (value_broken around)
  turn_broken CommaOrCloseList around = rw (apart a_comma, apart closes_list) (cannot refl)
  turn_broken AName around = chosen_broken b place stop AColon around (eqb b quote)
  turn_broken NameOrClose around = rw (apart closes_object) (chosen_broken b place stop AColon around (eqb b quote))
  turn_broken AColon around = rw (apart names_end) (cannot refl)
  turn_broken CommaOrCloseObject around = rw (apart a_comma, apart closes_object) (cannot refl)
  turn_broken TheEnd around = cannot refl

-- ---- what ends where it ended

-- what follows a lexeme: bytes that close, or the byte that followed it
data Follows : List ℕ → List ℕ → Type 0 where
  closed : {r s : List ℕ} → Closing s → Follows r s
  goes_on : (x : ℕ) (xs ys : List ℕ) → Follows (x ∷ xs) (x ∷ ys)

alike_ends : {m : ℕ} {p r : Part} (n : ℕ) → Alike m p r → p ≡ Ends n → n < m → r ≡ Ends n
alike_ends n (same p) e l = e
alike_ends {m} n (past {p = p} h) e l = absurd (let k : reach p ≡ n = ap reach e in omega arith)

ends_again : (b : ℕ) (q r s : List ℕ) → part_of b (q ++ r) ≡ Ends (length q) → Follows r s → part_of b (q ++ s) ≡ Ends (length q)
ends_again b q r s e (closed c) = part_run b (q ++ s) ∙ ends_closing (mode_of b) q r s (sym (part_run b (q ++ r)) ∙ e) c
ends_again b q r s e (goes_on x xs ys) =
    let a = run_alike (mode_of b) (q ++ (x ∷ [])) xs ys in
    let l : length (q ++ (x ∷ [])) ≡ length q + 1 = length-append q (x ∷ []) in
    let h : run (mode_of b) (q ++ (x ∷ []) ++ xs) ≡ Ends (length q) = rw append_snoc (sym (part_run b (q ++ (x ∷ xs))) ∙ e) in
    part_run b (q ++ (x ∷ ys)) ∙ (rw append_snoc at (alike_ends (length q) a h (omega arith)))

follow : (k : ℕ) (r rest : List ℕ) → k ≤ length r → (k ≡ 0 → Closing rest) → Follows r (take k r ++ rest)
follow zero r rest l c = closed (c refl)
follow (suc k) [] rest l c = absurd (omega arith)
follow (suc k) (x ∷ xs) rest l c = goes_on x xs (take k xs ++ rest)

-- a whole lexeme in front, with which the walk goes on
walk_whole : (len fuel place b n : ℕ) (bs rest : List ℕ) (want next : Want) (around inner : List Bool) → is_space b ≡ false → part_of b bs ≡ Ends n
    → turn want around (whole_lexeme b place (take n bs)) ≡ Goes next inner → drop n bs ≡ rest → walk len next inner (lexemes fuel (suc place + n) rest) ≡ none
    → walk len want around (lexemes (suc fuel) place (b ∷ bs)) ≡ none
unfolding lexemes
walk_whole len fuel place b n bs rest want next around inner s e t d h = rw (s, e, t, d) h

-- ---- the bytes before a place

-- The first so many bytes from a place on can be completed. What completes none of them closes.
record Completable (place : ℕ) (bs : List ℕ) (k : ℕ) (want : Want) (around : List Bool) : Type 0 where
  pub rest : List ℕ
  pub fits : k ≤ length bs
  pub closing : k ≡ 0 → Closing rest
  pub json : (fuel len : ℕ) → length (take k bs ++ rest) ≤ fuel → walk len want around (lexemes fuel place (take k bs ++ rest)) ≡ none

at_once : (place : ℕ) (bs : List ℕ) (k : ℕ) (want : Want) (around : List Bool) → Fitting want around → k ≡ 0 → Completable place bs k want around
at_once place bs k want around f e = record {
  rest = closes want around;
  fits = omega arith;
  closing = λ _. closes_closing want around;
  json = rw e (λ fuel len h. closes_walk len want around f fuel place h);
}

-- no lexeme is longer than the bytes that are left
part_fits : (b : ℕ) (bs : List ℕ) (p : Part) → part_of b bs ≡ p → reach p ≤ length bs
part_fits b bs p e = rw (← e, part_run b bs) (run_fits (mode_of b) bs)

behind_space : (b place k : ℕ) (bs : List ℕ) (want : Want) (around : List Bool) → is_space b ≡ true → Completable (suc place) bs k want around → Completable place (b ∷ bs) (suc k) want around
unfolding lexemes
behind_space b place k bs want around s c = record { rest = c.rest; fits = omega (arith, c.fits); closing = λ e. absurd (omega arith); json = json }
  where
    json : (fuel len : ℕ) → suc (length (take k bs ++ c.rest)) ≤ fuel → walk len want around (lexemes fuel place (b ∷ (take k bs ++ c.rest))) ≡ none
    json zero len h = absurd (omega arith)
    json (suc fuel) len h = rw s (c.json fuel len (omega arith))

behind_whole : (b place n k : ℕ) (bs : List ℕ) (want next : Want) (around inner : List Bool) → is_space b ≡ false → part_of b bs ≡ Ends n
    → turn want around (whole_lexeme b place (take n bs)) ≡ Goes next inner → Completable (suc place + n) (drop n bs) k next inner → Completable place (b ∷ bs) (suc (n + k)) want around
behind_whole b place n k bs want next around inner s e t c =
    record { rest = c.rest; fits = omega (arith, c.fits, length-drop n bs, part_fits b bs (Ends n) e); closing = λ e. absurd (omega arith); json = json }
  where
    front : List ℕ
    front = take n bs

    later : List ℕ
    later = take k (drop n bs) ++ c.rest

    front_length : length front ≡ n
    front_length = length-take-le n bs (part_fits b bs (Ends n) e)

    parted : take (n + k) bs ++ c.rest ≡ front ++ later
    parted = rw (take-add n k bs, append_assoc)

    ended : part_of b (front ++ later) ≡ Ends n
    ended =
        ends_again b front (drop n bs) later (rw (take-append-drop n bs, front_length) e) (follow k (drop n bs) c.rest c.fits c.closing)
        ∙ ap Ends front_length

    json : (fuel len : ℕ) → suc (length (take (n + k) bs ++ c.rest)) ≤ fuel → walk len want around (lexemes fuel place (b ∷ (take (n + k) bs ++ c.rest))) ≡ none
    json zero len h = absurd (omega arith)
    json (suc fuel) len h =
        rw parted
        (walk_whole len fuel place b n (front ++ later) later want next around inner s ended (turn_body want around b place (take n (front ++ later)) (take n bs) ∙ t) (drop_at front later n front_length)
        (c.json fuel len (omega (arith, ap length parted, length-append front later))))

broken_off : (b place n : ℕ) (bs : List ℕ) (want next : Want) (around inner : List Bool) → is_space b ≡ false → part_of b bs ≡ Breaks n → Fitting next inner
    → ((body : List ℕ) → turn want around (whole_lexeme b place body) ≡ Goes next inner) → Completable place (b ∷ bs) (suc n) want around
broken_off b place n bs want next around inner s e f t = record { rest = added ++ shutting; fits = omega (arith, part_fits b bs (Breaks n) e); closing = λ e. absurd (omega arith); json = json }
  where
    completes : Completes (mode_of b) bs n
    completes = run_completes (mode_of b) (first_sensible b) bs n (sym (part_run b bs) ∙ e)

    added : List ℕ
    added = completes.0

    shutting : List ℕ
    shutting = closes next inner

    all : List ℕ
    all = take n bs ++ (added ++ shutting)

    front_length : length (take n bs ++ added) ≡ n + length added
    front_length = rw (length-append, length-take-le n bs (part_fits b bs (Breaks n) e))

    left : drop (n + length added) all ≡ shutting
    left = rw (← append_assoc (take n bs) added shutting) (drop_at (take n bs ++ added) shutting (n + length added) front_length)

    json : (fuel len : ℕ) → suc (length all) ≤ fuel → walk len want around (lexemes fuel place (b ∷ all)) ≡ none
    json zero len h = absurd (omega arith)
    json (suc fuel) len h =
        walk_whole len fuel place b (n + length added) all shutting want next around inner s (part_run b all ∙ completes.1 shutting (closes_closing next inner)) (t (take (n + length added) all)) left
        (closes_walk len next inner f fuel (suc place + (n + length added)) (omega (arith, length-append (take n bs) (added ++ shutting), length-append added shutting)))

-- ---- texts

-- reading stops at this defect
same_place : (d e : Defect) → some d ≡ some e → d.place ≡ e.place
same_place d e q = let k : d ≡ e = cc in ap (λ (f : Defect). f.place) k

end_place : (len : ℕ) (d : Defect) (want : Want) → at_end len want ≡ some d → len ≡ d.place
end_place len d want = end_says (λ o. o ≡ some d → len ≡ d.place) len (same_place (record { place = len; number = not_json }) d) (λ q. absurd (true≢false (ap is_some (sym q)))) want

-- a whole lexeme that cannot stand there is refused at its first byte
abbrev RefusedAt : ℕ → Turn → Type 0
RefusedAt place (Goes want around) = Unit {0}
RefusedAt place (Stops d) = d.place ≡ place

whole_refused : (want : Want) (around : List Bool) (b place : ℕ) (body : List ℕ) → RefusedAt place (turn want around (whole_lexeme b place body))
whole_refused want around b place body = turn_says (RefusedAt place) (whole_lexeme b place body) (λ _ _. tt) refl refl (λ e. absurd (true≢false e)) want around

-- a text of some length that stops at a place
module _ (len : ℕ) (d : Defect) where
  -- the bytes from a place on, up to where it stops
  abbrev Completing : ℕ → ℕ → List ℕ → Want → List Bool → Type 0
  Completing steps place bs want around =
      Fitting want around → length bs ≤ steps → place + length bs ≡ len → walk len want around (lexemes steps place bs) ≡ some d → (k : ℕ) → d.place ≡ place + k
      → Completable place bs k want around

  -- behind a lexeme, by the turn to which it leads
  behind_turn : (steps place b n k : ℕ) (bs : List ℕ) (want : Want) (around : List Bool) → Fitting want around → is_space b ≡ false → part_of b bs ≡ Ends n → length bs ≤ steps → place + suc (length bs) ≡ len → d.place ≡ place + k
      → ((want : Want) (around : List Bool) → Completing steps (suc place + n) (drop n bs) want around)
      → (u : Turn) → turn want around (whole_lexeme b place (take n bs)) ≡ u → TurnFits u → RefusedAt place u
      → onward (λ w o. walk len w o (lexemes steps (suc place + n) (drop n bs))) u ≡ some d → Completable place (b ∷ bs) k want around
  behind_turn steps place b n k bs want around f s q h l p rec (Goes next inner) t g r e =
      let m : n ≤ length bs = part_fits b bs (Ends n) q in
      let z : suc place + n ≤ d.place = walk_late (suc place + n) len (omega arith) (lexemes steps (suc place + n) (drop n bs)) (lexemes_late (suc place + n) steps (suc place + n) (drop n bs) (omega arith)) next inner d e in
      let j : k ≡ suc (n + (k - suc n)) = omega arith in
      rw j (behind_whole b place n (k - suc n) bs want next around inner s q t
      (rec next inner g (omega (arith, length-drop n bs)) (omega (arith, length-drop n bs)) e (k - suc n) (omega arith)))
  behind_turn steps place b n k bs want around f s q h l p rec (Stops c) t g r e = at_once place (b ∷ bs) k want around f (omega (arith, same_place c d e))

  broken_turn : (place b n k : ℕ) (bs : List ℕ) (want : Want) (around : List Bool) → Fitting want around → is_space b ≡ false → part_of b bs ≡ Breaks n → d.place ≡ place + k
      → BrokenTurn place (suc place + n) (turn want around (broken_lexeme b place (suc place + n))) (λ body. turn want around (whole_lexeme b place body))
      → onward (λ w o. walk len w o []) (turn want around (broken_lexeme b place (suc place + n))) ≡ some d → Completable place (b ∷ bs) k want around
  broken_turn place b n k bs want around f s q p (cannot u) e =
      at_once place (b ∷ bs) k want around f (omega (arith, same_place (record { place = place; number = not_json }) d (rw u at e)))
  broken_turn place b n k bs want around f s q p (breaks next inner u t) e =
      let j : k ≡ suc n = omega (arith, same_place (record { place = suc place + n; number = not_json }) d (rw u at e)) in
      rw j (broken_off b place n bs want next around inner s q (rw (t []) at (turn_fits want around (whole_lexeme b place []) f)) t)

  complete : (steps place : ℕ) (bs : List ℕ) (want : Want) (around : List Bool) → Completing steps place bs want around
  unfolding lexemes
  complete zero place [] want around f h l e k p = at_once place [] k want around f (omega (arith, end_place len d want e))
  complete zero place (b ∷ bs) want around f h l e k p = absurd (omega arith)
  complete (suc steps) place [] want around f h l e k p = at_once place [] k want around f (omega (arith, end_place len d want e))
  complete (suc steps) place (b ∷ bs) want around f h l e k p = spaced (is_space b) refl e (λ first cs w a g m i j x y. complete steps first cs w a g m i j x y)
    where
      parted : is_space b ≡ false → ((place : ℕ) (bs : List ℕ) (want : Want) (around : List Bool) → Completing steps place bs want around)
          → (o : Part) → part_of b bs ≡ o → walk len want around (followed b bs place (λ next rest. lexemes steps next rest) o) ≡ some d → Completable place (b ∷ bs) k want around
      parted s rec (Ends n) q e =
          let t = whole_lexeme b place (take n bs) in
          behind_turn steps place b n k bs want around f s q (omega arith) l p (rec (suc place + n) (drop n bs)) (turn want around t) refl (turn_fits want around t f) (whole_refused want around b place (take n bs)) e
      parted s rec (Breaks n) q e = broken_turn place b n k bs want around f s q p (turn_broken b place (suc place + n) bs n q want around) e

      spaced : (c : Bool) → is_space b ≡ c → walk len want around (cond c (lexemes steps (suc place) bs) (followed b bs place (λ next rest. lexemes steps next rest) (part_of b bs))) ≡ some d
          → ((place : ℕ) (bs : List ℕ) (want : Want) (around : List Bool) → Completing steps place bs want around) → Completable place (b ∷ bs) k want around
      spaced true s e rec =
          let z : suc place ≤ d.place = walk_late (suc place) len (omega arith) (lexemes steps (suc place) bs) (lexemes_late (suc place) steps (suc place) bs (omega arith)) want around d e in
          let j : k ≡ suc (k - 1) = omega arith in
          rw j (behind_space b place (k - 1) bs want around s (rec (suc place) bs want around f (omega arith) (omega arith) e (k - 1) (omega arith)))
      spaced false s e rec = parted s rec (part_of b bs) refl e

-- some text that begins with the bytes before the place at which a text stops is JSON
pub some_json : (bs : List ℕ) (d : Defect) → (text bs).stop ≡ some d → (rest : List ℕ) × ((text (take d.place bs ++ rest)).stop ≡ none)
some_json bs d e =
    let c = complete (length bs) d (length bs) 0 bs AValue [] tt (omega arith) (omega arith) (sym (text_walk bs) ∙ e) d.place (omega arith) in
    (c.rest, text_walk (take d.place bs ++ c.rest) ∙ c.json (length (take d.place bs ++ c.rest)) (length (take d.place bs ++ c.rest)) (omega arith))
