-- Where a text stops hangs on the bytes up to there alone (`stop_stays`): so the byte at which it is not JSON is one that no text can have behind those before
-- it (`never_json`).
use Prim.Native.Nat.{ℕ, zero, suc, ◌+◌, ◌≤◌, ◌<◌}
use native.Mathlib.Omega.{arith}
use mathlib.Core.Path.{◌≡◌, refl, ◌∙◌, sym, ap}
use mathlib.Core.Bool.{Bool, true, false, cond, true≢false}
use mathlib.Core.List.{List, [], ◌∷◌, ◌++◌}
use mathlib.Core.Option.{Option, none, some}
use lib.Dec.{leb}
use lib.ListN.{length, take, drop, length-append, length-drop, take-append-drop}
use lib.Seq.{length-take-le, take-append-le, drop-append-le}
use borrow.Author.Tests.{leb-true, leb-false}
use Rattle.rules.specs.Words.{is_some}
use Rattle.rules.proofs.Checks.{by_test}
use Rattle.json_rule.specs.Lexemes.{quote, is_space, Part, Ends, Breaks, part_of, Lexeme, followed, lexemes}
use Rattle.json_rule.specs.Tree.{Defect, not_json, is_byte, is_scalar, text}
use Rattle.json_rule.proofs.Walk.{Want, AValue, ItemOrClose, CommaOrCloseList, AName, NameOrClose, AColon, CommaOrCloseObject, TheEnd, Turn, Goes, Stops, after, closing, opening, cannot_stand, breaks_off, value_turn, name_turn, turn, onward, walk, by_tests, turn_says, end_says, text_walk}
use Rattle.json_rule.proofs.Modes.{mode_of, part_run, Alike, same, past, run_alike}

-- ---- lexemes behind a place

-- none of them begins or breaks off before the place
abbrev pub Late : ℕ → List Lexeme → Type 0
Late n [] = Unit {0}
Late n (t ∷ ts) = (n ≤ t.first) × (t.whole ≡ false → n ≤ t.stop) × Late n ts

pub lexemes_late : (n steps place : ℕ) (bs : List ℕ) → n ≤ place → Late n (lexemes steps place bs)
unfolding lexemes
lexemes_late n zero place bs h = tt
lexemes_late n (suc steps) place [] h = tt
lexemes_late n (suc steps) place (b ∷ bs) h =
    by_test (Late n) (is_space b) (λ _. lexemes_late n steps (suc place) bs (omega arith)) (λ _. go (part_of b bs) (λ m. lexemes_late n steps (suc place + m) (drop m bs) (omega arith)))
  where
    go : (p : Part) → ((m : ℕ) → Late n (lexemes steps (suc place + m) (drop m bs))) → Late n (followed b bs place (λ next rest. lexemes steps next rest) p)
    go (Ends m) r = (h, λ e. absurd (true≢false e), r m)
    go (Breaks m) r = (h, λ e. omega arith, tt)

-- the walk over such lexemes stops nowhere before the place
abbrev pub StopsLate : ℕ → Option Defect → Type 0
StopsLate n o = (d : Defect) → o ≡ some d → n ≤ d.place

abbrev TurnLate : ℕ → Turn → Type 0
TurnLate n (Goes want around) = Unit {0}
TurnLate n (Stops d) = n ≤ d.place

stop_late : (n : ℕ) (d : Defect) → n ≤ d.place → StopsLate n (some d)
stop_late n d h e q = let k : d ≡ e = cc in rw (← k) h

onward_late : (n : ℕ) (k : Want → List Bool → Option Defect) (u : Turn) → TurnLate n u → ((want : Want) (around : List Bool) → StopsLate n (k want around)) → StopsLate n (onward k u)
onward_late n k (Goes want around) h r = r want around
onward_late n k (Stops d) h r = stop_late n d h

pub walk_late : (n len : ℕ) → n ≤ len → (ts : List Lexeme) → Late n ts → (want : Want) (around : List Bool) → StopsLate n (walk len want around ts)
walk_late n len h [] l want around = end_says (StopsLate n) len (stop_late n (record { place = len; number = not_json }) h) (λ d e. absurd (true≢false (ap is_some (sym e)))) want
walk_late n len h (t ∷ ts) l want around =
    onward_late n (λ w o. walk len w o ts) (turn want around t) (turn_says (TurnLate n) t (λ _ _. tt) l.0 l.0 l.1 want around) (walk_late n len h ts l.2)

-- ---- lexemes of two texts that share the bytes before a place

-- The same, up to one that the shared bytes do not decide, of which they tell the kind and the place; those behind it are late.
data Agree (n : ℕ) : List Lexeme → List Lexeme → Type 0 where
  late : {ts us : List Lexeme} → Late n ts → Agree n ts us
  last : (head first : ℕ) {body other : List ℕ} {whole otherWhole : Bool} {stop otherStop : ℕ} {ts us : List Lexeme} → (whole ≡ false → n ≤ stop) → Late n ts
      → Agree n (record { head = head; body = body; first = first; whole = whole; stop = stop } ∷ ts) (record { head = head; body = other; first = first; whole = otherWhole; stop = otherStop } ∷ us)
  next : (t : Lexeme) {ts us : List Lexeme} → Agree n ts us → Agree n (t ∷ ts) (t ∷ us)

lexemes_agree : (n steps fuel place : ℕ) (q r s : List ℕ) → n ≡ place + length q → length q + length r ≤ steps → length q + length s ≤ fuel
    → Agree n (lexemes steps place (q ++ r)) (lexemes fuel place (q ++ s))
unfolding lexemes
lexemes_agree n zero fuel place [] r s e f g = late tt
lexemes_agree n zero fuel place (b ∷ q) r s e f g = absurd (omega arith)
lexemes_agree n (suc steps) fuel place [] r s e f g = late (lexemes_late n (suc steps) place r (omega arith))
lexemes_agree n (suc steps) zero place (b ∷ q) r s e f g = absurd (omega arith)
lexemes_agree n (suc steps) (suc fuel) place (b ∷ q) r s e f g =
    by_tests (Agree n) (is_space b)
    (lexemes_agree n steps fuel (suc place) q r s (omega arith) (omega arith) (omega arith))
    (rw (part_run b (q ++ r), part_run b (q ++ s))
    (go _ _ (run_alike (mode_of b) q r s)
    (λ m h. lexemes_agree n steps fuel (suc place + m) (drop m q) r s (omega (arith, length-drop m q)) (omega (arith, length-drop m q)) (omega (arith, length-drop m q)))))
  where
    go : (p o : Part) → Alike (length q) p o
        → ((m : ℕ) → m ≤ length q → Agree n (lexemes steps (suc place + m) (drop m q ++ r)) (lexemes fuel (suc place + m) (drop m q ++ s)))
        → Agree n (followed b (q ++ r) place (λ next rest. lexemes steps next rest) p) (followed b (q ++ s) place (λ next rest. lexemes fuel next rest) o)
    go p o (same (Ends m)) rest = ends (leb m (length q)) refl
      where
        ends : (c : Bool) → leb m (length q) ≡ c → Agree n (followed b (q ++ r) place (λ next rest. lexemes steps next rest) (Ends m)) (followed b (q ++ s) place (λ next rest. lexemes fuel next rest) (Ends m))
        ends true c =
            let h : m ≤ length q = leb-true m (length q) c in
            rw (take-append-le m q r h, take-append-le m q s h, drop-append-le m q r h, drop-append-le m q s h) (next _ (rest m h))
        ends false c = let h : length q < m = leb-false m (length q) c in last b place (λ e. absurd (true≢false e)) (lexemes_late n steps (suc place + m) (drop m (q ++ r)) (omega arith))
    go p o (same (Breaks m)) rest = next _ (late tt)
    go (Ends m) (Ends k) (past h) rest = last b place (λ e. absurd (true≢false e)) (lexemes_late n steps (suc place + m) (drop m (q ++ r)) (omega arith))
    go (Ends m) (Breaks k) (past h) rest = last b place (λ e. absurd (true≢false e)) (lexemes_late n steps (suc place + m) (drop m (q ++ r)) (omega arith))
    go (Breaks m) (Ends k) (past h) rest = let l : n ≤ suc place + m = omega arith in last b place (λ e. l) tt
    go (Breaks m) (Breaks k) (past h) rest = let l : n ≤ suc place + m = omega arith in last b place (λ e. l) tt

-- ---- the walk over them

-- the same turn, or one that goes on, or stops late
data Decided (n : ℕ) : Turn → Turn → Type 0 where
  alike : (u : Turn) → Decided n u u
  going : (want : Want) (around : List Bool) {v : Turn} → Decided n (Goes want around) v
  stopping : (d : Defect) {v : Turn} → n ≤ d.place → Decided n (Stops d) v

-- of two lexemes that begin alike
module _ (n head first : ℕ) (body other : List ℕ) (whole otherWhole : Bool) (stop otherStop : ℕ) (broken : whole ≡ false → n ≤ stop) where
  abbrev here : Lexeme
  here = record { head = head; body = body; first = first; whole = whole; stop = stop }

  abbrev there : Lexeme
  there = record { head = head; body = other; first = first; whole = otherWhole; stop = otherStop }

  -- whether it is whole decides, or it stops late
  whole_decided : (want : Want) (around : List Bool) {v : Turn} → Decided n (cond whole (Goes want around) (breaks_off here)) v
  whole_decided want around {v} = by_test (λ u. Decided n u v) whole (λ _. going want around) (λ e. stopping (record { place = stop; number = not_json }) (broken e))

  value_decided : (around : List Bool) → Decided n (value_turn around here) (value_turn around there)
  unfolding is_scalar
  value_decided around =
      by_tests (Decided n) (is_byte 91 here) (alike (opening here true ItemOrClose around))
      (by_tests (Decided n) (is_byte 123 here) (alike (opening here false NameOrClose around))
      (by_tests (Decided n) (is_scalar here) (whole_decided (after around) around) (alike (cannot_stand here))))

  name_decided : (around : List Bool) → Decided n (name_turn around here) (name_turn around there)
  name_decided around = by_tests (Decided n) (is_byte quote here) (whole_decided AColon around) (alike (cannot_stand here))

  turn_decided : (want : Want) (around : List Bool) → Decided n (turn want around here) (turn want around there)
  turn_decided AValue around = value_decided around
  turn_decided ItemOrClose around = by_tests (Decided n) (is_byte 93 here) (alike (closing around)) (value_decided around)
  turn_decided CommaOrCloseList around = alike (turn CommaOrCloseList around here)
  turn_decided AName around = name_decided around
  turn_decided NameOrClose around = by_tests (Decided n) (is_byte 125 here) (alike (closing around)) (name_decided around)
  turn_decided AColon around = alike (turn AColon around here)
  turn_decided CommaOrCloseObject around = alike (turn CommaOrCloseObject around here)
  turn_decided TheEnd around = alike (cannot_stand here)

-- two texts stop alike before the place
abbrev StopAlike : ℕ → Option Defect → Option Defect → Type 0
StopAlike n o p = (d : Defect) → o ≡ some d → d.place < n → p ≡ some d

-- one that stops late does not stop before
not_before : (n : ℕ) (o p : Option Defect) → StopsLate n o → StopAlike n o p
not_before n o p h d e l = absurd (let k : n ≤ d.place = h d e in omega arith)

decided_alike : (n : ℕ) (k m : Want → List Bool → Option Defect) {u v : Turn} → Decided n u v → ((want : Want) (around : List Bool) → StopsLate n (k want around)) → StopAlike n (onward k u) (onward m v)
decided_alike n k m (alike (Goes want around)) h = not_before n (k want around) (m want around) (h want around)
decided_alike n k m (alike (Stops d)) h = λ e q l. q
decided_alike n k m (going want around {v = v}) h = not_before n (k want around) (onward m v) (h want around)
decided_alike n k m (stopping d {v = v} g) h = not_before n (some d) (onward m v) (stop_late n d g)

onward_alike : (n : ℕ) (k m : Want → List Bool → Option Defect) → ((want : Want) (around : List Bool) → StopAlike n (k want around) (m want around)) → (u : Turn) → StopAlike n (onward k u) (onward m u)
onward_alike n k m h (Goes want around) = h want around
onward_alike n k m h (Stops d) = λ e q l. q

walk_agree : (n len other : ℕ) → n ≤ len → {ts us : List Lexeme} → Agree n ts us → (want : Want) (around : List Bool) → StopAlike n (walk len want around ts) (walk other want around us)
walk_agree n len other h (late {ts = ts} {us = us} l) want around = not_before n (walk len want around ts) (walk other want around us) (walk_late n len h ts l want around)
walk_agree n len other h (last head first {body = body} {other = b} {whole = w} {otherWhole = v} {stop = s} {otherStop = o} {ts = ts} {us = us} broken l) want around =
    decided_alike n (λ w o. walk len w o ts) (λ w o. walk other w o us) (turn_decided n head first body b w v s o broken want around) (walk_late n len h ts l)
walk_agree n len other h (next t {ts = ts} {us = us} a) want around =
    onward_alike n (λ w o. walk len w o ts) (λ w o. walk other w o us) (λ w o. walk_agree n len other h a w o) (turn want around t)

-- ---- texts

-- what stands behind the place at which a text stops does not matter
pub stop_stays : (q r s : List ℕ) (d : Defect) → (text (q ++ r)).stop ≡ some d → d.place < length q → (text (q ++ s)).stop ≡ some d
stop_stays q r s d e l =
    let f : length q + length r ≡ length (q ++ r) = sym (length-append q r) in
    let g : length q + length s ≡ length (q ++ s) = sym (length-append q s) in
    text_walk (q ++ s)
    ∙ walk_agree (length q) (length (q ++ r)) (length (q ++ s)) (omega arith)
    (lexemes_agree (length q) (length (q ++ r)) (length (q ++ s)) 0 q r s (omega arith) (omega arith) (omega arith)) AValue [] d (sym (text_walk (q ++ r)) ∙ e) l

-- all texts that begin with the bytes up to the one at which a text stops, and with that one, stop there
pub stops_there : (bs rest : List ℕ) (d : Defect) → (text bs).stop ≡ some d → d.place < length bs → (text (take (suc d.place) bs ++ rest)).stop ≡ some d
stops_there bs rest d e l =
    let q = take (suc d.place) bs in
    let k : length q ≡ suc d.place = length-take-le (suc d.place) bs l in
    stop_stays q (drop (suc d.place) bs) rest d (rw take-append-drop e) (omega arith)

-- so none of them is JSON
pub never_json : (bs rest : List ℕ) (d : Defect) → (text bs).stop ≡ some d → d.place < length bs → (text (take (suc d.place) bs ++ rest)).stop ≡ none → ⊥
never_json bs rest d e l n = true≢false (ap is_some (sym (stops_there bs rest d e l) ∙ n))
