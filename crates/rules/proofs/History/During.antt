-- Why the list of a span is to be believed: each that it lists is the answer at its own time, they stand in the order of time, and every answer
-- within the span can be read off.
use Prim.Native.Nat.{ℕ}
use native.Mathlib.Nat.{le_refl}
use native.Mathlib.Omega.{arith}
use mathlib.Core.Path.{◌≡◌, refl, sym, ◌∙◌}
use mathlib.Core.Logic.{⊎_elim}
use mathlib.Core.Bool.{Bool, true, false, cond, not, ◌&&◌, false≢true, true≢false}
use mathlib.Core.List.Memᴰ
use mathlib.Core.List.{List, [], ◌∷◌, Memᴰ}
use mathlib.Core.Option.{Option, none, some}
use borrow.Author.Tests.{leb-true, leb-false, le-leb, lt-ltb, not-true}
use borrow.Table.Steps.{cases}
use lib.IntN.{ℤ, pos, negsuc}
use lib.Signed.{le_z, lt_z}
use Rattle.rules.specs.Words.{all, any, keep, or_else, ascending}
use Rattle.rules.specs.Register.{LogEntry}
use Rattle.rules.specs.Moment.{is_by, current_at}
use Rattle.rules.specs.During.{is_within, answers_itself, answered_within, current_during}
use Rattle.rules.proofs.Checks.{by_test, both, and_left, and_right, or_left, or_right, by_either, neither}
use Rattle.rules.proofs.History.Lists.{in_keep, in_last}

some_none : {A : Type 0} {a : A} → some a ≡ none → ⊥
some_none q = let z : ◌≡◌ {A = ℕ} 0 1 = cc in omega arith

-- ---- at most, of whole numbers

pub at_most_itself : (a : ℤ) → le_z a a ≡ true
at_most_itself (pos a) = le-leb a a (le_refl a)
at_most_itself (negsuc a) = le-leb a a (le_refl a)

at_most_further : (a b c : ℤ) → le_z a b ≡ true → le_z b c ≡ true → le_z a c ≡ true
at_most_further (pos a) (pos b) (pos c) h k = le-leb a c (omega (arith, leb-true a b h, leb-true b c k))
at_most_further (pos a) (pos b) (negsuc c) h k = k
at_most_further (pos a) (negsuc b) c h k = absurd (false≢true h)
at_most_further (negsuc a) (pos b) (pos c) h k = refl
at_most_further (negsuc a) (pos b) (negsuc c) h k = absurd (false≢true k)
at_most_further (negsuc a) (negsuc b) (pos c) h k = refl
at_most_further (negsuc a) (negsuc b) (negsuc c) h k = le-leb c a (omega (arith, leb-true b a h, leb-true c b k))

at_most_turned : (a b : ℤ) → le_z a b ≡ false → le_z b a ≡ true
at_most_turned (pos a) (pos b) h = le-leb b a (omega (arith, leb-false a b h))
at_most_turned (pos a) (negsuc b) h = refl
at_most_turned (negsuc a) (pos b) h = absurd (true≢false h)
at_most_turned (negsuc a) (negsuc b) h = le-leb a b (omega (arith, leb-false b a h))

-- what is by a time is by a later one
by_later : (a b : ℤ) → le_z a b ≡ true → (l : List LogEntry) → any (is_by a) l ≡ true → any (is_by b) l ≡ true
by_later a b h [] k = k
by_later a b h (x ∷ l) k =
    by_either (is_by a x) (any (is_by a) l)
    (λ e. or_left (any (is_by b) l) (at_most_further x.time a b e h))
    (λ e. or_right (is_by b x) (by_later a b h l e)) k

by_earlier : (a b : ℤ) → le_z a b ≡ true → (l : List LogEntry) → any (is_by b) l ≡ false → any (is_by a) l ≡ false
by_earlier a b h l k = cases (any (is_by a) l) (λ t. absurd (true≢false (sym (by_later a b h l t) ∙ k))) (λ f. f)

-- ---- an entry in front

module _ (time : ℤ) (x : LogEntry) (l : List LogEntry) where
  in_front : current_at time (x ∷ l) ≡ cond (is_by time x) (some (or_else (current_at time l) x)) (current_at time l)
  unfolding current_at
  in_front = cases (is_by time x) (λ t. rw t) (λ f. rw f)

  -- it changes nothing where one behind it is the answer
  pub behind : {e : LogEntry} → current_at time l ≡ some e → current_at time (x ∷ l) ≡ some e
  behind q = in_front ∙ cases (is_by time x) (λ t. rw (t, q)) (λ f. rw (f, q))

  alone : is_by time x ≡ true → current_at time l ≡ none → current_at time (x ∷ l) ≡ some x
  alone t q = in_front ∙ rw (t, q)

  passed : is_by time x ≡ false → current_at time (x ∷ l) ≡ current_at time l
  passed f = in_front ∙ rw f

none_by : (time : ℤ) (l : List LogEntry) → any (is_by time) l ≡ false → current_at time l ≡ none
unfolding current_at
none_by time [] h = refl
none_by time (x ∷ l) h = let n = neither (is_by time x) (any (is_by time) l) h in rw n.0 (none_by time l n.1)

-- where none is the answer, none is by the time
by_none : (time : ℤ) (l : List LogEntry) → current_at time l ≡ none → any (is_by time) l ≡ false
unfolding current_at
by_none time [] q = refl
by_none time (x ∷ l) q = cases (is_by time x) (λ t. absurd (some_none (rw t at q))) (λ f. rw f (by_none time l (rw f at q)))

-- ---- each that is listed is the answer at its own time

module _ (first last : ℤ) where
  pub listed_current : (log : List LogEntry) {e : LogEntry} → Memᴰ e (answered_within first last log) → current_at e.time log ≡ some e
  unfolding answered_within
  listed_current [] h = absurd (Memᴰ.not-nil h)
  listed_current (x ∷ log) {e} h =
      by_test (λ (r : List LogEntry). Memᴰ e r → current_at e.time (x ∷ log) ≡ some e) (is_within first last x && answers_itself x log)
      (λ t k. ⊎_elim (λ q. rw q (itself t)) (λ q. behind e.time x log (listed_current log q)) (Memᴰ.cases_cons k))
      (λ f k. behind e.time x log (listed_current log k)) h
    where
      itself : (is_within first last x && answers_itself x log) ≡ true → current_at x.time (x ∷ log) ≡ some x
      itself t = alone x.time x log (at_most_itself x.time) (none_by x.time log (not-true _ (and_right (is_within first last x) (answers_itself x log) t)))

-- ---- log order is the order of time

below : (a b : ℤ) → le_z b a ≡ false → lt_z a b ≡ true
below (pos a) (pos b) h = lt-ltb a b (leb-false b a h)
below (pos a) (negsuc b) h = absurd (true≢false h)
below (negsuc a) (pos b) h = refl
below (negsuc a) (negsuc b) h = lt-ltb b a (leb-false a b h)

abbrev earlier : LogEntry → LogEntry → Bool
earlier a b = lt_z a.time b.time

module _ (first last : ℤ) where
  all_later : (e : LogEntry) (log : List LogEntry) → any (is_by e.time) log ≡ false → all (earlier e) (answered_within first last log) ≡ true
  unfolding answered_within
  all_later e [] h = refl
  all_later e (x ∷ log) h =
      let n = neither (is_by e.time x) (any (is_by e.time) log) h in
      by_test (λ (r : List LogEntry). all (earlier e) r ≡ true) (is_within first last x && answers_itself x log)
      (λ t. both (below e.time x.time n.0) (all_later e log n.1))
      (λ f. all_later e log n.1)

  -- each that is listed has a time before all that follow it
  pub listed_ascend : (log : List LogEntry) → ascending earlier (answered_within first last log) ≡ true
  unfolding answered_within
  listed_ascend [] = refl
  listed_ascend (x ∷ log) =
      by_test (λ (r : List LogEntry). ascending earlier r ≡ true) (is_within first last x && answers_itself x log)
      (λ t. both (all_later x log (not-true _ (and_right (is_within first last x) (answers_itself x log) t))) (listed_ascend log))
      (λ f. listed_ascend log)

-- ---- every answer within the span can be read off

-- the answer of the listed ones, or the first answer where none of them is by the moment
abbrev pub or_first : Option LogEntry → Option LogEntry → Option LogEntry
or_first none first = first
or_first (some e) first = some e

module _ (first last moment : ℤ) (begun : le_z first moment ≡ true) (going : le_z moment last ≡ true) where
  module _ (x : LogEntry) (log : List LogEntry) (before : current_at moment log ≡ or_first (current_at moment (answered_within first last log)) (current_at first log)) where
    abbrev listed : List LogEntry
    listed = answered_within first last log

    -- x is in the list or not; what is behind it answers
    some_behind : (e : LogEntry) → current_at moment log ≡ some e → (o : Option LogEntry) → current_at moment listed ≡ o → current_at moment (x ∷ log) ≡ or_first (current_at moment (answered_within first last (x ∷ log))) (current_at first (x ∷ log))
    unfolding answered_within
    some_behind e q none r =
        let f : current_at first log ≡ some e = sym (before ∙ rw r) ∙ q in
        behind moment x log q
        ∙ by_test (λ (l : List LogEntry). some e ≡ or_first (current_at moment l) (current_at first (x ∷ log))) (is_within first last x && answers_itself x log)
        (λ t. absurd (some_none (sym f ∙ none_by first log (by_earlier first x.time (at_most_turned x.time first (not-true _ (and_left (not (is_by first x)) (is_by last x) (and_left (is_within first last x) (answers_itself x log) t)))) log (not-true _ (and_right (is_within first last x) (answers_itself x log) t))))))
        (λ n. rw r (sym (behind first x log f)))
    some_behind e q (some y) r =
        let s : some e ≡ some y = sym q ∙ before ∙ rw r in
        behind moment x log q
        ∙ s
        ∙ by_test (λ (l : List LogEntry). some y ≡ or_first (current_at moment l) (current_at first (x ∷ log))) (is_within first last x && answers_itself x log)
        (λ t. rw (behind moment x listed r))
        (λ n. rw r)

    -- none behind x is by the moment
    none_behind : current_at moment log ≡ none → current_at moment listed ≡ none → current_at moment (x ∷ log) ≡ or_first (current_at moment (answered_within first last (x ∷ log))) (current_at first (x ∷ log))
    unfolding answered_within
    none_behind q r =
        let late : any (is_by moment) log ≡ false = by_none moment log q in
        let f : current_at first log ≡ none = none_by first log (by_earlier first moment begun log late) in
        cases (is_by moment x)
        (λ t. alone moment x log t q
        ∙ cases (is_by first x)
        (λ u. rw (u, r) (sym (alone first x log u f)))
        (λ u. rw (u, at_most_further x.time moment last t going, by_earlier x.time moment t log late, alone moment x listed t r)))
        (λ t. passed moment x log t ∙ q
        ∙ by_test (λ (l : List LogEntry). none ≡ or_first (current_at moment l) (current_at first (x ∷ log))) (is_within first last x && answers_itself x log)
        (λ u. rw (passed moment x listed t, r) (sym (passed first x log (earlier t) ∙ f)))
        (λ u. rw r (sym (passed first x log (earlier t) ∙ f))))
      where
        earlier : is_by moment x ≡ false → is_by first x ≡ false
        earlier t = cases (is_by first x) (λ u. absurd (true≢false (sym (at_most_further x.time first moment u begun) ∙ t))) (λ u. u)

    in_list_lem : (o p : Option LogEntry) → current_at moment log ≡ o → current_at moment listed ≡ p → current_at moment (x ∷ log) ≡ or_first (current_at moment (answered_within first last (x ∷ log))) (current_at first (x ∷ log))
    in_list_lem (some e) p q r = some_behind e q p r
    in_list_lem none none q r = none_behind q r
    in_list_lem none (some e) q r = absurd (some_none {a = e} (sym (before ∙ rw r) ∙ q))

  pub read_off : (log : List LogEntry) → current_at moment log ≡ or_first (current_at moment (answered_within first last log)) (current_at first log)
  unfolding current_at answered_within
  read_off [] = refl
  read_off (x ∷ log) = in_list_lem x log (read_off log) (current_at moment log) (current_at moment (answered_within first last log)) refl refl

-- ---- so nothing that was current is left out

-- the first answer, or one that is listed
pub data Told (first last moment : ℤ) (log : List LogEntry) : Type 0 where
  AsFirst : current_at moment log ≡ current_at first log → Told first last moment log
  Listed : (e : LogEntry) → current_at moment log ≡ some e → Memᴰ e (answered_within first last log) → Told first last moment log

pub none_left_out : (first last moment : ℤ) (log : List LogEntry) → le_z first moment ≡ true → le_z moment last ≡ true → Told first last moment log
unfolding current_at
none_left_out first last moment log h k = go (current_at moment (answered_within first last log)) refl
  where
    go : (o : Option LogEntry) → current_at moment (answered_within first last log) ≡ o → Told first last moment log
    go none q = AsFirst (read_off first last moment h k log ∙ rw q)
    go (some e) q = Listed e (read_off first last moment h k log ∙ rw q) (in_keep (is_by moment) (answered_within first last log) (in_last (keep (is_by moment) (answered_within first last log)) q))

-- ---- three spans, computed

abbrev entry : ℕ → ℕ → LogEntry
entry id time = record { snapshot = pos id; time = pos time }

-- an entry at the first millisecond is the first answer, one at the last is listed, and one after it is not
pub at_both_ends : current_during (pos 200) (pos 300) (entry 1 100 ∷ entry 2 200 ∷ entry 3 300 ∷ entry 4 301 ∷ []) ≡ (some (entry 2 200), entry 3 300 ∷ [])
unfolding current_at answered_within
at_both_ends = refl

-- times step back: 3 was never the answer, since 4 stands behind it with an earlier time
pub stepped_over : current_during (pos 150) (pos 400) (entry 1 100 ∷ entry 3 300 ∷ entry 4 200 ∷ entry 5 350 ∷ []) ≡ (some (entry 1 100), entry 4 200 ∷ entry 5 350 ∷ [])
unfolding current_at answered_within
stepped_over = refl

-- times step back to before the span: the last entry is the answer throughout
pub hidden : current_during (pos 150) (pos 400) (entry 2 200 ∷ entry 3 300 ∷ entry 1 100 ∷ []) ≡ (some (entry 1 100), [])
unfolding current_at answered_within
hidden = refl
