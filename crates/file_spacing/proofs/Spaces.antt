-- Spaces that are put where no lexeme stands across the place, or taken from there, leave the lexemes as they were but for their places.
use Prim.Native.Nat.{ℕ, zero, suc, ◌+◌, ◌≤◌, ◌<◌}
use native.Mathlib.Omega.{arith}
use mathlib.Core.Path.{◌≡◌, refl, sym, ap, subst, subst₃, ◌∙◌}
use mathlib.Core.Bool.{Bool, true, false, cond, ◌&&◌, ◌||◌, false≢true}
use mathlib.Core.List.{List, [], ◌∷◌, ◌++◌, map, append_assoc}
use mathlib.Core.Option.{some}
use lib.Dec.{eqb, leb}
use lib.ListN.{length, take, drop, length-append, length-drop, take-append-drop}
use lib.Seq.{length-take-le, take-append-le, drop-append-le}
use borrow.Author.Tests.{eqb-true, leb-true, lt-leb}
use Rattle.rules.specs.Words.{all}
use Rattle.rules.specs.Register.{Metadata}
use Rattle.rules.proofs.Checks.{by_either, and_left, and_right}
use Rattle.json_rule.specs.Lexemes.{is_space, is_digit, Part, Ends, Breaks, further, part_of, Lexeme, followed, lexemes}
use Rattle.json_rule.proofs.Walk.{by_tests}
use Rattle.json_rule.proofs.Modes.{Mode, InText, InEscape, InHex, InCharacter, BehindMinus, BehindZero, InWhole, BehindPoint, InFraction, BehindE, BehindSign, InPower, InWord, Move, Onto, Closes, Neither, may_end, step, mode_of, moved, run, part_run, reach, Alike, same, past, run_alike, is_end, nothing, ends_closing, run_fits}
use Rattle.file_rule.specs.Import.{imported}
use Rattle.file_spacing.specs.Places.{moved_lexeme, unplaced_lexemes, is_beside, is_between}
use Rattle.file_spacing.proofs.Alike.{spacing_accepted}

-- ---- where a lexeme ends that a space follows

by_space : (P : ℕ → Type 0) → P 32 → P 9 → P 10 → P 13 → (c : ℕ) → is_space c ≡ true → P c
unfolding is_space
by_space P p q r s c h =
    by_either (eqb c 32 || eqb c 9 || eqb c 10) (eqb c 13)
    (λ k. by_either (eqb c 32 || eqb c 9) (eqb c 10)
    (λ l. by_either (eqb c 32) (eqb c 9) (λ e. at 32 p e) (λ e. at 9 q e) l) (λ e. at 10 r e) k) (λ e. at 13 s e) h
  where
    at : (n : ℕ) → P n → eqb c n ≡ true → P c
    at n p e = subst P (sym (eqb-true c n e)) p

-- a space continues nothing that may end
quiet : (mode : Mode) → may_end mode ≡ true → (c : ℕ) → is_space c ≡ true → step mode c ≡ Neither
unfolding is_digit
quiet InText e = absurd (false≢true e)
quiet InEscape e = absurd (false≢true e)
quiet (InHex k) e = absurd (false≢true e)
quiet (InCharacter k low high) e = absurd (false≢true e)
quiet BehindMinus e = absurd (false≢true e)
quiet BehindZero e = by_space (λ (c : ℕ). step BehindZero c ≡ Neither) refl refl refl refl
quiet InWhole e = by_space (λ (c : ℕ). step InWhole c ≡ Neither) refl refl refl refl
quiet BehindPoint e = absurd (false≢true e)
quiet InFraction e = by_space (λ (c : ℕ). step InFraction c ≡ Neither) refl refl refl refl
quiet BehindE e = absurd (false≢true e)
quiet BehindSign e = absurd (false≢true e)
quiet InPower e = by_space (λ (c : ℕ). step InPower c ≡ Neither) refl refl refl refl
quiet (InWord []) e = λ c h. refl
quiet (InWord (l ∷ ls)) e = absurd (false≢true e)

ending_may : (may : Bool) → cond may (Ends 0) (Breaks 0) ≡ Ends 0 → may ≡ true
ending_may true e = refl
ending_may false e = absurd (false≢true (ap is_end e))

ends_further : (p : Part) (n : ℕ) → further p ≡ Ends (suc n) → p ≡ Ends n
ends_further (Ends m) n e = let k : suc m ≡ suc n = ap reach e in ap Ends (omega arith)
ends_further (Breaks m) n e = absurd (false≢true (ap is_end e))

ends_quiet : (mode : Mode) (q s : List ℕ) (c : ℕ) → is_space c ≡ true → run mode (q ++ []) ≡ Ends (length q) → run mode (q ++ (c ∷ s)) ≡ Ends (length q)
ends_quiet mode [] s c h e = let m : may_end mode ≡ true = ending_may (may_end mode) e in rw (quiet mode m c h, m)
ends_quiet mode (b ∷ q) s c h e = go (step mode b) e (λ next k. ends_quiet next q s c h k)
  where
    go : (u : Move) → moved (λ next. run next (q ++ [])) mode u ≡ Ends (suc (length q)) → ((next : Mode) → run next (q ++ []) ≡ Ends (length q) → run next (q ++ (c ∷ s)) ≡ Ends (length q))
        → moved (λ next. run next (q ++ (c ∷ s))) mode u ≡ Ends (suc (length q))
    go (Onto next) e k = ap further (k next (ends_further (run next (q ++ [])) (length q) e))
    go Closes e k = e
    go Neither e k = e

-- one that ends before a byte ends there whatever follows that byte
not_past : {n : ℕ} {p r : Part} → Alike (suc n) p r → p ≡ Ends n → r ≡ Ends n
not_past (same p) e = e
not_past {n} (past {p = p} h) e = absurd (let k : reach p ≡ n = ap reach e in omega arith)

ends_before : (mode : Mode) (q r s : List ℕ) (c : ℕ) → run mode (q ++ (c ∷ r)) ≡ Ends (length q) → run mode (q ++ (c ∷ s)) ≡ Ends (length q)
ends_before mode q r s c e =
    let n : length (q ++ (c ∷ [])) ≡ suc (length q) = omega (arith, length-append q (c ∷ [])) in
    not_past
    (subst₃ (λ (n : ℕ) (x y : List ℕ). Alike n (run mode x) (run mode y)) n (append_assoc q (c ∷ []) r) (append_assoc q (c ∷ []) s) (run_alike mode (q ++ (c ∷ [])) r s)) e

-- what ends before spaces, or before the same byte
part_stays : (b : ℕ) (q r ys gap : List ℕ) → all is_space gap ≡ true → part_of b (q ++ (r ++ ys)) ≡ Ends (length q) → part_of b (q ++ (r ++ (gap ++ ys))) ≡ Ends (length q)
part_stays b q [] ys [] h e = e
part_stays b q [] ys (c ∷ gap) h e =
    part_run b (q ++ (c ∷ (gap ++ ys)))
    ∙ ends_quiet (mode_of b) q (gap ++ ys) c (and_left (is_space c) (all is_space gap) h) (ends_closing (mode_of b) q ys [] (sym (part_run b (q ++ ys)) ∙ e) nothing)
part_stays b q (c ∷ r) ys gap h e =
    part_run b (q ++ (c ∷ (r ++ (gap ++ ys)))) ∙ ends_before (mode_of b) q (r ++ ys) (r ++ (gap ++ ys)) c (sym (part_run b (q ++ (c ∷ (r ++ ys)))) ∙ e)

-- ---- lexemes but for their places

abbrev bare : List Lexeme → List Lexeme
bare ts = map (moved_lexeme (λ place. 0)) ts

abbrev bare_one : ℕ → List ℕ → Lexeme
bare_one b body = record { head = b; body = body; first = 0; whole = true; stop = 0 }

-- they do not hang on the place at which the text begins
lexemes_bare : (n m p q : ℕ) (bs : List ℕ) → length bs ≤ n → length bs ≤ m → bare (lexemes n p bs) ≡ bare (lexemes m q bs)
unfolding lexemes
lexemes_bare zero zero p q bs h k = refl
lexemes_bare zero (suc m) p q [] h k = refl
lexemes_bare zero (suc m) p q (b ∷ bs) h k = absurd (omega arith)
lexemes_bare (suc n) zero p q [] h k = refl
lexemes_bare (suc n) zero p q (b ∷ bs) h k = absurd (omega arith)
lexemes_bare (suc n) (suc m) p q [] h k = refl
lexemes_bare (suc n) (suc m) p q (b ∷ bs) h k =
    by_tests (λ (x y : List Lexeme). bare x ≡ bare y) (is_space b) (lexemes_bare n m (suc p) (suc q) bs (omega arith) (omega arith))
    (go (part_of b bs) (λ u v cs l. lexemes_bare n m u v cs (omega arith) (omega arith)))
  where
    go : (part : Part) → ((u v : ℕ) (cs : List ℕ) → length cs ≤ length bs → bare (lexemes n u cs) ≡ bare (lexemes m v cs))
        → bare (followed b bs p (λ next rest. lexemes n next rest) part) ≡ bare (followed b bs q (λ next rest. lexemes m next rest) part)
    go (Ends k) e = ap (λ (l : List Lexeme). bare_one b (take k bs) ∷ l) (e (suc p + k) (suc q + k) (drop k bs) (omega (arith, length-drop k bs)))
    go (Breaks k) e = refl

-- spaces before a text
spaces_before : (gap : List ℕ) → all is_space gap ≡ true → (n p m q : ℕ) (bs : List ℕ) → length (gap ++ bs) ≤ n → length bs ≤ m → bare (lexemes n p (gap ++ bs)) ≡ bare (lexemes m q bs)
unfolding lexemes
spaces_before [] h n p m q bs k l = lexemes_bare n m p q bs k l
spaces_before (c ∷ gap) h zero p m q bs k l = absurd (omega arith)
spaces_before (c ∷ gap) h (suc n) p m q bs k l = rw (and_left (is_space c) (all is_space gap) h) (spaces_before gap (and_right (is_space c) (all is_space gap) h) n (suc p) m q bs (omega arith) l)

-- ---- spaces between lexemes

-- no longer than what is left
pub part_fits : (b : ℕ) (bs : List ℕ) (k : ℕ) → part_of b bs ≡ Ends k → k ≤ length bs
part_fits b bs k e = let h : reach (run (mode_of b) bs) ≡ k = ap reach (sym (part_run b bs) ∙ e) in omega (arith, run_fits (mode_of b) bs)

-- what ends before spaces, of bytes of which so many belong to it
part_with : (b : ℕ) (xs ys gap : List ℕ) (k : ℕ) → all is_space gap ≡ true → k ≤ length xs → part_of b (xs ++ ys) ≡ Ends k → part_of b (xs ++ (gap ++ ys)) ≡ Ends k
part_with b xs ys gap k h l e =
    let n : length (take k xs) ≡ k = length-take-le k xs l in
    ap (part_of b) (sym (split (gap ++ ys)))
    ∙ part_stays b (take k xs) (drop k xs) ys gap h (ap (part_of b) (split ys) ∙ e ∙ sym (ap Ends n))
    ∙ ap Ends n
  where
    split : (zs : List ℕ) → take k xs ++ (drop k xs ++ zs) ≡ xs ++ zs
    split zs = sym (append_assoc (take k xs) (drop k xs) zs) ∙ ap (λ (l : List ℕ). l ++ zs) (take-append-drop k xs)

-- a lexeme before the place is whole, and has ended there
ended : (place first : ℕ) (whole : Bool) (n : ℕ) → first < place → (leb place first || (whole && leb (suc first + n) place)) ≡ true → (whole ≡ true) × (suc first + n ≤ place)
ended place first whole n l h =
    let k : (whole && leb (suc first + n) place) ≡ true = rw (lt-leb place first l) at h in
    (and_left whole (leb (suc first + n) place) k, leb-true (suc first + n) place (and_right whole (leb (suc first + n) place) k))

module _ (gap ys : List ℕ) (h : all is_space gap ≡ true) where
  -- what holds of fewer bytes
  abbrev Inside : ℕ → ℕ → Type 0
  Inside n m = (u v : ℕ) (zs : List ℕ) → length (zs ++ ys) ≤ n → length (zs ++ (gap ++ ys)) ≤ m → is_between (u + length zs) (lexemes n u (zs ++ ys)) ≡ true
      → bare (lexemes m v (zs ++ (gap ++ ys))) ≡ bare (lexemes n u (zs ++ ys))

  by_part : (n m p q b : ℕ) (xs : List ℕ) → Inside n m → suc (length (xs ++ ys)) ≤ suc n → suc (length (xs ++ (gap ++ ys))) ≤ suc m → (part : Part) → part_of b (xs ++ ys) ≡ part
      → is_between (p + suc (length xs)) (followed b (xs ++ ys) p (λ next rest. lexemes n next rest) part) ≡ true
      → bare (followed b (xs ++ (gap ++ ys)) q (λ next rest. lexemes m next rest) (part_of b (xs ++ (gap ++ ys)))) ≡ bare (followed b (xs ++ ys) p (λ next rest. lexemes n next rest) part)
  by_part n m p q b xs again k l (Breaks c) e a = absurd (false≢true (ended (p + suc (length xs)) p false 0 (omega arith) (and_left _ true a)).0)
  by_part n m p q b xs again k l (Ends c) e a =
      ap (λ (part : Part). bare (followed b (xs ++ (gap ++ ys)) q (λ next rest. lexemes m next rest) part)) (part_with b xs ys gap c h fits e)
      ∙ (λ i. bare_one b (take-append-le c xs (gap ++ ys) fits i) ∷ bare (lexemes m (suc q + c) (drop-append-le c xs (gap ++ ys) fits i)))
      ∙ ap (λ (ts : List Lexeme). bare_one b (take c xs) ∷ ts) (again (suc p + c) (suc q + c) (drop c xs) (omega (arith, long, length-append xs ys, length-append (drop c xs) ys)) (omega (arith, long, length-append xs (gap ++ ys), length-append (drop c xs) (gap ++ ys))) behind)
      ∙ sym (λ i. bare_one b (take-append-le c xs ys fits i) ∷ bare (lexemes n (suc p + c) (drop-append-le c xs ys fits i)))
    where
      here : Lexeme
      here = record { head = b; body = take c (xs ++ ys); first = p; whole = true; stop = 0 }

      fits : c ≤ length xs
      fits =
          let taken : length (take c (xs ++ ys)) ≡ c = length-take-le c (xs ++ ys) (part_fits b (xs ++ ys) c e) in
          let d : suc p + length (take c (xs ++ ys)) ≤ p + suc (length xs) = (ended (p + suc (length xs)) p true (length (take c (xs ++ ys))) (omega arith) (and_left (is_beside (p + suc (length xs)) here) _ a)).1 in
          omega arith

      long : length (drop c xs) + c ≡ length xs
      long = omega (arith, length-drop c xs, fits)

      behind : is_between (suc p + c + length (drop c xs)) (lexemes n (suc p + c) (drop c xs ++ ys)) ≡ true
      behind =
          let place : suc p + c + length (drop c xs) ≡ p + suc (length xs) = omega (arith, long) in
          ap (λ (w : ℕ). is_between w (lexemes n (suc p + c) (drop c xs ++ ys))) place
          ∙ ap (λ (rest : List ℕ). is_between (p + suc (length xs)) (lexemes n (suc p + c) rest)) (sym (drop-append-le c xs ys fits))
          ∙ and_right (is_beside (p + suc (length xs)) here) (is_between (p + suc (length xs)) (lexemes n (suc p + c) (drop c (xs ++ ys)))) a

  by_byte : (n m p q b : ℕ) (xs : List ℕ) → Inside n m → suc (length (xs ++ ys)) ≤ suc n → suc (length (xs ++ (gap ++ ys))) ≤ suc m
      → is_between (p + suc (length xs)) (lexemes (suc n) p (b ∷ (xs ++ ys))) ≡ true → bare (lexemes (suc m) q (b ∷ (xs ++ (gap ++ ys)))) ≡ bare (lexemes (suc n) p (b ∷ (xs ++ ys)))
  unfolding lexemes
  by_byte n m p q b xs again k l a =
      by_tests (λ (x u : List Lexeme). is_between (p + suc (length xs)) u ≡ true → bare x ≡ bare u) (is_space b)
      (λ w. let place : suc p + length xs ≡ p + suc (length xs) = omega arith in
      again (suc p) (suc q) xs (omega arith) (omega arith) (ap (λ (w : ℕ). is_between w (lexemes n (suc p) (xs ++ ys))) place ∙ w))
      (λ w. by_part n m p q b xs again k l (part_of b (xs ++ ys)) refl w) a

  spaces_inside : (n m : ℕ) → Inside n m
  spaces_inside zero m u v [] k l a = spaces_before gap h m v zero u ys l k
  spaces_inside zero m u v (b ∷ xs) k l a = absurd (omega arith)
  spaces_inside (suc n) m u v [] k l a = spaces_before gap h m v (suc n) u ys l k
  spaces_inside (suc n) zero u v (b ∷ xs) k l a = absurd (omega arith)
  spaces_inside (suc n) (suc m) u v (b ∷ xs) k l a = by_byte n m u v b xs (spaces_inside n m) k l a

-- spaces that are put between the lexemes of a text, or at its end
pub spaces_put : (xs gap ys : List ℕ) → all is_space gap ≡ true → is_between (length xs) (lexemes (length (xs ++ ys)) 0 (xs ++ ys)) ≡ true → unplaced_lexemes (xs ++ (gap ++ ys)) ≡ unplaced_lexemes (xs ++ ys)
spaces_put xs gap ys h a =
    let place : 0 + length xs ≡ length xs = omega arith in
    spaces_inside gap ys h (length (xs ++ ys)) (length (xs ++ (gap ++ ys))) 0 0 xs (omega arith) (omega arith) (ap (λ (w : ℕ). is_between w (lexemes (length (xs ++ ys)) 0 (xs ++ ys))) place ∙ a)

-- "any spacing": a file that is accepted is accepted with spaces put there, and without them, and the whole answer is the same
pub spaces_accepted : (xs gap ys : List ℕ) (m : Metadata) → all is_space gap ≡ true → is_between (length xs) (lexemes (length (xs ++ ys)) 0 (xs ++ ys)) ≡ true → (imported (xs ++ ys)).metadata ≡ some m
    → imported (xs ++ (gap ++ ys)) ≡ imported (xs ++ ys)
spaces_accepted xs gap ys m h a e = spacing_accepted (xs ++ ys) (xs ++ (gap ++ ys)) m (sym (spaces_put xs gap ys h a)) e

pub spaces_taken : (xs gap ys : List ℕ) (m : Metadata) → all is_space gap ≡ true → is_between (length xs) (lexemes (length (xs ++ ys)) 0 (xs ++ ys)) ≡ true → (imported (xs ++ (gap ++ ys))).metadata ≡ some m
    → imported (xs ++ ys) ≡ imported (xs ++ (gap ++ ys))
spaces_taken xs gap ys m h a e = spacing_accepted (xs ++ (gap ++ ys)) (xs ++ ys) m (spaces_put xs gap ys h a) e
