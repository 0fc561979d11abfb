-- Where places rise as they did, the first defect stays the first: its number is the same, also of a file that is refused.
use Prim.Native.Nat.{ℕ, zero, suc, ◌+◌, ◌-◌, ◌≤◌, ◌<◌}
use native.Mathlib.Omega.{arith}
use mathlib.Core.Path.{◌≡◌, refl, sym, ap, subst, ◌∙◌}
use mathlib.Core.Bool.{Bool, true, false, cond, ◌&&◌, ◌||◌, false≢true}
use mathlib.Core.List.{List, [], ◌∷◌, map}
use mathlib.Core.Option
use mathlib.Core.Option.{Option, none, some}
use lib.Dec.{eqb, ltb}
use lib.ListN.{length, drop, length-drop}
use borrow.Table.Steps.{cases}
use borrow.Author.Tests.{ltb-true, ltb-false, lt-ltb, le-ltb, eq-eqb, ne_eqb}
use Rattle.rules.specs.Words.{all}
use Rattle.rules.proofs.Checks.{by_test}
use Rattle.json_rule.specs.Tree.{Defect, Members, Text, text, text_of_lexemes}
use Rattle.json_rule.specs.Lexemes.{is_space, Part, Ends, Breaks, part_of, Lexeme, followed, lexemes}
use Rattle.json_rule.specs.Defects.{is_sooner, least}
use Rattle.file_rule.specs.FileDefects.{file_defects}
use Rattle.file_rule.specs.Import.{Imported, said_by, answered, imported}
use Rattle.file_spacing.specs.Places.{moved_lexeme, moved_members, moved_defect, unplaced_lexemes}
use Rattle.file_spacing.proofs.Judged.{there}
use Rattle.file_spacing.proofs.Read.{moved_lexemes, moved_text, text_moved}
use Rattle.file_spacing.proofs.Alike.{answer_to, least_with, file_judged, said_moved, right_moved}
use Rattle.file_spacing.proofs.Spaces.{part_fits}

abbrev Rising : (ℕ → ℕ) → Type 0
Rising f = (a b : ℕ) → a < b → f a < f b

module _ (f : ℕ → ℕ) (r : Rising f) where
  not_below : (a b : ℕ) → a ≤ b → f a ≤ f b
  not_below a b h =
      cases (ltb a b)
      (λ e. let k : f a < f b = r a b (ltb-true a b e) in omega arith)
      (λ e. let k : b ≤ a = ltb-false a b e in let q : f a ≡ f b = ap f (omega arith) in omega arith)

  below_stays : (a b : ℕ) → ltb (f a) (f b) ≡ ltb a b
  below_stays a b = cases (ltb a b) (λ e. lt-ltb (f a) (f b) (r a b (ltb-true a b e)) ∙ sym e) (λ e. le-ltb (f a) (f b) (not_below b a (ltb-false a b e)) ∙ sym e)

  same_stays : (a b : ℕ) → eqb (f a) (f b) ≡ eqb a b
  same_stays a b =
      cases (ltb a b)
      (λ e. let k : a < b = ltb-true a b e in let l : f a < f b = r a b k in ne_eqb (f a) (f b) (λ q. omega arith) ∙ sym (ne_eqb a b (λ q. omega arith)))
      (λ e. cases (ltb b a)
      (λ d. let k : b < a = ltb-true b a d in let l : f b < f a = r b a k in ne_eqb (f a) (f b) (λ q. omega arith) ∙ sym (ne_eqb a b (λ q. omega arith)))
      (λ d. let k : b ≤ a = ltb-false a b e in let l : a ≤ b = ltb-false b a d in let q : a ≡ b = omega arith in eq-eqb (f a) (f b) (ap f q) ∙ sym (eq-eqb a b q)))

  sooner_stays : (d e : Defect) → is_sooner (moved_defect f d) (moved_defect f e) ≡ is_sooner d e
  sooner_stays d e = λ i. below_stays d.place e.place i || (same_stays d.place e.place i && ltb d.number e.number)

  with_moved : (d : Defect) (o : Option Defect) → least_with (moved_defect f d) (Option.map (moved_defect f) o) ≡ Option.map (moved_defect f) (least_with d o)
  with_moved d none = refl
  with_moved d (some e) = ap (λ (b : Bool). cond b (some (moved_defect f e)) (some (moved_defect f d))) (sooner_stays e d) ∙ go (is_sooner e d)
    where
      go : (b : Bool) → cond b (some (moved_defect f e)) (some (moved_defect f d)) ≡ Option.map (moved_defect f) (cond b (some e) (some d))
      go true = refl
      go false = refl

  -- the first defect is the same one
  least_moved : (ds : List Defect) → least (there f ds) ≡ Option.map (moved_defect f) (least ds)
  least_moved [] = refl
  least_moved (d ∷ ds) = ap (least_with (moved_defect f d)) (least_moved ds) ∙ with_moved d (least ds)

  answered_number : (ms : Members) (o : Option Defect) → (answered (moved_members f ms) (Option.map (moved_defect f) o)).number ≡ (answered ms o).number
  answered_number ms none = ap (λ (a : Imported). a.number) (right_moved f ms)
  answered_number ms (some d) = refl

  number_moved : (t : Text) → (answer_to (moved_text f t)).number ≡ (answer_to t).number
  number_moved t =
      (λ i. (answered (said_moved f t.tree i) ((ap least (file_judged f t) ∙ least_moved (file_defects t)) i)).number) ∙ answered_number (said_by t.tree) (least (file_defects t))

-- ---- lexemes in steps of one length

-- a place that lies so far behind the last of these
abbrev at : ℕ → ℕ → ℕ → List ℕ → ℕ → ℕ
at wide origin start [] p = start + (p - origin)
at wide origin start (q ∷ qs) p = cond (ltb p q) (start + (p - origin)) (at wide q (start + wide) qs p)

abbrev Below : ℕ → List ℕ → Type 0
Below wide [] = Unit {0}
Below wide (q ∷ qs) = (q < wide) × Below wide qs

at_least : (wide origin start : ℕ) (qs : List ℕ) (p : ℕ) → start ≤ at wide origin start qs p
at_least wide origin start [] p = omega arith
at_least wide origin start (q ∷ qs) p =
    cases (ltb p q)
    (λ e. rw e (omega arith))
    (λ e. rw e (let k : start + wide ≤ at wide q (start + wide) qs p = at_least wide q (start + wide) qs p in omega arith))

at_rising : (wide origin start : ℕ) (qs : List ℕ) → Below wide qs → (p r : ℕ) → origin ≤ p → p < r → at wide origin start qs p < at wide origin start qs r
at_rising wide origin start [] b p r o l = omega arith
at_rising wide origin start (q ∷ qs) b p r o l =
    cases (ltb p q)
    (λ e. cases (ltb r q)
    (λ d. rw (e, d) (omega arith))
    (λ d. rw (e, d) (let k : start + wide ≤ at wide q (start + wide) qs r = at_least wide q (start + wide) qs r in let m : p < q = ltb-true p q e in omega (arith, b.0))))
    (λ e. let k : q ≤ p = ltb-false p q e in let d : ltb r q ≡ false = le-ltb r q (omega arith) in
    rw (e, d) (at_rising wide q (start + wide) qs b.1 p r k l))

-- the lexemes are whole, and each begins behind the one before it; the text ends behind the last
abbrev Rise : ℕ → ℕ → List Lexeme → Type 0
Rise least len [] = least ≤ len
Rise least len (t ∷ ts) = (least ≤ t.first) × (t.whole ≡ true) × (t.stop ≡ 0) × Rise (suc t.first) len ts

rise_from : (least less len : ℕ) (ts : List Lexeme) → less ≤ least → Rise least len ts → Rise less len ts
rise_from least less len [] l h = omega arith
rise_from least less len (t ∷ ts) l h = (omega (arith, h.0), h.1, h.2, h.3)

abbrev are_whole : List Lexeme → Bool
are_whole ts = all (λ (t : Lexeme). t.whole) ts

lexemes_rise : (n p : ℕ) (bs : List ℕ) → length bs ≤ n → are_whole (lexemes n p bs) ≡ true → Rise p (p + length bs) (lexemes n p bs)
unfolding lexemes
lexemes_rise zero p [] h w = omega arith
lexemes_rise zero p (b ∷ bs) h w = absurd (omega arith)
lexemes_rise (suc n) p [] h w = omega arith
lexemes_rise (suc n) p (b ∷ bs) h w =
    by_test (λ (ts : List Lexeme). are_whole ts ≡ true → Rise p (p + suc (length bs)) ts) (is_space b)
    (λ _ v. rise_from (suc p) p (p + suc (length bs)) (lexemes n (suc p) bs) (omega arith)
    (subst (λ (len : ℕ). Rise (suc p) len (lexemes n (suc p) bs)) (let e : suc p + length bs ≡ p + suc (length bs) = omega arith in e) (lexemes_rise n (suc p) bs (omega arith) v)))
    (λ _ v. go (part_of b bs) refl v (λ u cs k x. lexemes_rise n u cs k x)) w
  where
    go : (part : Part) → part_of b bs ≡ part → are_whole (followed b bs p (λ next rest. lexemes n next rest) part) ≡ true
        → ((u : ℕ) (cs : List ℕ) → length cs ≤ n → are_whole (lexemes n u cs) ≡ true → Rise u (u + length cs) (lexemes n u cs))
        → Rise p (p + suc (length bs)) (followed b bs p (λ next rest. lexemes n next rest) part)
    go (Breaks k) e v again = absurd (false≢true v)
    go (Ends k) e v again =
        let fits : k ≤ length bs = part_fits b bs k e in
        let long : length (drop k bs) + k ≡ length bs = omega (arith, length-drop k bs) in
        let m : suc p + k + length (drop k bs) ≡ p + suc (length bs) = omega arith in (
          omega arith,
          refl,
          refl,
          rise_from (suc p + k) (suc p) (p + suc (length bs)) (lexemes n (suc p + k) (drop k bs)) (omega arith)
              (subst (λ (len : ℕ). Rise (suc p + k) len (lexemes n (suc p + k) (drop k bs))) m (again (suc p + k) (drop k bs) (omega arith) v)),
        )

-- their places, and the end
abbrev places : ℕ → List Lexeme → List ℕ
places len [] = len ∷ []
places len (t ∷ ts) = t.first ∷ places len ts

places_below : (least len wide : ℕ) (ts : List Lexeme) → Rise least len ts → len < wide → (least ≤ len) × Below wide (places len ts)
places_below least len wide [] h l = (h, (l, tt))
places_below least len wide (t ∷ ts) h l =
    let k = places_below (suc t.first) len wide ts h.3 l in
    (omega (arith, h.0, k.0), (omega (arith, k.0), k.1))

-- the same lexemes, one behind the other in such steps, and where they end
abbrev lined : ℕ → ℕ → List Lexeme → List Lexeme
lined wide start [] = []
lined wide start (t ∷ ts) = record { head = t.head; body = t.body; first = start + wide; whole = t.whole; stop = 0 } ∷ lined wide (start + wide) ts

abbrev line_end : ℕ → ℕ → List Lexeme → ℕ
line_end wide start [] = start + wide
line_end wide start (t ∷ ts) = line_end wide (start + wide) ts

abbrev bare : List Lexeme → List Lexeme
bare ts = map (moved_lexeme (λ place. 0)) ts

lined_bare : (wide start : ℕ) (ts : List Lexeme) → lined wide start (bare ts) ≡ lined wide start ts
lined_bare wide start [] = refl
lined_bare wide start (t ∷ ts) = ap (λ (l : List Lexeme). record { head = t.head; body = t.body; first = start + wide; whole = t.whole; stop = 0 } ∷ l) (lined_bare wide (start + wide) ts)

end_bare : (wide start : ℕ) (ts : List Lexeme) → line_end wide start (bare ts) ≡ line_end wide start ts
end_bare wide start [] = refl
end_bare wide start (t ∷ ts) = end_bare wide (start + wide) ts

-- behind the next place, and there
at_later : (wide origin start p : ℕ) (qs : List ℕ) (r : ℕ) → p ≤ r → at wide origin start (p ∷ qs) r ≡ at wide p (start + wide) qs r
at_later wide origin start p qs r l = rw (le-ltb r p l)

at_next : (wide origin start len p : ℕ) (ts : List Lexeme) → Rise (suc p) len ts → at wide origin start (p ∷ places len ts) p ≡ start + wide
at_next wide origin start len p ts h = at_later wide origin start p (places len ts) p (omega arith) ∙ go ts h
  where
    go : (ts : List Lexeme) → Rise (suc p) len ts → at wide p (start + wide) (places len ts) p ≡ start + wide
    go [] h = rw (lt-ltb p len h) (omega arith)
    go (t ∷ ts) h = rw (lt-ltb p t.first h.0) (omega arith)

whole_moved : (f : ℕ → ℕ) (t : Lexeme) (place : ℕ) → t.whole ≡ true → t.stop ≡ 0 → f t.first ≡ place → moved_lexeme f t ≡ record { head = t.head; body = t.body; first = place; whole = t.whole; stop = 0 }
whole_moved f t place w z e = λ i. record { head = t.head; body = t.body; first = e i; whole = t.whole; stop = (ap (λ (b : Bool). cond b t.stop (f t.stop)) w ∙ z) i }

-- lexemes from a place on, moved alike
moved_later : (f g : ℕ → ℕ) (p len : ℕ) (ts : List Lexeme) → ((r : ℕ) → p ≤ r → f r ≡ g r) → Rise p len ts → moved_lexemes f ts ≡ moved_lexemes g ts
moved_later f g p len [] e h = refl
moved_later f g p len (t ∷ ts) e h =
    λ i. (whole_moved f t (g t.first) h.1 h.2 (e t.first h.0) ∙ sym (whole_moved g t (g t.first) h.1 h.2 refl)) i
    ∷ moved_later f g (suc t.first) len ts (λ r l. e r (omega (arith, h.0))) h.3 i

lined_up : (wide origin start least len : ℕ) (ts : List Lexeme) → Rise least len ts → moved_lexemes (at wide origin start (places len ts)) ts ≡ lined wide start ts
lined_up wide origin start least len [] h = refl
lined_up wide origin start least len (t ∷ ts) h =
    λ i. whole_moved (at wide origin start (t.first ∷ places len ts)) t (start + wide) h.1 h.2 (at_next wide origin start len t.first ts h.3) i
    ∷ (moved_later (at wide origin start (t.first ∷ places len ts)) (at wide t.first (start + wide) (places len ts)) (suc t.first) len ts (λ r l. at_later wide origin start t.first (places len ts) r (omega arith)) h.3
    ∙ lined_up wide t.first (start + wide) (suc t.first) len ts h.3) i

end_up : (wide origin start least len : ℕ) (ts : List Lexeme) → Rise least len ts → at wide origin start (places len ts) len ≡ line_end wide start ts
end_up wide origin start least len [] h = at_later wide origin start len [] len (omega arith) ∙ omega arith
end_up wide origin start least len (t ∷ ts) h =
    at_later wide origin start t.first (places len ts) len (omega (arith, (places_below (suc t.first) len (suc len) ts h.3 (omega arith)).0))
    ∙ end_up wide t.first (start + wide) (suc t.first) len ts h.3

-- ---- two files

-- a text whose lexemes are whole, in steps that are wider than it
module _ (wide : ℕ) (bs : List ℕ) (w : are_whole (lexemes (length bs) 0 bs) ≡ true) (l : length bs < wide) where
  rise : Rise 0 (length bs) (lexemes (length bs) 0 bs)
  rise = subst (λ (len : ℕ). Rise 0 len (lexemes (length bs) 0 bs)) (let e : 0 + length bs ≡ length bs = omega arith in e) (lexemes_rise (length bs) 0 bs (omega arith) w)

  abbrev steps : ℕ → ℕ
  steps = at wide 0 0 (places (length bs) (lexemes (length bs) 0 bs))

  steps_rising : Rising steps
  steps_rising a b h = at_rising wide 0 0 (places (length bs) (lexemes (length bs) 0 bs)) (places_below 0 (length bs) wide (lexemes (length bs) 0 bs) rise l).1 a b (omega arith) h

  text_lined : moved_text steps (text bs) ≡ text_of_lexemes (line_end wide 0 (unplaced_lexemes bs)) (lined wide 0 (unplaced_lexemes bs))
  unfolding text
  text_lined =
      sym (text_moved steps (length bs) (lexemes (length bs) 0 bs))
      ∙ (λ i. text_of_lexemes ((end_up wide 0 0 0 (length bs) (lexemes (length bs) 0 bs) rise ∙ sym (end_bare wide 0 (lexemes (length bs) 0 bs))) i)
      ((lined_up wide 0 0 0 (length bs) (lexemes (length bs) 0 bs) rise ∙ sym (lined_bare wide 0 (lexemes (length bs) 0 bs))) i))

  lined_number : (imported bs).number ≡ (answer_to (text_of_lexemes (line_end wide 0 (unplaced_lexemes bs)) (lined wide 0 (unplaced_lexemes bs)))).number
  unfolding imported
  lined_number = sym (number_moved steps steps_rising (text bs)) ∙ ap (λ (t : Text). (answer_to t).number) text_lined

whole_bare : (ts : List Lexeme) → are_whole (bare ts) ≡ are_whole ts
whole_bare [] = refl
whole_bare (t ∷ ts) = ap (λ (b : Bool). t.whole && b) (whole_bare ts)

-- Files whose lexemes are whole and the same but for their places are answered with one number, also where they are refused.
pub spacing_number : (a b : List ℕ) → all (λ (t : Lexeme). t.whole) (lexemes (length a) 0 a) ≡ true → unplaced_lexemes a ≡ unplaced_lexemes b → (imported a).number ≡ (imported b).number
spacing_number a b w e =
    let wide : ℕ = suc (length a + length b) in
    lined_number wide a w (omega arith)
    ∙ ap (λ (ts : List Lexeme). (answer_to (text_of_lexemes (line_end wide 0 ts) (lined wide 0 ts))).number) e
    ∙ sym (lined_number wide b (sym (whole_bare (lexemes (length b) 0 b)) ∙ sym (ap are_whole e) ∙ whole_bare (lexemes (length a) 0 a) ∙ w) (omega arith))
