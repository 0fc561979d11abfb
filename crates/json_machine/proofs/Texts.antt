-- What is kept of a text is what it stands for: its first bytes, and its length as far as it counts, or that it stands for nothing.
use Prim.Native.Nat.{ℕ, ◌+◌, ◌*◌, ◌%◌, ◌≤◌}
use mathlib.Core.Path.{◌≡◌, refl, sym, ap, ◌∙◌}
use mathlib.Core.Bool.{Bool, true, false, cond, not, ◌&&◌, true≢false}
use mathlib.Core.List.{List, [], ◌∷◌, ◌++◌}
use mathlib.Core.Option.{Option, none, some}
use native.Mathlib.Omega.{arith}
use borrow.Author.Tests.{eqb-true, eq-eqb, ne_eqb, leb-true}
use borrow.Table.Steps.{cases}
use lib.Dec.{eqb, leb, ltb}
use lib.ListN.{length}
use Rattle.rules.specs.Words.{is_some}
use Rattle.json_rule.specs.Lexemes.{Lexeme, within, quote, backslash, is_hex, is_short, Ends, string}
use Rattle.json_rule.specs.Values.{Unit, Byte, Code, hex_value, short_value, units, escaped, coded, is_high, is_low, joined, utf8, before, encoded, paired, text_of}
use Rattle.json_machine.specs.declared.Text.{Text}
use Rattle.json_machine.specs.Modes.{text_mode, escape_mode, one_hex_mode, two_hex_mode, three_hex_mode, four_hex_mode, one_more_mode, two_more_mode, three_more_mode, after_e0_mode, after_ed_mode, after_f0_mode, after_f4_mode, minus_mode, whole, broken, in_wide, in_text, in_escape, after_text, after_mode, may_end}
use Rattle.json_machine.specs.Digest.{kept_room, count_all, slots_all, escaped_of, pair_of, lone_length, blank_text, settled, Held, held, waiting, saying, unit_with, settled_held, keeping, with_low, with_unit, held_in_text, held_in_escape, held_in_hex, held_after, held_over}
use Rattle.json_machine.proofs.Bounds.{both, above, from_least, to_most}
use Rattle.json_machine.proofs.Each.{Each, done, ◌&◌, each_at}
use Rattle.json_machine.proofs.Escapes.{hex_small, hex_is, short_is}
use Rattle.json_machine.proofs.Slots.{First, first_all}
use Rattle.json_machine.proofs.Modes.{from_mode, is_mode, kind_of, text_kind, mode_end, breaks_not, Stays, Onward, Last, More, onward}

-- ---- bytes kept one after another

count_append : (len : ℕ) (cs bs : List ℕ) → count_all len (cs ++ bs) ≡ count_all (count_all len cs) bs
count_append len [] bs = refl
count_append len (c ∷ cs) bs = count_append (count_all len (c ∷ [])) cs bs

slots_append : (slots : List ℕ) (len : ℕ) (cs bs : List ℕ) → slots_all slots len (cs ++ bs) ≡ slots_all (slots_all slots len cs) (count_all len cs) bs
slots_append slots len [] bs = refl
slots_append slots len (c ∷ cs) bs = slots_append (slots_all slots len (c ∷ [])) (count_all len (c ∷ [])) cs bs

count_lone : (bs : List ℕ) → count_all lone_length bs ≡ lone_length
count_lone [] = refl
count_lone (b ∷ bs) = count_lone bs

-- ---- what the rule says of the rest of a text

-- the units of the bytes from a mode on, where the last digits say u
units_from : ℕ → ℕ → List ℕ → List Unit
units_from m u bs =
    cond (eqb m escape_mode) (escaped bs)
    (cond (eqb m one_hex_mode) (coded 0 (u % 4096) bs)
    (cond (eqb m two_hex_mode) (coded 1 (u % 256) bs)
    (cond (eqb m three_hex_mode) (coded 2 (u % 16) bs)
    (cond (eqb m four_hex_mode) (coded 3 0 bs)
    (units bs)))))

-- the bytes that units stand for behind what waits
decoded : ℕ → List Unit → Option (List ℕ)
decoded high us = cond (eqb high 0) (encoded us) (paired high us)

said : ℕ → Text → List ℕ → Option (List ℕ)
said m t bs = decoded t.high (units_from m t.unit bs)

-- what waits is a high half, and nothing waits within a character
sound : ℕ → Text → Bool
sound m t = cond (eqb t.high 0) true (is_high t.high && ltb m one_more_mode)

-- ---- one byte

-- it ends the text; or it says bytes, and the rest of the text the others; or half of a pair stands without the other
data OneByte (m b : ℕ) (h : Held) (bs : List ℕ) : Type 0 where
  Closes : after_mode m b ≡ whole → said m h.text (b ∷ bs) ≡ some [] → held_after m b h ≡ h → OneByte m b h bs
  Adds : (ds : List ℕ) → eqb (after_mode m b) whole ≡ false → sound (after_mode m b) (held_after m b h).text ≡ true → said m h.text (b ∷ bs) ≡ before ds (said (after_mode m b) (held_after m b h).text bs) → (held_after m b h).text.len ≡ count_all h.text.len ds → (held_after m b h).slots ≡ slots_all h.slots h.text.len ds → OneByte m b h bs
  Alone : said m h.text (b ∷ bs) ≡ none → (held_after m b h).text.len ≡ lone_length → OneByte m b h bs

before_none : (x : Option (List ℕ)) → before [] x ≡ x
before_none none = refl
before_none (some ds) = refl

-- a byte that is kept
one_kept : (m b d : ℕ) (h : Held) (bs : List ℕ) → eqb (after_mode m b) whole ≡ false → units_from (after_mode m b) h.text.unit bs ≡ units bs → units_from m h.text.unit (b ∷ bs) ≡ Byte d ∷ units bs → held_after m b h ≡ keeping (d ∷ []) (settled_held h) → OneByte m b h bs
unfolding said decoded sound encoded settled keeping
one_kept m b d h bs k u v e =
    cases (eqb h.text.high 0)
    (λ z. Adds (d ∷ []) k (rw (e, z, z)) (rw (v, e, z, z, u)) (rw (e, z)) (rw (e, z)))
    (λ n. Alone (rw (v, n)) (rw (e, n)))

-- a byte that does not break the text passes the test
kept_on : (t : Bool) (next : ℕ) → eqb (cond t next broken) broken ≡ false → t ≡ true
kept_on true next e = refl
kept_on false next e = absurd (true≢false e)

and_false : (a : Bool) → a && false ≡ true → false ≡ true
and_false true e = e
and_false false e = e

-- ---- bytes that stand for themselves

byte_unit : (b : ℕ) (bs : List ℕ) → eqb b quote ≡ false → eqb b backslash ≡ false → units (b ∷ bs) ≡ Byte b ∷ units bs
unfolding units
byte_unit b bs q w = rw (q, w)

-- within a character nothing waits
nothing_waits : (m : ℕ) (h : Held) → ltb m one_more_mode ≡ false → sound m h.text ≡ true → settled_held h ≡ h
unfolding sound settled
nothing_waits m h l s = cases (eqb h.text.high 0) (λ z. rw z) (λ n. absurd (true≢false (sym (and_false (is_high h.text.high) (rw (n, l) at s)))))

-- a byte of a character behind the first
one_tail : (m next least most b : ℕ) (h : Held) (bs : List ℕ) → 128 ≤ least → ltb m one_more_mode ≡ false → eqb next whole ≡ false → after_mode m b ≡ cond (within least most b) next broken → units_from next h.text.unit bs ≡ units bs → units_from m h.text.unit (b ∷ bs) ≡ units (b ∷ bs) → held_after m b h ≡ keeping (b ∷ []) h → sound m h.text ≡ true → eqb (after_mode m b) broken ≡ false → OneByte m b h bs
one_tail m next least most b h bs f l k a u v e s n =
    let w = kept_on (within least most b) next (rw a at n) in
    let g = from_least least most b w in
    let to : after_mode m b ≡ next = a ∙ rw w in
    one_kept m b b h bs (rw to k) (rw to u)
    (v ∙ byte_unit b bs (ne_eqb b quote (λ q. omega arith)) (ne_eqb b backslash (λ q. omega arith)))
    (e ∙ ap (keeping (b ∷ [])) (sym (nothing_waits m h l s)))

-- a byte in a text leads to a mode in which units begin anew
record Anew (k : ℕ) : Type 0 where
  goes_on : eqb k whole ≡ false
  anew : (u : ℕ) (bs : List ℕ) → units_from k u bs ≡ units bs

either_anew : {k l : ℕ} (t : Bool) → Anew k → Anew l → Anew (cond t k l)
either_anew true p q = p
either_anew false p q = q

character_anew : (b : ℕ) → Anew (cond (within 32 127 b) text_mode (in_wide b))
unfolding in_wide units_from
character_anew b =
    either_anew (within 32 127 b) (record { goes_on = refl; anew = λ u bs. refl })
    (either_anew (within 194 223 b) (record { goes_on = refl; anew = λ u bs. refl })
    (either_anew (eqb b 224) (record { goes_on = refl; anew = λ u bs. refl })
    (either_anew (eqb b 237) (record { goes_on = refl; anew = λ u bs. refl })
    (either_anew (within 225 239 b) (record { goes_on = refl; anew = λ u bs. refl })
    (either_anew (eqb b 240) (record { goes_on = refl; anew = λ u bs. refl })
    (either_anew (within 241 243 b) (record { goes_on = refl; anew = λ u bs. refl })
    (either_anew (eqb b 244) (record { goes_on = refl; anew = λ u bs. refl })
    (record { goes_on = refl; anew = λ u bs. refl }))))))))

-- the quotation mark, a backslash, or a byte that is kept
in_text_lem : (b : ℕ) (h : Held) (bs : List ℕ) → sound text_mode h.text ≡ true → eqb (after_mode text_mode b) broken ≡ false → OneByte text_mode b h bs
unfolding said decoded sound units_from units encoded settled after_mode after_text in_text held_after held_in_text
in_text_lem b h bs s n =
    cases (eqb b quote)
    (λ q. cases (eqb h.text.high 0) (λ z. Closes (rw q) (rw (q, z)) (rw (q, z))) (λ z. Alone (rw (q, z)) (rw (q, z))))
    (λ q. cases (eqb b backslash)
    (λ w. Adds [] (rw (q, w)) (rw (q, w) s) (rw (q, w) (sym (before_none _))) (rw (q, w)) (rw (q, w)))
    (λ w. let to = character_anew b in
    one_kept text_mode b b h bs (rw (q, w) to.goes_on) (rw (q, w) (to.anew h.text.unit bs)) (byte_unit b bs q w) (rw (q, w))))

-- an escape: digits follow, or what a short one stands for is kept
module _ (b : ℕ) (h : Held) (bs : List ℕ) where
  digits_follow : eqb b 117 ≡ true → sound escape_mode h.text ≡ true → OneByte escape_mode b h bs
  unfolding said decoded sound units_from units is_short after_mode after_text in_escape held_after held_in_escape
  digits_follow e s = let is = eqb-true b 117 e in rw is (Adds [] refl s (sym (before_none _)) refl refl)

  in_escape_lem : sound escape_mode h.text ≡ true → eqb (after_mode escape_mode b) broken ≡ false → OneByte escape_mode b h bs
  unfolding units_from units after_mode after_text in_escape held_after held_in_escape
  in_escape_lem s n =
      cases (eqb b 117) (λ e. digits_follow e s)
      (λ e. let short = kept_on (is_short b) text_mode (rw e at n) in
      one_kept escape_mode b (short_value b) h bs (rw short) (rw short) (rw e) (rw (e, short_is b short)))

-- ---- hexadecimal digits

-- one that is not the last: what the digits say so far is what the last of those that are kept say
one_digit : (m next k v b : ℕ) (h : Held) (bs : List ℕ) → after_mode m b ≡ cond (is_hex b) next broken → eqb next whole ≡ false → sound next h.text ≡ true → units_from m h.text.unit (b ∷ bs) ≡ coded k (v * 16 + hex_value b) bs → (is_hex b ≡ true → units_from next (unit_with h.text.unit b) bs ≡ coded k (v * 16 + hex_value b) bs) → held_after m b h ≡ held (saying (unit_with h.text.unit b) h.text) h.slots → eqb (after_mode m b) broken ≡ false → OneByte m b h bs
unfolding said sound
one_digit m next k v b h bs a w s e f g n =
    let hex = kept_on (is_hex b) next (rw a at n) in
    let to : after_mode m b ≡ next = a ∙ rw hex in
    Adds [] (rw to w) (rw (to, g) s) (rw (to, g, e, f hex) (sym (before_none _))) (rw g) (rw g)

-- the last four digits, then three, two and one of them
module _ (u b : ℕ) (hex : is_hex b ≡ true) where
  last_four : u % 4096 * 16 + hex_value b ≡ unit_with u b
  last_four = omega (arith, hex_small b hex, hex_is b hex)

  last_three : u % 256 * 16 + hex_value b ≡ unit_with u b % 4096
  last_three = omega (arith, hex_small b hex, hex_is b hex)

  last_two : u % 16 * 16 + hex_value b ≡ unit_with u b % 256
  last_two = omega (arith, hex_small b hex, hex_is b hex)

  last_one : 0 * 16 + hex_value b ≡ unit_with u b % 16
  last_one = omega (arith, hex_small b hex, hex_is b hex)

-- ---- what four digits say

low_not_high : (c : ℕ) → is_low c ≡ true → is_high c ≡ false
low_not_high c e = above 55296 56319 c (from_least 56320 57343 c e)

high_not_zero : (c : ℕ) → is_high c ≡ true → eqb c 0 ≡ false
high_not_zero c e = ne_eqb c 0 (λ z. omega (arith, from_least 55296 56319 c e))

pair_is : (high low : ℕ) → is_high high ≡ true → is_low low ≡ true → pair_of high low ≡ joined high low
pair_is high low e f =
    omega (arith, from_least 55296 56319 high e, to_most 55296 56319 high e, from_least 56320 57343 low f, to_most 56320 57343 low f)

-- what waits is a high half
waits : (m : ℕ) (t : Text) → sound m t ≡ true → eqb t.high 0 ≡ false → is_high t.high ≡ true
unfolding sound
waits m t s n = (both (is_high t.high) (ltb m one_more_mode) (rw n at s)).0

module _ (m b c : ℕ) (h : Held) (bs : List ℕ) (to : after_mode m b ≡ text_mode) (is : units_from m h.text.unit (b ∷ bs) ≡ Code c ∷ units bs) (e : held_after m b h ≡ with_unit c (held (saying c h.text) h.slots)) (s : sound m h.text ≡ true) where
  one_low : is_low c ≡ true → OneByte m b h bs
  unfolding said decoded sound units_from encoded keeping with_low with_unit
  one_low l =
      cases (eqb h.text.high 0)
      (λ z. Alone (rw (is, z, low_not_high c l, l)) (rw (e, l, z)))
      (λ n. let pair = pair_is h.text.high c (waits m h.text s n) l in
      Adds (utf8 (joined h.text.high c)) (rw to) (rw (to, e, l, n)) (rw (is, to, e, l, n)) (rw (e, l, n, pair)) (rw (e, l, n, pair)))

  one_high : is_low c ≡ false → is_high c ≡ true → OneByte m b h bs
  unfolding said decoded sound units_from encoded settled with_unit
  one_high l g =
      cases (eqb h.text.high 0)
      (λ z. Adds [] (rw to) (rw (to, e, l, g, high_not_zero c g, g)) (rw (is, z, g, to, e, l, g, high_not_zero c g) (sym (before_none _))) (rw (e, l, g, z)) (rw (e, l, g)))
      (λ n. Alone (rw (is, n, l)) (rw (e, l, g, n)))

  one_character : is_low c ≡ false → is_high c ≡ false → OneByte m b h bs
  unfolding said decoded sound units_from encoded settled keeping with_unit
  one_character l g =
      cases (eqb h.text.high 0)
      (λ z. Adds (utf8 c) (rw to) (rw (to, e, l, g, z, z)) (rw (is, to, e, l, g, z, z)) (rw (e, l, g, z)) (rw (e, l, g, z)))
      (λ n. Alone (rw (is, n, l)) (rw (e, l, g, n) (count_lone (utf8 c))))

  one_unit : OneByte m b h bs
  one_unit = cases (is_low c) one_low (λ l. cases (is_high c) (one_high l) (one_character l))

-- ---- every mode of a text

abbrev Sound : ℕ → Type 0
Sound m = (b : ℕ) (h : Held) (bs : List ℕ) → sound m h.text ≡ true → eqb (after_mode m b) broken ≡ false → OneByte m b h bs

one_hex : Sound one_hex_mode
unfolding units_from units after_mode after_text held_after held_in_hex
one_hex b h bs s n =
    let hex = kept_on (is_hex b) text_mode n in
    let u = unit_with h.text.unit b in
    one_unit one_hex_mode b u h bs (rw hex) (ap (λ (c : ℕ). Code c ∷ units bs) (last_four h.text.unit b hex)) refl s

texts : Each Sound minus_mode text_mode
unfolding sound units_from units after_mode after_text held_after held_in_hex
texts =
    in_text_lem
    & in_escape_lem
    & one_hex
    & (λ b h bs s. one_digit two_hex_mode one_hex_mode 0 (h.text.unit % 256) b h bs refl refl s refl (λ hex. ap (λ (c : ℕ). coded 0 c bs) (sym (last_three h.text.unit b hex))) refl)
    & (λ b h bs s. one_digit three_hex_mode two_hex_mode 1 (h.text.unit % 16) b h bs refl refl s refl (λ hex. ap (λ (c : ℕ). coded 1 c bs) (sym (last_two h.text.unit b hex))) refl)
    & (λ b h bs s. one_digit four_hex_mode three_hex_mode 2 0 b h bs refl refl s refl (λ hex. ap (λ (c : ℕ). coded 2 c bs) (sym (last_one h.text.unit b hex))) refl)
    & (λ b h bs. one_tail one_more_mode text_mode 128 191 b h bs (omega arith) refl refl refl refl refl refl)
    & (λ b h bs. one_tail two_more_mode one_more_mode 128 191 b h bs (omega arith) refl refl refl refl refl refl)
    & (λ b h bs. one_tail three_more_mode two_more_mode 128 191 b h bs (omega arith) refl refl refl refl refl refl)
    & (λ b h bs. one_tail after_e0_mode one_more_mode 160 191 b h bs (omega arith) refl refl refl refl refl refl)
    & (λ b h bs. one_tail after_ed_mode one_more_mode 128 159 b h bs (omega arith) refl refl refl refl refl refl)
    & (λ b h bs. one_tail after_f0_mode two_more_mode 144 191 b h bs (omega arith) refl refl refl refl refl refl)
    & (λ b h bs. one_tail after_f4_mode two_more_mode 128 143 b h bs (omega arith) refl refl refl refl refl refl)
    & done

-- ---- half of a pair without the other

record Lone (h : Held) : Type 0 where
  lone : h.text.len ≡ lone_length

either_lone : {g h : Held} (t : Bool) → Lone g → Lone h → Lone (cond t g h)
either_lone true p q = p
either_lone false p q = q

settled_lone : (h : Held) → Lone h → Lone (settled_held h)
unfolding settled
settled_lone h e = cases (eqb h.text.high 0) (λ z. rw z e) (λ n. rw n (record { lone = refl }))

keeping_lone : (bs : List ℕ) (h : Held) → Lone h → Lone (keeping bs h)
unfolding keeping
keeping_lone bs h e = record { lone = rw e.lone (count_lone bs) }

unit_lone : (c : ℕ) (h : Held) → Lone h → Lone (with_unit c h)
unfolding with_low with_unit
unit_lone c h e =
    let s = settled_lone h e in
    either_lone (is_low c)
    (either_lone (eqb h.text.high 0) (record { lone = refl }) (keeping_lone (utf8 (pair_of h.text.high c)) (held (waiting 0 h.text) h.slots) (record { lone = e.lone })))
    (either_lone (is_high c) (record { lone = s.lone }) (keeping_lone (utf8 c) (settled_held h) s))

byte_lone : (m b : ℕ) (h : Held) → Lone h → Lone (held_after m b h)
unfolding held_in_text held_in_escape held_in_hex held_after
byte_lone m b h e =
    let s = settled_lone h e in
    let u = unit_with h.text.unit b in
    let said = held (saying u h.text) h.slots in
    either_lone (eqb m text_mode) (either_lone (eqb b quote) s (either_lone (eqb b backslash) e (keeping_lone (b ∷ []) (settled_held h) s)))
    (either_lone (eqb m escape_mode) (either_lone (eqb b 117) e (keeping_lone (escaped_of b ∷ []) (settled_held h) s))
    (either_lone (leb m four_hex_mode) (either_lone (eqb m one_hex_mode) (unit_lone u said (record { lone = e.lone })) (record { lone = e.lone }))
    (keeping_lone (b ∷ []) h e)))

over_lone : (m : ℕ) (h : Held) (bs : List ℕ) → Lone h → Lone (held_over m h bs)
unfolding held_over
over_lone m h [] e = e
over_lone m h (b ∷ bs) e = over_lone (after_mode m b) (held_after m b h) bs (byte_lone m b h e)

-- ---- all bytes

-- what is kept where the rule says this of the bytes that were added
abbrev Kept : Option (List ℕ) → Held → Held → Type 0
Kept none h after = after.text.len ≡ lone_length
Kept (some ds) h after = (after.text.len ≡ count_all h.text.len ds) × (after.slots ≡ slots_all h.slots h.text.len ds)

kept_before : (ds : List ℕ) (x : Option (List ℕ)) (h g after : Held) → g.text.len ≡ count_all h.text.len ds → g.slots ≡ slots_all h.slots h.text.len ds → Kept x g after → Kept (before ds x) h after
kept_before ds none h g after e f k = k
kept_before ds (some cs) h g after e f k = (
  k.0 ∙ ap (λ (n : ℕ). count_all n cs) e ∙ sym (count_append h.text.len ds cs),
  k.1 ∙ rw (e, f) (sym (slots_append h.slots h.text.len ds cs)),
)

pub none_left : (bs : List ℕ) → length bs ≡ 0 → bs ≡ []
none_left [] e = refl
none_left (b ∷ bs) e = absurd (omega arith)

-- a text does not end within one
text_goes_on : (m : ℕ) → kind_of m ≡ 0 → may_end m ≡ false
unfolding may_end
text_goes_on m e =
    let h = leb-true m after_f4_mode (text_kind m e) in
    rw (ne_eqb m 15 (λ z. omega arith), ne_eqb m 16 (λ z. omega arith), ne_eqb m 18 (λ z. omega arith), ne_eqb m 21 (λ z. omega arith))

not_broken : {m k : ℕ} {bs : List ℕ} → Onward m k bs → eqb k broken ≡ false
not_broken (Last e l) = rw e
not_broken {m} {k} (More s e) = ne_eqb k broken (λ z. omega (arith, to_most 1 30 k s.mode))

module _ (m b : ℕ) (h : Held) (bs : List ℕ) where
  after_byte_lem : Onward m (after_mode m b) bs → OneByte m b h bs → (Stays m (after_mode m b) → sound (after_mode m b) (held_after m b h).text ≡ true → from_mode (after_mode m b) bs ≡ Ends (length bs) → Kept (said (after_mode m b) (held_after m b h).text bs) (held_after m b h) (held_over (after_mode m b) (held_after m b h) bs)) → Kept (said m h.text (b ∷ bs)) h (held_over m h (b ∷ bs))
  unfolding held_over
  after_byte_lem (Last w l) (Closes k e f) rest = rw (e, none_left bs l, f) (refl, refl)
  after_byte_lem (Last w l) (Adds ds k s e c d) rest = absurd (true≢false (sym (eq-eqb (after_mode m b) whole w) ∙ k))
  after_byte_lem (Last w l) (Alone e c) rest = rw e (over_lone (after_mode m b) (held_after m b h) bs (record { lone = c })).lone
  after_byte_lem (More s w) (Closes k e f) rest = absurd (omega (arith, to_most 1 30 (after_mode m b) s.mode))
  after_byte_lem (More s w) (Adds ds k g e c d) rest = rw e (kept_before ds (said (after_mode m b) (held_after m b h).text bs) h (held_after m b h) (held_over (after_mode m b) (held_after m b h) bs) c d (rest s g w))
  after_byte_lem (More s w) (Alone e c) rest = rw e (over_lone (after_mode m b) (held_after m b h) bs (record { lone = c })).lone

text_over : (m : ℕ) (h : Held) (bs : List ℕ) → is_mode m ≡ true → kind_of m ≡ 0 → sound m h.text ≡ true → from_mode m bs ≡ Ends (length bs) → Kept (said m h.text bs) h (held_over m h bs)
text_over m h [] i k s e = absurd (breaks_not 0 0 (sym (mode_end m i ∙ rw (text_goes_on m k)) ∙ e))
text_over m h (b ∷ bs) i k s e =
    let on = onward m b bs i e in
    after_byte_lem m b h bs on (each_at texts m (from_least 1 30 m i) (omega (arith, leb-true m after_f4_mode (text_kind m k))) b h bs s (not_broken on))
    (λ st g w. text_over (after_mode m b) (held_after m b h) bs st.mode (st.kind ∙ k) g w)

-- ---- a whole text

-- what is kept of a text that stands for these bytes, or for none
abbrev pub TextKept : Option (List ℕ) → Held → Type 0
TextKept none h = h.text.len ≡ lone_length
TextKept (some ds) h = First h.slots h.text.len ds

first_kept : (x : Option (List ℕ)) (slots : List ℕ) (after : Held) → length slots ≡ kept_room → Kept x (held blank_text slots) after → TextKept x after
first_kept none slots after l k = k
first_kept (some ds) slots after l k = rw (k.0, k.1) (first_all slots ds l)

pub text_kept : (t : Lexeme) (slots : List ℕ) → eqb t.head quote ≡ true → string t.body ≡ Ends (length t.body) → length slots ≡ kept_room → TextKept (text_of t) (held_over text_mode (held blank_text slots) t.body)
unfolding said decoded sound units_from text_of from_mode
text_kept t slots q e l =
    let h = held blank_text slots in
    rw q (first_kept (encoded (units t.body)) slots (held_over text_mode h t.body) l (text_over text_mode h t.body refl refl refl e))

-- whether it stands for bytes is told by the length
pub text_told : (x : Option (List ℕ)) (h : Held) → TextKept x h → eqb h.text.len lone_length ≡ not (is_some x)
text_told none h k = rw k
text_told (some ds) h k = ne_eqb h.text.len lone_length (λ z. omega (arith, k.count))
