-- The transform that a text is: one of four words, or a number of buckets.
use Prim.Native.Nat.{ℕ, ◌-◌, ◌≤◌, ◌<◌}
use mathlib.Core.Path.{◌≡◌, refl, sym, ap, ◌∙◌}
use mathlib.Core.Bool.{Bool, true, false, not, cond, ◌||◌, true≢false}
use mathlib.Core.List.{List}
use native.Mathlib.Omega.{arith}
use borrow.Author.Tests.{ne_eqb, le-leb, lt-leb}
use borrow.Table.Steps.{cases}
use lib.Dec.{eqb}
use lib.ListN.{length, drop}
use Rattle.rules.specs.Words.{all, keep, same_bytes}
use Rattle.rules.specs.Partitions.{bucket}
use Rattle.json_rule.specs.Letters.{bytes}
use Rattle.json_rule.specs.Lexemes.{is_digit}
use Rattle.json_rule.specs.Values.{digits_value}
use Rattle.json_rule.specs.Records.{transform_of}
use Rattle.json_rule.specs.Defects.{plain_transforms, is_bucket, is_transform}
use Rattle.json_members.specs.Kept.{front}
use Rattle.json_members.specs.Words.{number_of, transform_words}
use Rattle.json_members.specs.Transforms.{no_transform, transform_in, most_buckets, between, is_bracketed}
use Rattle.json_members.proofs.Fronts.{front_length}
use Rattle.json_members.proofs.Words.{no_word, ◌+++◌, is_word_of, by_words, number_told, longer}
use Rattle.json_members.proofs.Digits.{said_by}
use Rattle.json_members.proofs.Buckets.{bucket_told, digits_between, long, short, between_front}

neither : (a b : Bool) → a || b ≡ false → (a ≡ false) × (b ≡ false)
neither true b e = absurd (true≢false e)
neither false b e = (refl, e)

-- ---- words

-- a word stands for no number of buckets
pub plain_told : (text : List ℕ) → is_word_of transform_words text ≡ true → record { kind = number_of 0 transform_words text; buckets = 0 } ≡ transform_in text
unfolding is_digit is_bucket is_transform number_of transform_in
plain_told text t =
    by_words (λ l. record { kind = number_of 0 transform_words l; buckets = 0 } ≡ transform_in l) transform_words text
    (refl +++ refl +++ refl +++ refl +++ no_word)
    (λ n. absurd (true≢false (sym t ∙ n)))

-- ---- buckets

module _ (text : List ℕ) (n : is_word_of transform_words text ≡ false) where
  other_transform : transform_of text ≡ bucket
  other_transform =
      let one = neither (same_bytes text (bytes "identity")) _ n in
      let two = neither (same_bytes text (bytes "year")) _ one.1 in
      let three = neither (same_bytes text (bytes "month")) _ two.1 in
      let four = neither (same_bytes text (bytes "day")) _ three.1 in
      rw (one.0, two.0, three.0, four.0)

  bucket_in : transform_in text ≡ cond (is_bucket text) (record { kind = bucket; buckets = digits_value 0 (keep is_digit text) }) no_transform
  unfolding is_transform transform_in
  bucket_in = rw (n, other_transform)

  pub no_bucket : is_bracketed text ≡ false → no_transform ≡ transform_in text
  no_bucket b = sym (bucket_in ∙ rw (bucket_told text, b))

  module _ (b : is_bracketed text ≡ true) (number : ℕ) (said : number ≡ said_by 0 (between text)) where
    pub too_many : most_buckets < number → no_transform ≡ transform_in text
    too_many h =
        sym
        (bucket_in
        ∙ cases (all is_digit (between text))
        (λ a. let is : number ≡ digits_value 0 (between text) = said ∙ rw a in rw (bucket_told text, b, a, lt-leb (digits_value 0 (between text)) most_buckets (omega arith)))
        (λ a. rw (bucket_told text, b, a)))

    pub some_buckets : number ≤ most_buckets → record { kind = bucket; buckets = number } ≡ transform_in text
    some_buckets h =
        sym
        (bucket_in
        ∙ cases (all is_digit (between text))
        (λ a. let is : number ≡ digits_value 0 (between text) = said ∙ rw a in rw (bucket_told text, b, a, le-leb (digits_value 0 (between text)) most_buckets (omega arith), digits_between text b a, is))
        (λ a. absurd (let is : number ≡ 2147483648 = said ∙ rw a in omega arith)))

-- ---- what is kept of a text

-- it has the number of one of the words, or none
module _ (text : List ℕ) (kind : ℕ) (is : kind ≡ number_of 0 transform_words text) where
  pub a_word : (kind ≡ 0 → ⊥) → is_word_of transform_words text ≡ true
  a_word n = sym (number_told 0 transform_words text refl) ∙ rw (← is, ne_eqb kind 0 n)

  pub no_word_there : kind ≡ 0 → is_word_of transform_words text ≡ false
  no_word_there z = sym (number_told 0 transform_words text refl) ∙ rw (← is, z)

module _ (len : ℕ) (kept : List ℕ) (b : is_bracketed (front len kept) ≡ true) where
  pub bounds : (9 ≤ len) × (len ≤ 18)
  bounds = (omega (arith, long (front len kept) b, front_length len kept), omega (arith, short (front len kept) b, front_length len kept))

  pub said_between : (number : ℕ) → number ≡ said_by 0 (front (len - 7 - 1) (drop 7 kept)) → number ≡ said_by 0 (between (front len kept))
  said_between number said =
      let e : len - 7 - 1 ≡ len - 8 = omega arith in
      said ∙ ap (λ (n : ℕ). said_by 0 (front n (drop 7 kept))) e ∙ ap (said_by 0) (sym (between_front len kept bounds.0))

-- ---- whether it is one

kind_some : (text : List ℕ) → eqb (transform_of text) 0 ≡ false
kind_some text =
    cases (same_bytes text (bytes "identity")) (λ t. rw t)
    (λ f1. cases (same_bytes text (bytes "year")) (λ t. rw (f1, t))
    (λ f2. cases (same_bytes text (bytes "month")) (λ t. rw (f1, f2, t))
    (λ f3. cases (same_bytes text (bytes "day")) (λ t. rw (f1, f2, f3, t)) (λ f4. rw (f1, f2, f3, f4)))))

pub transform_told : (text : List ℕ) → not (eqb (transform_in text).kind 0) ≡ is_transform text
unfolding transform_in
transform_told text = cases (is_transform text) (λ t. rw (t, kind_some text)) (λ f. rw f)

pub transform_short : (text : List ℕ) → 97 ≤ length text → is_transform text ≡ false
unfolding is_transform is_bracketed
transform_short text h =
    rw (longer plain_transforms text refl h, bucket_told text, le-leb 9 (length text) (omega arith), lt-leb (length text) 18 (omega arith))
