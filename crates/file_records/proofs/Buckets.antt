-- The number of buckets of a transform fits 32 bits.
use Prim.Native.Nat.{ℕ, ◌≤◌}
use mathlib.Core.Path.{refl}
use mathlib.Core.List.{List}
use native.Mathlib.Omega.{arith}
use borrow.Author.Tests.{leb-true, leb-false}
use borrow.Table.Steps.{cases}
use lib.Dec.{leb}
use Rattle.json_members.specs.Words.{transform_words}
use Rattle.json_members.specs.Transforms.{transform_in, most_buckets, between, is_bracketed}
use Rattle.json_members.proofs.Words.{is_word_of}
use Rattle.json_members.proofs.Digits.{said_by}
use Rattle.json_members.proofs.Transforms.{plain_told, no_bucket, too_many, some_buckets}

pub buckets_small : (text : List ℕ) → (transform_in text).buckets ≤ most_buckets
buckets_small text =
    cases (is_word_of transform_words text)
    (λ w. rw (← plain_told text w) (omega arith))
    (λ n.
    cases (is_bracketed text)
    (λ b.
    let number : ℕ = said_by 0 (between text) in
    cases (leb number most_buckets)
    (λ t. rw (← some_buckets text n b number refl (leb-true number most_buckets t)) (leb-true number most_buckets t))
    (λ f. rw (← too_many text n b number refl (leb-false number most_buckets f)) (omega arith)))
    (λ b. rw (← no_bucket text n b) (omega arith)))
