-- The transforms of a partition field, as they are told of a text.
use Rattle.std.specs.Prelude.{ℕ, ◌-◌, Bool, cond, not, ◌&&◌, ◌||◌, List, eqb, leb, length, get_or, take, drop}
use Rattle.rules.specs.Words.{same_bytes}
use Rattle.json_rule.specs.Records.{natural_of, transform_of, buckets_of}
use Rattle.json_rule.specs.Defects.{bucket_start, is_transform}
use Rattle.json_members.specs.declared.bucket.Transform.{Transform}

abbrev pub no_transform : Transform
no_transform = record { kind = 0; buckets = 0 }

-- a transform and its number of buckets; 0 where a text is none
unfoldable pub transform_in : List ℕ → Transform
transform_in text = cond (is_transform text) (record { kind = transform_of text; buckets = natural_of (buckets_of text) }) no_transform

-- the largest number of buckets
abbrev pub most_buckets : ℕ
most_buckets = 2147483647

-- what stands between `bucket[` and the last byte
abbrev pub between : List ℕ → List ℕ
between text = take (length text - 8) (drop 7 text)

-- `bucket[`, one to ten bytes that begin with `0` only where they are one, and `]`
unfoldable pub is_bracketed : List ℕ → Bool
is_bracketed text =
    leb 9 (length text)
    && leb (length text) 18
    && same_bytes (take 7 text) bucket_start
    && eqb (get_or text (length text - 1) 0) 93
    && (not (eqb (get_or text 7 0) 48) || eqb (length text) 9)
