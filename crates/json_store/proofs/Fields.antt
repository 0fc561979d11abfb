-- A field that was closed, in its bytes: one after the other, and the name behind them, which no store before it reached.
use Prim.Native.Nat.{ℕ, ◌+◌, ◌≤◌}
use mathlib.Core.Path.{◌≡◌, refl, sym, ap, ◌∙◌}
use mathlib.Core.List.{List, [], ◌∷◌, ◌++◌}
use native.Mathlib.Omega.{arith}
use lib.ListN.{length, set}
use lib.Seq.{sets}
use Rattle.json_rule.specs.Records.{four_bytes}
use Rattle.json_store.specs.Numbers.{low_at, byte_at}
use Rattle.json_store.specs.Puts.{store, part, field_bytes, partition_bytes}
use Rattle.json_store.proofs.Stores.{sets_append, part_before}

-- the name behind some bytes
behind : (texts xs M E : List ℕ) (at n : ℕ) → 179 ≤ at → M ≡ sets texts at xs → length xs ≡ n → E ≡ sets M (at + n) (part 146 33 M) → E ≡ sets texts at (xs ++ part 146 33 texts)
behind texts xs M E at n h m e d =
    d
    ∙ ap (λ (l : List ℕ). sets l (at + n) (part 146 33 l)) m
    ∙ ap (λ (l : List ℕ). sets (sets texts at xs) (at + n) l) (part_before texts at xs 146 33 (omega arith))
    ∙ ap (λ (k : ℕ). sets (sets texts at xs) (at + k) (part 146 33 texts)) (sym e)
    ∙ sym (sets_append texts at xs (part 146 33 texts))

module _ (numbers texts E : List ℕ) (at : ℕ) (h : 179 ≤ at) where
  pub field_stored : (T : List ℕ) (low byte : ℕ) → low ≡ low_at numbers 40 → byte ≡ byte_at numbers 43 → T ≡ sets texts at (four_bytes low) → E ≡ sets (set T (at + 4) byte) (at + 5) (part 146 33 (set T (at + 4) byte)) → E ≡ sets texts at (field_bytes (store numbers texts))
  field_stored T low byte l b t e =
      behind texts (four_bytes low ++ (byte ∷ [])) (set T (at + 4) byte) E at 5 h
      (ap (λ (r : List ℕ). set r (at + 4) byte) t ∙ sym (sets_append texts at (four_bytes low) (byte ∷ [])))
      refl e
      ∙ ap (λ (n : ℕ). sets texts at (four_bytes n ++ (byte ∷ []) ++ part 146 33 texts)) l
      ∙ ap (λ (n : ℕ). sets texts at (four_bytes (low_at numbers 40) ++ (n ∷ []) ++ part 146 33 texts)) b

  pub partition_stored : (T U : List ℕ) (low byte buckets : ℕ) → low ≡ low_at numbers 54 → byte ≡ byte_at numbers 57 → buckets ≡ low_at numbers 63 → T ≡ sets texts at (four_bytes low) → U ≡ sets (set T (at + 4) byte) (at + 5) (four_bytes buckets) → E ≡ sets U (at + 9) (part 146 33 U) → E ≡ sets texts at (partition_bytes (store numbers texts))
  partition_stored T U low byte buckets l b k t u e =
      behind texts (four_bytes low ++ (byte ∷ []) ++ four_bytes buckets) U E at 9 h
      (u
      ∙ ap (λ (r : List ℕ). sets r (at + 5) (four_bytes buckets)) (ap (λ (r : List ℕ). set r (at + 4) byte) t ∙ sym (sets_append texts at (four_bytes low) (byte ∷ [])))
      ∙ sym (sets_append texts at (four_bytes low ++ (byte ∷ [])) (four_bytes buckets)))
      refl e
      ∙ ap (λ (n : ℕ). sets texts at (four_bytes n ++ (byte ∷ []) ++ four_bytes buckets ++ part 146 33 texts)) l
      ∙ ap (λ (n : ℕ). sets texts at (four_bytes (low_at numbers 54) ++ (n ∷ []) ++ four_bytes buckets ++ part 146 33 texts)) b
      ∙ ap (λ (n : ℕ). sets texts at (four_bytes (low_at numbers 54) ++ (byte_at numbers 57 ∷ []) ++ four_bytes n ++ part 146 33 texts)) k
