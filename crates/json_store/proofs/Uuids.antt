-- The sixteen bytes of a uuid, one by one.
use Prim.Native.Nat.{ℕ, zero, suc, ◌+◌, ◌≤◌, ◌<◌}
use mathlib.Core.Path.{◌≡◌, refl, sym, ap, ◌∙◌}
use mathlib.Core.Bool.{true, cond}
use mathlib.Core.List.{List}
use native.Mathlib.Nat.{add-zero, zero-add, add-suc, suc-add}
use native.Mathlib.Omega.{arith}
use borrow.Author.Tests.{lt-ltb}
use lib.Dec.{ltb}
use lib.ListN.{length, get_or, drop, set}
use lib.Seq.{sets, ext_get_or}
use Rattle.json_rule.specs.Records.{uuid_of}
use Rattle.json_rule.specs.Defects.{is_uuid}
use Rattle.json_members.specs.Kept.{front}
use Rattle.json_members.specs.Uuids.{uuid_byte}
use Rattle.json_members.proofs.Uuids.{uuid_byte_lem, uuid_long}
use Rattle.json_store.specs.Puts.{uuid_bytes, put_uuid}
use Rattle.json_store.proofs.Stores.{sets_more, sets_done}

pub uuid_bytes_length : (kept : List ℕ) (i n : ℕ) → length (uuid_bytes kept i n) ≡ n
uuid_bytes_length kept i zero = refl
uuid_bytes_length kept i (suc n) = ap suc (uuid_bytes_length kept (suc i) n)

pub uuid_bytes_at : (kept : List ℕ) (i n k : ℕ) → k < n → get_or (uuid_bytes kept i n) k 0 ≡ uuid_byte kept (i + k)
uuid_bytes_at kept i zero k h = absurd (omega arith)
uuid_bytes_at kept i (suc n) zero h = rw (add-zero i)
uuid_bytes_at kept i (suc n) (suc k) h = uuid_bytes_at kept (suc i) n k (omega arith) ∙ ap (uuid_byte kept) (omega (arith, suc-add i k, add-suc i k))

-- those of a text that is a uuid
pub uuid_bytes_lem : (kept : List ℕ) → is_uuid (front 36 kept) ≡ true → uuid_bytes kept 0 16 ≡ uuid_of (front 36 kept)
uuid_bytes_lem kept is =
    ext_get_or 0 (uuid_bytes kept 0 16) (uuid_of (front 36 kept)) (uuid_bytes_length kept 0 16 ∙ sym (uuid_long kept is))
    (λ k h. uuid_bytes_at kept 0 16 k h ∙ ap (uuid_byte kept) (zero-add k) ∙ uuid_byte_lem kept is k h)

module _ (kept : List ℕ) where
  pub uuid_more : (texts : List ℕ) (i byte : ℕ) → i < 16 → byte ≡ cond (ltb i 16) (uuid_byte kept i) 0 → sets texts (0 + i) (drop i (uuid_bytes kept 0 16)) ≡ sets (set texts (0 + i) byte) (0 + (i + 1)) (drop (i + 1) (uuid_bytes kept 0 16))
  uuid_more texts i byte h e =
      sets_more texts 0 i (uuid_bytes kept 0 16) 0 byte h
      (e ∙ ap (λ b. cond b (uuid_byte kept i) 0) (lt-ltb i 16 h) ∙ sym (uuid_bytes_at kept 0 16 i h ∙ ap (uuid_byte kept) (zero-add i)))

  pub uuid_end : (before texts : List ℕ) (i : ℕ) → 16 ≤ i → sets before 0 (uuid_bytes kept 0 16) ≡ sets texts (0 + i) (drop i (uuid_bytes kept 0 16)) → texts ≡ put_uuid kept before
  unfolding put_uuid
  uuid_end before texts i h e = sym (e ∙ sets_done texts (0 + i) i (uuid_bytes kept 0 16) h)
