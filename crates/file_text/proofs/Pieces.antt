-- Pieces that are put one behind the other are one piece.
use Prim.Native.Nat.{ℕ, suc, ◌+◌, ◌-◌, ◌^◌, ◌≤◌, ◌<◌, min}
use native.Mathlib.Nat.{add-zero}
use native.Mathlib.Omega.{arith}
use mathlib.Core.Path.{◌≡◌, refl, sym, ap, ◌∙◌}
use mathlib.Core.Bool.{Bool, true, false, cond}
use mathlib.Core.List.{List, [], ◌∷◌, ◌++◌, append_assoc}
use borrow.Author.Tests.{le-leb, lt-leb, leb-true, leb-false}
use borrow.Table.Steps.{cases}
use lib.Dec.{leb}
use lib.ListN.{length, set, take, drop, length-append}
use lib.Seq.{sets, length-sets}
use borrow.Rule.Slice.PartMut.{put_mid}
use Rattle.std.proofs.lemmas.Slice.{put_mid-paste}
use Rattle.std.proofs.lemmas.List.Edits.{sets-eq, paste_all}
use Rattle.file_text.specs.Puts.{Puts, past, only_if}

-- ---- places

pub past_exact : (p n : ℕ) → p + n < 2 ^ 64 → p + n ≡ past p n
unfolding past
past_exact p n h = sym (rw (le-leb (p + n) 18446744073709551615 (omega arith)))

pub past_last : (p n : ℕ) → 2 ^ 64 ≤ p + n → 18446744073709551615 ≡ past p n
unfolding past
past_last p n h = sym (rw (lt-leb (p + n) 18446744073709551615 (omega arith)))

pub past_min : (p n : ℕ) → min (p + n) 18446744073709551615 ≡ past p n
unfolding past
past_min p n =
    cases (leb (p + n) 18446744073709551615)
    (λ e. let h = leb-true (p + n) 18446744073709551615 e in rw e (omega arith))
    (λ e. let h = leb-false (p + n) 18446744073709551615 e in rw e (omega arith))

past_past : (p m n : ℕ) → past (past p m) n ≡ past p (m + n)
unfolding past
past_past p m n =
    cases (leb (p + m) 18446744073709551615)
    (λ e. let q : p + m + n ≡ p + (m + n) = omega arith in rw e (ap (λ (k : ℕ). cond (leb k 18446744073709551615) k 18446744073709551615) q))
    (λ e. let h : 18446744073709551615 < p + m = leb-false (p + m) 18446744073709551615 e in
    rw (e, lt-leb (p + (m + n)) 18446744073709551615 (omega arith))
    (cases (leb (18446744073709551615 + n) 18446744073709551615)
    (λ f. let k = leb-true (18446744073709551615 + n) 18446744073709551615 f in rw f (omega arith))
    (λ f. rw f)))

-- ---- stores

pub sets_on : (l : List ℕ) (i : ℕ) (vs ws : List ℕ) → sets (sets l i vs) (i + length vs) ws ≡ sets l i (vs ++ ws)
sets_on l i [] ws = ap (λ (k : ℕ). sets l k ws) (add-zero i)
sets_on l i (v ∷ vs) ws =
    let e : i + suc (length vs) ≡ suc i + length vs = omega arith in
    ap (λ (k : ℕ). sets (sets (set l i v) (suc i) vs) k ws) e ∙ sets_on (set l i v) (suc i) vs ws

-- ---- pieces

module _ {b : List ℕ} {p : ℕ} where
  pub nothing : p < 2 ^ 64 → Puts b p [] p b
  nothing h = record { ends = sym (add-zero p) ∙ past_exact p 0 (omega arith); bytes = λ _ _. refl }

  -- where there is no room, the bytes are only counted
  pub counted : (text : List ℕ) {r : ℕ} → length b < p + length text → r ≡ past p (length text) → Puts b p text r b
  counted text h e = record { ends = e; bytes = λ k _. absurd (omega arith) }

  pub stored : (text : List ℕ) {r : ℕ} {a : List ℕ} → p + length text < 2 ^ 64 → r ≡ p + length text → a ≡ sets b p text → Puts b p text r a
  stored text h e d = record { ends = e ∙ past_exact p (length text) h; bytes = λ _ _. d }

  pub copied : (text held : List ℕ) {r : ℕ} → r < 2 ^ 64 → r ≡ p + length text → r ≤ length b → held ≡ text → Puts b p text r (put_mid p (r - p) b held)
  copied text held {r} h e k d =
      stored text (omega arith) e
      (put_mid-paste p (r - p) b held text (length text) d (omega arith) refl ∙ paste_all b p text (length text) refl ∙ sym (append_assoc (take p b) text (drop (p + length text) b)) ∙ sym (sets-eq text b p (omega arith)))

  module _ {s t b' b'' : List ℕ} {r r' : ℕ} (x : Puts b p s r b') (y : Puts b' r t r' b'') where
    on : p + length (s ++ t) ≤ length b → length b < 2 ^ 64 → b'' ≡ sets b p (s ++ t)
    on h k =
        let m = length-append s t in
        let e : b' ≡ sets b p s = x.bytes (omega arith) k in
        let n : length b' ≡ length b = ap length e ∙ length-sets b p s in
        let q : r ≡ p + length s = x.ends ∙ sym (past_exact p (length s) (omega arith)) in
        y.bytes (omega arith) (omega arith) ∙ ap (λ (l : List ℕ). sets l r t) e ∙ ap (λ (i : ℕ). sets (sets b p s) i t) q ∙ sets_on b p s t

    pub then : Puts b p (s ++ t) r' b''
    then =
        record {
          ends = y.ends ∙ ap (λ (k : ℕ). past k (length t)) x.ends ∙ past_past p (length s) (length t) ∙ ap (past p) (sym (length-append s t));
          bytes = on;
        }

  module _ {text : List ℕ} {r : ℕ} {a : List ℕ} where
    pub is : {other : List ℕ} → Puts b p text r a → text ≡ other → Puts b p other r a
    is x e = rw e at x

    -- wanted, or left out
    pub wanted : (w : Bool) → w ≡ true → Puts b p text r a → Puts b p (only_if w text) r a
    wanted w e x = rw e x

  pub unwanted : (w : Bool) (text : List ℕ) → w ≡ false → p < 2 ^ 64 → Puts b p (only_if w text) p b
  unwanted w text e h = rw e (nothing h)

-- ---- in a loop

-- whatever puts the rest, from here on, has put the text
pub record Leads (b : List ℕ) (p : ℕ) (text : List ℕ) (b' : List ℕ) (r : ℕ) (rest : List ℕ) : Type 0 where
  pub all : (end : ℕ) (after : List ℕ) → Puts b' r rest end after → Puts b p text end after
  pub place : r < 2 ^ 64

module _ {b : List ℕ} {p : ℕ} {text : List ℕ} where
  pub leads : p < 2 ^ 64 → Leads b p text b p text
  leads h = record { all = λ _ _ y. y; place = h }

  module _ {b' : List ℕ} {r : ℕ} {rest : List ℕ} (x : Leads b p text b' r rest) where
    pub leads_on : {s : List ℕ} {r' : ℕ} {b'' : List ℕ} {others : List ℕ} → Puts b' r s r' b'' → r' < 2 ^ 64 → s ++ others ≡ rest → Leads b p text b'' r' others
    leads_on y h e = record { all = λ end after z. x.all end after (is (then y z) e); place = h }

    pub led : [] ≡ rest → Puts b p text r b'
    led e = x.all r b' (is (nothing x.place) e)
