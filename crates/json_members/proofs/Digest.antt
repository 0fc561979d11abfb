-- What the lexer keeps of a whole lexeme is what the judge goes by.
use Prim.Native.Nat.{ℕ, ◌^◌}
use mathlib.Core.Path.{◌≡◌, refl, sym, ◌∙◌}
use mathlib.Core.Bool.{Bool, true, false, cond, ◌&&◌, true≢false}
use mathlib.Core.List.{List}
use mathlib.Core.Option.{Option, none, some}
use borrow.Author.Tests.{ltb-true}
use borrow.Table.Steps.{cases}
use lib.Dec.{eqb, ltb}
use Rattle.rules.proofs.Checks.{and_left, and_right}
use Rattle.json_rule.specs.Lexemes.{Lexeme}
use Rattle.json_machine.specs.Modes.{is_integer}
use Rattle.json_machine.specs.Digest.{Held}
use Rattle.json_machine.specs.declared.Number.{Number}
use Rattle.json_machine.proofs.Texts as texts
use Rattle.json_machine.proofs.Numbers as numbers
use Rattle.json_members.specs.Kept.{TextKept, NumberKept}

pub text_digest : (x : Option (List ℕ)) (h : Held) → texts.TextKept x h → TextKept h.slots h.text.len x
text_digest none h k = k
text_digest (some ds) h k = k

-- the count says whether the magnitude is kept whole
kept_whole : (b : Bool) (over : ℕ) → over ≡ cond b 0 1 → eqb over 0 ≡ true → b ≡ true
kept_whole true over e z = refl
kept_whole false over e z = absurd (true≢false (sym z ∙ rw e))

pub number_digest : (t : Lexeme) (m : ℕ) (n : Number) → numbers.NumberKept t m n → NumberKept (is_integer m && eqb n.over 0) n.magnitude t
number_digest t m n k =
    record {
      is_whole = is_integer m;
      value = k.value;
      number = k.number;
      told = cases (is_integer m) (λ i. rw (i, (k.tells i).over) (cases (ltb k.value (2 ^ 64)) (λ s. rw s) (λ s. rw s))) (λ i. rw i);
      is =
          λ e. let i = and_left (is_integer m) (eqb n.over 0) e in
          (k.tells i).magnitude (ltb-true k.value (2 ^ 64) (kept_whole (ltb k.value (2 ^ 64)) n.over (k.tells i).over (and_right (is_integer m) (eqb n.over 0) e)));
    }
