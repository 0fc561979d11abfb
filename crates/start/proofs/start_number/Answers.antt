-- Each of the five tests is one of the rule's.
use Rattle.std.proofs.Common.{◌≡◌, ℕ, ◌≤◌, ◌<◌, Bool, true, false, ◌&&◌, ◌||◌, leb, ltb, sym, ◌∙◌, arith}
use borrow.Author.Tests.{ltb-true, ltb-false, leb-true, leb-false}
use borrow.Table.Steps.{cases}
use Rattle.records.specs.declared.update.UpdateList.{UpdateList}
use Rattle.rules.specs.Run.{list_sum}
use Rattle.rules.specs.Kinds.{read_updates}
use Rattle.rules.proofs.Checks.{and_left, and_right, by_either, neither}
use Rattle.start.proofs.Started.{not_formed_lem, file_long, too_many, untolerated, unknown, starts_0, sum_counts}
use Rattle.start.proofs.start_number.Goals as goal

short : {has : Bool} {length : ℕ} → (has && ltb 96 length) ≡ false → has ≡ true → length ≤ 96
short {has} {length} e h = ltb-false 96 length (rw h at e)

-- the count and the sum, of a list with them
module _ (us : UpdateList) {count sum : ℕ} (n : us.count ≡ count) (s : count ≤ 64 → sum ≡ list_sum (read_updates us)) where
  above : (ltb 64 count || ltb 64 sum) ≡ true → 64 < list_sum (read_updates us)
  above e =
      cases (leb count 64)
      (λ l. by_either (ltb 64 count) (ltb 64 sum)
      (λ q. absurd (omega (arith, ltb-true 64 count q, leb-true count 64 l)))
      (λ q. omega (arith, ltb-true 64 sum q, s (leb-true count 64 l))) e)
      (λ l. omega (arith, leb-false count 64 l, sum_counts us))

  most : (ltb 64 count || ltb 64 sum) ≡ false → list_sum (read_updates us) ≤ 64
  most e = let k = neither (ltb 64 count) (ltb 64 sum) e in omega (arith, ltb-false 64 sum k.1, s (ltb-false 64 count k.0))

pub returns-then-not-is_formed : goal.returns-then-not-is_formed
returns-then-not-is_formed c = λ m us f n s. not_formed_lem m us c.args.terms (sym f ∙ c.if-not-is_formed.true)

pub returns-then-is_long : goal.returns-then-is_long
returns-then-is_long c = λ m us f n s.
    let t = c.args.terms in
    let e = sym c.is_long.ensures ∙ c.if-is_long.true in
    file_long m us t (and_left t.has_file (ltb 96 t.file.len) e) (ltb-true 96 t.file.len (and_right t.has_file (ltb 96 t.file.len) e))

pub returns-then-is_above : goal.returns-then-is_above
returns-then-is_above c = λ m us f n s.
    too_many m us c.args.terms (sym f ∙ c.if-not-is_formed.false) (short (sym c.is_long.ensures ∙ c.if-is_long.false)) (above us n s (sym c.is_above.ensures ∙ c.if-is_above.true))

pub returns-then-is_outside : goal.returns-then-is_outside
returns-then-is_outside c = λ m us f n s.
    untolerated m us c.args.terms (sym f ∙ c.if-not-is_formed.false) (short (sym c.is_long.ensures ∙ c.if-is_long.false)) (most us n s (sym c.is_above.ensures ∙ c.if-is_above.false))
    (sym c.is_outside.ensures ∙ c.if-is_outside.true)

pub returns-then-not-is_office : goal.returns-then-not-is_office
returns-then-not-is_office c = λ m us f n s.
    unknown m us c.args.terms (sym f ∙ c.if-not-is_formed.false) (short (sym c.is_long.ensures ∙ c.if-is_long.false)) (most us n s (sym c.is_above.ensures ∙ c.if-is_above.false))
    (sym c.is_outside.ensures ∙ c.if-is_outside.false)
    (sym c.is_office.ensures ∙ c.if-not-is_office.true)

pub returns : goal.returns
returns c = λ m us f n s.
    starts_0 m us c.args.terms (sym f ∙ c.if-not-is_formed.false) (short (sym c.is_long.ensures ∙ c.if-is_long.false)) (most us n s (sym c.is_above.ensures ∙ c.if-is_above.false))
    (sym c.is_outside.ensures ∙ c.if-is_outside.false)
    (sym c.is_office.ensures ∙ c.if-not-is_office.false)
