-- Each way keeps what the rule keeps.
use mathlib.Core.Path.{sym, ◌∙◌}
use native.Mathlib.Omega.{arith}
use borrow.Author.Rules.{rules}
use lib.ListN.{length-set}
use lib.Seq.{length-take-le}
use Rattle.kept_text.proofs.LimitText.{spare, stored, full}
use Rattle.kept_text.proofs.limit.keep_byte.Statement.{statement}
use Rattle.kept_text.proofs.limit.keep_byte.Tie as tie

returns : tie.Need-returns-then-is_spare
returns c =
    (c.requires, spare c.args.text.now c.args.len c.args.byte c.requires (sym c.is_spare.ensures ∙ c.if-is_spare.true))

returns_2 : tie.Need-returns-then-len-text
returns_2 c = (
  simp length-set (omega arith),
  stored c.args.text.now c.args.len c.args.byte c.requires (sym c.is_spare.ensures ∙ c.if-is_spare.false) c.if-len-text.true,
)

returns_3 : tie.Need-returns
returns_3 c = (
  c.requires,
  full c.args.text.now c.args.len c.args.byte c.requires (sym c.is_spare.ensures ∙ c.if-is_spare.false) c.if-len-text.false,
)

pub keep_byte_spec : {M : Type 1} → statement M
keep_byte_spec =
    tie.close
    (tie.spec
    (λ c. search rules)
    (λ c. sym (length-take-le _ _ c.requires))
    (λ c κs. search rules)
    (λ c. search rules)
    returns
    (λ c. search rules)
    (λ c. search rules)
    (λ c. search rules)
    returns_2
    (λ c. search rules)
    returns_3)
