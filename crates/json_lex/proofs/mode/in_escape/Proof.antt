-- A short escape is known by its byte, which is not 0.
use mathlib.Core.Path.{sym, ◌∙◌}
use borrow.Author.Tests.{ne_eqb}
use borrow.Author.Rules.{rules}
use Rattle.json_rule.specs.Lexemes.{is_short}
use Rattle.json_machine.specs.Modes.{in_escape}
use Rattle.json_machine.proofs.Escapes.{short_is_not, short_is_some}
use Rattle.json_lex.proofs.mode.in_escape.Statement.{statement}
use Rattle.json_lex.proofs.mode.in_escape.Tie as tie

pub in_escape_spec : {M : Type 1} → statement M
unfolding is_short in_escape
in_escape_spec =
    tie.close
    (tie.spec
    (λ c. rw c.if-byte-eq117.true)
    (λ c κs. search rules)
    (λ c. let b = c.args.byte in rw (short_is_not b (sym c.escaped.ensures ∙ c.if-escaped-eq-NO_ESCAPE.true), ne_eqb _ _ c.if-byte-eq117.false))
    (λ c. let b = c.args.byte in rw (short_is_some b (λ e. c.if-escaped-eq-NO_ESCAPE.false (c.escaped.ensures ∙ e)))))
