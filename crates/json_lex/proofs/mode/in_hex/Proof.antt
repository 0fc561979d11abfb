-- A hexadecimal digit is known by its value, which is not 16.
use mathlib.Core.Path.{sym, ◌∙◌}
use borrow.Author.Rules.{rules}
use Rattle.json_machine.proofs.Escapes.{hex_is_not, hex_is_some}
use Rattle.json_lex.proofs.mode.in_hex.Statement.{statement}
use Rattle.json_lex.proofs.mode.in_hex.Tie as tie

pub in_hex_spec : {M : Type 1} → statement M
in_hex_spec =
    tie.close
    (tie.spec
    (λ c κs. search rules)
    (λ c. let b = c.args.byte in rw (hex_is_not b (sym c.hex_of.ensures ∙ c.if-hex_of-eq-NO_HEX.true)))
    (λ c. let b = c.args.byte in rw (hex_is_some b (λ e. c.if-hex_of-eq-NO_HEX.false (c.hex_of.ensures ∙ e)))))
