-- The token of the bytes so far, with the rest of the text, is the token of the whole text.
use Rattle.std.proofs.Common.{◌≡◌, drop}
use Rattle.tokens.specs.Token.{blank, with_bytes}
use Rattle.tokens.proofs.token.token_of.Given as goal

abbrev pub invariant-loop-byte : goal.invariant-loop-byte
invariant-loop-byte l = with_bytes l.token (drop l.byte-index l.text) ≡ with_bytes blank l.text
