-- Two digits.
use native.Mathlib.Omega.{arith}
use borrow.Author.Rules.{rules}
use borrow.Author.Tests.{lt-ltb, le-ltb}
use Rattle.json_members.specs.Uuids.{uuid_byte}
use Rattle.json_members.proofs.Uuids.{place_small}
use Rattle.json_members.proofs.uuid.byte_of.Statement.{statement}
use Rattle.json_members.proofs.uuid.byte_of.Tie as tie

returns_2 : tie.Need-returns
unfolding uuid_byte
returns_2 c =
    rw (lt-ltb _ _ c.if-byte-ge16.false, c.hex_of-high.ensures, c.hex_of-low.ensures, c.place_of-at.ensures)

pub byte_of_spec : {M : Type 1} → statement M
byte_of_spec =
    tie.close
    (tie.spec
    (λ c. rw (le-ltb _ _ c.if-byte-ge16.true))
    (λ c κs. search rules)
    (λ c. omega (arith, c.place_of-at.ensures, place_small c.args.byte c.if-byte-ge16.false))
    (λ c κs. search rules)
    (λ c. omega (arith, c.place_of-at.ensures, place_small c.args.byte c.if-byte-ge16.false))
    (λ c. omega (arith, c.place_of-at.ensures, place_small c.args.byte c.if-byte-ge16.false))
    (λ c κs. search rules)
    (λ c. search rules)
    (λ c. search rules)
    (λ c. search rules)
    returns_2)
