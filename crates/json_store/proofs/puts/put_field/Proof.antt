-- Byte by byte, and the name.
use Prim.Native.Nat.{◌+◌, ◌*◌, ◌%◌}
use mathlib.Core.Path.{ap}
use native.Mathlib.Omega.{arith}
use borrow.Author.Rules.{rules}
use Rattle.json_store.specs.Puts.{put_field, store}
use Rattle.json_store.proofs.Fields.{field_stored}
use Rattle.json_store.proofs.puts.put_field.Statement.{statement}
use Rattle.json_store.proofs.puts.put_field.Tie as tie

returns : tie.Need-returns
unfolding put_field
returns c =
    let b = c.before.before in
    let f = b.before in
    ap (store f.args.numbers.now) (field_stored f.args.numbers.now f.args.texts.now _ (179 + f.args.i % 32 * 38) (omega arith) _ _ _ f.low_at.ensures b.byte_at.ensures f.put_four.ensures c.copy_name.ensures)

pub put_field_spec : {M : Type 1} → statement M
put_field_spec =
    tie.close
    (tie.spec
    (λ c. search rules)
    (λ c. search rules)
    (λ c κs. search rules)
    (λ c κs. search rules)
    (λ c κs. search rules)
    (λ c. search rules)
    (λ c. search rules)
    (λ c. search rules)
    (λ c κs. search rules)
    returns)
