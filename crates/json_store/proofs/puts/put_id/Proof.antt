-- In its list.
use native.Mathlib.Omega.{arith}
use borrow.Author.Rules.{rules}
use Rattle.json_store.specs.Puts.{put_id}
use Rattle.json_store.proofs.Places.{ids_small}
use Rattle.json_store.proofs.puts.put_id.Statement.{statement}
use Rattle.json_store.proofs.puts.put_id.Tie as tie

pub put_id_spec : {M : Type 1} → statement M
unfolding put_id
put_id_spec =
    tie.close
    (tie.spec
    (λ c κs. search rules)
    (λ c. omega (arith, c.ids_at.ensures, ids_small c.args.item))
    (λ c κs. search rules)
    (λ c. rw (c.put.ensures, c.ids_at.ensures)))
