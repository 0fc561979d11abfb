-- A list is what has elements.
use Rattle.json_members.proofs.Tables.{is_list_at}
use borrow.Author.Rules.{rules}
use Rattle.json_members.proofs.spot.is_list.Statement.{statement}
use Rattle.json_members.proofs.spot.is_list.Tie as tie

pub is_list_spec : {M : Type 1} → statement M
is_list_spec = tie.close (tie.spec (λ c κs. search rules) (λ c. rw c.item_of.ensures (is_list_at c.args.spot)))
