-- Each choice and each test is by its contract.
use borrow.Author.Rules.{rules}
use Rattle.ref_updates.proofs.set_ref_number.Statement.{statement}
use Rattle.ref_updates.proofs.set_ref_number.Tie as tie

pub set_ref_number_spec : {M : Type 1} → statement M
set_ref_number_spec =
    tie.close
    (tie.spec
    (λ c κs. search rules)
    (λ c κs. search rules)
    (λ c κs. search rules)
    (λ c κs. search rules)
    (λ c κs. search rules)
    (λ c. rw (c.choose.ensures, c.choose-m19.ensures, c.choose-n19.ensures, c.is_full-refs_full.ensures, c.is_full-log_full.ensures)))
