use Rattle.std.proofs.Common.{◌≡◌, drop}
use Rattle.rules.specs.Words.{any}
use Rattle.rules.specs.Others.{is_others_ref}
use Rattle.rules.specs.Layout.{read_ref}
use Rattle.offices.proofs.is_shared.Given as goal

abbrev pub invariant-loop-held : goal.invariant-loop-held
invariant-loop-held l = any (λ x. is_others_ref l.office (read_ref x)) l.held-items ≡ any (λ x. is_others_ref l.office (read_ref x)) (drop l.held-index l.held-items)
