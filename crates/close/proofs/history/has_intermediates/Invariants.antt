use Rattle.std.proofs.Common.{◌≡◌, drop}
use Rattle.rules.specs.Words.{any}
use Rattle.rules.specs.Layout.{read_fields}
use Rattle.close.specs.Facts.{is_superseded}
use Rattle.close.proofs.history.has_intermediates.Given as goal

abbrev pub invariant-loop-id : goal.invariant-loop-id
invariant-loop-id l = any (is_superseded l.added (read_fields l.f).current) l.mains ≡ any (is_superseded l.added (read_fields l.f).current) (drop l.id-index l.mains)
