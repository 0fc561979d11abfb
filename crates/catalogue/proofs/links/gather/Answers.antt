-- Nothing is linked at first.
use Rattle.catalogue.specs.Links.{gathered}
use Rattle.catalogue.proofs.links.gather.Goals as goal

pub loop-snapshot-init : goal.loop-snapshot-init
unfolding gathered
loop-snapshot-init c = rw c.none-links.ensures
