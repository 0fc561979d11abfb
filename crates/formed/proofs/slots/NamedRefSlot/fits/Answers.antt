use Rattle.rules.specs.Blanks.{is_tidy_ref, is_blank_ref}
use Rattle.rules.proofs.Slots.Relaid.{length_counted}
use Rattle.formed.proofs.slots.NamedRefSlot.fits.Goals as goal

pub returns-then-is_used : goal.returns-then-is_used
unfolding is_tidy_ref
returns-then-is_used c =
    let n = c.args.self.now.name in
    rw (c.if-is_used.true, c.name_fits.ensures, c.reference_fits.ensures, c.reference_formed.ensures, c.owner_formed.ensures, length_counted 0 n.bytes n.len)

pub returns : goal.returns
unfolding is_blank_ref
returns c = rw (c.if-is_used.false, c.name_fits-2.ensures, c.reference_fits-2.ensures)
