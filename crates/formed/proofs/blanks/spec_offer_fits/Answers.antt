use Rattle.std.proofs.Common.{◌∙◌, ◌&&◌, pos}
use Rattle.rules.specs.Blanks.{is_zero, is_zero_z, is_tidy_offered_id, is_blank_offered_id, is_tidy_spec_offer, is_blank_spec_offer}
use Rattle.equality.proofs.Derived.{numbers}
use Rattle.formed.proofs.Unused.{slots_place}
use Rattle.formed.proofs.blanks.spec_offer_fits.Goals as goal

pub returns : goal.returns
unfolding is_tidy_spec_offer is_blank_spec_offer
returns c =
    let x = c.args.o in
    rw (c.eq.ensures ∙ numbers x.spec_id.0 (pos 0)) (slots_place c.args.used (is_zero_z x.spec_id.0 && is_zero x.at) (is_zero x.count) 8 x.count x.ids c.unused_from-from.ensures is_tidy_offered_id is_blank_offered_id c.slots_fit.ensures)
