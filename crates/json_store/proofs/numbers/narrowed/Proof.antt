-- Where it fits.
use borrow.Author.Rules.{sfits_of}
use mir.Facts.{to_z-of_z}
use mir.Syntax.{w64}
use mir.Val.{SFits}
use Rattle.json_store.proofs.Signed.{narrow_low, narrow_high, narrow_fits, narrow_same}
use Rattle.json_store.proofs.numbers.narrowed.Statement.{statement}
use Rattle.json_store.proofs.numbers.narrowed.Tie as tie

fits : (c : tie.After-struct_told-1) → SFits w64 c.args.whole.0
fits c = sfits_of c.struct_told-1.given.0.1

pub narrowed_spec : {M : Type 1} → statement M
narrowed_spec =
    tie.close
    (tie.spec
    (λ c. narrow_low _ (rw (to_z-of_z (fits c.before)) at c.if-n-ltminus2147483648.true))
    (λ c. narrow_high _ (rw (to_z-of_z (fits c.before.before)) at c.if-n-gt2147483647.true))
    (λ c. rw (to_z-of_z (fits c.before.before)) (narrow_fits _ (rw (to_z-of_z (fits c.before.before)) at c.if-n-ltminus2147483648.false) (rw (to_z-of_z (fits c.before.before)) at c.if-n-gt2147483647.false)))
    (λ c.
    let f = to_z-of_z (fits c.before.before) in
    let low = rw f at c.if-n-ltminus2147483648.false in
    let high = rw f at c.if-n-gt2147483647.false in
    rw (f, to_z-of_z (narrow_fits c.args.whole.0 low high)) (narrow_same _ low high)))
