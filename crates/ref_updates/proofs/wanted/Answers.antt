-- Each arm gives what the rule gives there.
use borrow.Author.Tests.{eq-eqb, ne_eqb}
use Rattle.ref_updates.specs.Refs.{wanted_ref}
use Rattle.ref_updates.proofs.wanted.Goals as goal

pub returns-then-u-eq-SET_REF : goal.returns-then-u-eq-SET_REF
unfolding wanted_ref
returns-then-u-eq-SET_REF c = rw (eq-eqb _ _ c.if-u-eq-SET_REF.true)

pub returns-then-held : goal.returns-then-held
unfolding wanted_ref
returns-then-held c = rw (ne_eqb _ _ c.if-u-eq-SET_REF.false, c.if-held.true)

pub returns : goal.returns
unfolding wanted_ref
returns c = rw (ne_eqb _ _ c.if-u-eq-SET_REF.false, c.if-held.false, c.blank-branch.ensures)
