-- A name of the record, where the version publishes it.
use Prim.Native.Nat.{ℕ}
use mathlib.Core.Path.{◌≡◌, sym, ◌∙◌}
use mathlib.Core.Bool.{Bool, true, false, cond}
use mathlib.Core.List.{List}
use mathlib.Core.Option.{some}
use borrow.Author.Rules.{rules}
use borrow.Author.Tests.{eq-eqb, ne_eqb}
use Rattle.rules.specs.Words.{is_some}
use Rattle.file_members.specs.Standings.{published_at}
use Rattle.file_cells.specs.Wants.{spot_by}
use Rattle.file_members.specs.Names.{named_in}
use Rattle.file_members.proofs.Names.{spot_named}
use Rattle.file_members.proofs.name.member.Statement.{statement}
use Rattle.file_members.proofs.name.member.Tie as tie

there : (version kind : ℕ) (text : List ℕ) {spot : ℕ} (is : Bool) → spot ≡ named_in kind text → is_some (published_at version spot) ≡ is → cond is spot 0 ≡ spot_by version kind (some text)
there version kind text is e h = sym (spot_named version kind text ∙ rw (← e, h))

pub member_spec : {M : Type 1} → statement M
member_spec =
    tie.close
    (tie.spec
    (λ c. rw (eq-eqb _ _ c.if-len-eq-LONE.true))
    (λ c κs. search rules)
    (λ c κs. search rules)
    (λ c. rw (ne_eqb _ _ c.if-len-eq-LONE.false) (there _ _ _ true c.named-spot.ensures (sym c.is_published.ensures ∙ c.if-is_published.true)))
    (λ c. rw (ne_eqb _ _ c.if-len-eq-LONE.false) (there _ _ _ false c.named-spot.ensures (sym c.is_published.ensures ∙ c.if-is_published.false))))
