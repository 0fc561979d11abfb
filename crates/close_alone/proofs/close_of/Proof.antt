-- A close is made only of metadata from which a run may start.
use mathlib.Core.Path.{refl, sym, ◌∙◌}
use borrow.Author.Rules.{rules}
use Rattle.records.specs.Blanks.{no_updates}
use Rattle.rules.specs.Run.{list_sum}
use Rattle.rules.specs.Kinds.{read_updates}
use Rattle.close_alone.proofs.close_of.Statement.{statement}
use Rattle.close_alone.proofs.close_of.Tie as tie

close_times_requires : tie.Need-close_times-requires
unfolding no_updates read_updates list_sum
close_times_requires c κs = let m = c.args.m in sym (c.start_number-number.ensures m no_updates c.is_formed.ensures refl (λ h. refl)) ∙ c.if-number-ne-ACCEPTED.false

pub close_of_spec : {M : Type 1} → statement M
close_of_spec = tie.close (tie.spec (λ c κs. search rules) (λ c κs. search rules) (λ c κs. search rules) (λ c. search rules) close_times_requires (λ c. search rules))
