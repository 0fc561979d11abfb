-- The number is 13 or that of the checks, and the builder and the entry are those of the addition.
use Rattle.std.proofs.Common.{◌≡◌, ℕ, Bool, true, false, cond, refl, ◌∙◌, arith}
use Rattle.rules.specs.Replies.{commit_on_tag}
use Rattle.snapshot_updates.proofs.add_snapshot.Goals as goal

-- a number that is 0 is no 13
not_tagged : (t : Bool) (n : ℕ) → cond t commit_on_tag n ≡ 0 → n ≡ 0
not_tagged true n e = absurd (omega (arith, e))
not_tagged false n e = e

pub returns : goal.returns
returns c st e ids entry =
    let k = c.add_snapshot_number-fails.ensures st e ids entry in
    let q = c.choose-number.ensures in
    record {
      number = q ∙ rw k;
      logs = refl;
      grows = refl;
      builder = λ z. c.add_snapshot_builder.ensures c.args.tolerance.0 st e (rw k at (not_tagged c.args.on_tag c.add_snapshot_number-fails.result (rw q at z)));
      entry = c.addition.ensures c.requires.set_branch_snapshot_kind_value c.requires.u_value;
    }
