-- From version 2 on.
use mathlib.Core.Path.{◌∙◌}
use borrow.Author.Rules.{rules, sfits_of}
use borrow.Author.Tests.{lt-ltb, le-ltb}
use mir.Syntax.{w64}
use mir.Facts.{to_z-of_z}
use Rattle.file_records.proofs.fields.last_sequence.Statement.{statement}
use Rattle.file_records.proofs.fields.last_sequence.Tie as tie

pub last_sequence_spec : {M : Type 1} → statement M
last_sequence_spec =
    tie.close
    (tie.spec
    (λ c κs. search rules)
    (λ c. rw (lt-ltb 1 _ c.if-version-gt1.true) (to_z-of_z {w = w64} (sfits_of c.struct_told-1.given.0.1) ∙ c.number-z.ensures))
    (λ c. rw (le-ltb 1 _ c.if-version-gt1.false)))
