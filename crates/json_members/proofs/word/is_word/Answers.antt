-- The slots are compared, or the lengths decide.
use Rattle.std.proofs.Common.{ℕ, List, nat_eq, sym, ap, ◌∙◌, arith}
use Rattle.std.specs.Cmp.Lexicographic.{pointwise}
use borrow.Author.Tests.{ne_eqb}
use Rattle.primitives.proofs.Bytes.{unequal_lengths}
use Rattle.json_members.specs.Kept.{front}
use Rattle.json_members.proofs.Fronts.{front_length, front_whole, same_told}
use Rattle.json_members.proofs.word.is_word.Goals as goal

pub returns-then-len-word : goal.returns-then-len-word
returns-then-len-word c =
    let a = c.args in
    c.eq.ensures ∙ ap (λ (bs : List ℕ). pointwise nat_eq bs a.word.now) (front_whole a.len a.kept.now (omega arith)) ∙ same_told (front a.len a.kept.now) a.word.now

pub returns-else-len-word : goal.returns-else-len-word
returns-else-len-word c =
    let a = c.args in
    ne_eqb _ _ c.if-len-word.false ∙ sym (unequal_lengths (front a.len a.kept.now) a.word.now (λ e. c.if-len-word.false (sym (front_length a.len a.kept.now) ∙ e)))
