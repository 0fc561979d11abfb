-- What is trimmed are the bytes that the text's length counts, and they fit.
use Rattle.std.proofs.Common.{◌≡◌, length, ap, sym, ◌∙◌, arith, rules}
use Rattle.rules.specs.Layout.{read_text, laid_text}
use Rattle.rules.specs.Names.{trimmed}
use Rattle.rules.proofs.Slots.Relaid.{counted_take}
use Rattle.builder.proofs.Texts.{trimmed_fits}
use Rattle.builder.proofs.text.trimmed.Goals as goal

pub text_of-requires : goal.text_of-requires
unfolding laid_text
text_of-requires c =
    let k : length c.args.text.bytes ≡ 96 = search rules in
    let e : c.trim.result.now ≡ trimmed (read_text c.args.text) = c.trim.ensures.bytes ∙ ap trimmed (sym (counted_take 0 c.args.text.bytes c.args.text.len (omega (arith, c.requires)))) in
    rw e (trimmed_fits c.args.text c.requires)
