use Rattle.std.proofs.Common.{refl, sym, ◌∙◌}
use Rattle.batch_words.proofs.Numerals.{parse-numeral}
use Rattle.batch_words.proofs.number.value_of.Goals as goal

pub unwrap-requires : goal.unwrap-requires
unwrap-requires c = rw (parse-numeral c.args.text.now c.parse.result c.parse.ensures.value.0 c.requires) refl

pub returns : goal.returns
returns c =
    let is = sym c.unwrap.ensures ∙ parse-numeral c.args.text.now c.parse.result c.parse.ensures.value.0 c.requires in
    cc
