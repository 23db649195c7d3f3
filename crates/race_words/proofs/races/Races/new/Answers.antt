use Rattle.std.proofs.Common.{◌≡◌, rules, replicate}
use Rattle.race_words.proofs.Allowing.{may_open}
use Rattle.race_words.proofs.races.Races.new.Goals as goal

pub of_words-requires : goal.of_words-requires
of_words-requires c =
    let zeros : c.as_slice.result.now ≡ replicate c.from.result 0 = search rules in
    may_open (Unit {0}) c.from.result c.as_slice.result.now zeros
