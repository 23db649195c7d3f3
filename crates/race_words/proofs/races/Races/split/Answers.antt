use Rattle.std.proofs.Common.{arith}
use Rattle.race_words.proofs.Allowing.{may_split}
use Rattle.race_words.proofs.races.Races.split.Goals as goal

pub split_seat-requires : goal.split_seat-requires
split_seat-requires c =
    let races = c.args.self.now in
    (c.requires, omega (arith, races.words, races.some), may_split races.table.shared.key _ _)
