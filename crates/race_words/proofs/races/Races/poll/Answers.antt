use Rattle.std.proofs.Common.{arith}
use Rattle.race_words.proofs.Allowing.{may_observe}
use Rattle.race_words.proofs.races.Races.poll.Goals as goal

pub load-word-requires : goal.load-word-requires
load-word-requires c =
    let races = c.args.self.now in
    (c.requires.seat, omega (arith, c.requires.lane, races.words), may_observe races.table.shared.key _ _ _ _)
