use Rattle.std.proofs.Common.{arith}
use Rattle.race_words.proofs.Allowing.{may_observe, may_decide}
use Rattle.race_words.proofs.races.Races.finish.Goals as goal

pub load-requires : goal.load-requires
load-requires c =
    let races = c.args.self.now in
    (c.requires.seat, omega (arith, c.requires.lane, races.words), may_observe races.table.shared.key _ _ _ _)

pub compare_exchange-word-requires : goal.compare_exchange-word-requires
compare_exchange-word-requires c =
    let races = c.args.self.now in (
      c.requires.seat,
      omega (arith, c.requires.lane, races.words),
      may_decide races.table.shared.key _ _ _ _ c.args.round c.args.runner _ _ (omega (arith, c.requires.lane, races.key))
          (omega (arith, c.requires.runner)) c.undecided_word-open.ensures c.decided_word-won.ensures,
    )
