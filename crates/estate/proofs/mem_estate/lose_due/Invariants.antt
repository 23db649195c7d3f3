use Rattle.std.proofs.Common.{◌≤◌, take}
use Rattle.estate.specs.Calls.{LosesDue}
use Rattle.estate.specs.Pasts.{IsCounted}
use Rattle.estate.specs.Shelf.{held_in, LosesFrom}
use Rattle.estate.proofs.mem_estate.lose_due.Given as goal

abbrev pub invariant-loop-loss : goal.invariant-loop-loss
invariant-loop-loss l = record {
  loses : LosesFrom l.since l.initial.shelf.parts.items l.shelf.parts.items;
  later : l.initial.losses ≤ l.losses;
  lost : IsCounted l.initial.shelf.parts.items l.shelf.parts.items l.initial.losses l.losses;
  due : LosesDue (take l.loss-index l.losing) l.call (held_in l.initial.shelf.parts.items) (held_in l.shelf.parts.items);
}
