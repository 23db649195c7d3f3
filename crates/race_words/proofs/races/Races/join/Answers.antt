use Rattle.std.proofs.Common.{arith, ◌∙◌}
use Rattle.race_words.proofs.Allowing.{may_compare, may_join}
use Rattle.race_words.proofs.races.Races.join.Goals as goal

pub join_seat-requires : goal.join_seat-requires
join_seat-requires c =
    let races = c.args.self.now in
    (c.requires.seat, c.requires.other, c.args.other.no_slot, omega (arith, races.words, races.some), may_join races.table.shared.key _ _ _ _)

pub load-requires : goal.load-requires
load-requires c =
    let races = c.args.self.now in
    (c.join_seat.ensures.0 ∙ c.requires.seat, omega (arith, races.words, races.some), may_compare races.table.shared.key _ _ _ _)
