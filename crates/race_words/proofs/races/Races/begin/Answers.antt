use Rattle.std.proofs.Common.{arith, ap, ◌∙◌}
use Rattle.std.specs.Prelude.{slice_index}
use Rattle.race_words.specs.declared.view.View.{View}
use Rattle.race_words.proofs.Allowing.{may_read_round, may_begin}
use Rattle.race_words.proofs.races.Races.begin.Goals as goal

pub load-word-requires : goal.load-word-requires
load-word-requires c =
    let races = c.args.self.now in
    (c.requires.seat, omega (arith, c.requires.lane, races.words), may_read_round races.table.shared.key _ _ _ _)

pub swap-requires : goal.swap-requires
swap-requires c =
    let races = c.args.self.now in
    let found = c.load-word.ensures in
    let same_view = found.2.0 in (
      found.0 ∙ c.requires.seat,
      omega (arith, c.requires.lane, races.words),
      may_begin races.table.shared.key _ _ _ _ _ _ (omega (arith, c.requires.lane, races.key))
          (ap (λ (v : View). v.is_master) same_view ∙ c.requires.master)
          (omega (arith, ap (λ (v : View). slice_index v.rounds c.args.lane) same_view, found.2.2 c.requires.master, c.round_of-round.ensures)) c.undecided_word.ensures,
    )
