use Rattle.std.proofs.Common.{ℕ, List, [], take, get_or, sym, subst}
use Rattle.std.proofs.lemmas.List.{take_more}
use Rattle.estate.specs.declared.part_name.PartName.{PartName}
use Rattle.region_closure.specs.Closing.{AreGone}
use Rattle.region_closure.proofs.Losing.{none_gone}
use Rattle.region_closure.proofs.Noting.{gone_noted, has_number, has_place, no_name}
use Rattle.region_closure.proofs.lost.lost_numbers.Goals as goal

pub loop-place-init : goal.loop-place-init
loop-place-init c = subst (λ (l : List ℕ). AreGone c.args.vertices.now [] c.args.subs.now l) (sym c.new-lost.ensures.items) (none_gone c.args.vertices.now c.args.subs.now)

pub note_lost-requires-clause-placed : goal.note_lost-requires-clause-placed
note_lost-requires-clause-placed c =
    let name : PartName = get_or c.args.gone.now c.loop-place.place no_name in
    has_place c.args.vertices.now c.args.places.now c.args.subs.now c.requires.placed name

pub note_lost-requires-clause-numbered : goal.note_lost-requires-clause-numbered
note_lost-requires-clause-numbered c =
    let name : PartName = get_or c.args.gone.now c.loop-place.place no_name in
    has_number c.args.vertices.now c.args.places.now c.args.subs.now c.requires.placed name

pub loop-place-preserved : goal.loop-place-preserved
loop-place-preserved c =
    let vs = c.args.vertices.now in
    let places = c.args.places.now in
    let subs = c.args.subs.now in
    let gone = c.args.gone.now in
    let k = c.loop-place.place in
    let lost = c.loop-place.lost.items in
    let new = c.note_lost.new.lost.items in
    let name : PartName = get_or gone k no_name in
    subst (λ (l : List PartName). AreGone vs l subs new) (sym (take_more gone k no_name c.loop-place-test.true))
    (gone_noted vs places subs c.requires.placed name c.requires.own (take k gone) lost new c.loop-place.invariant c.in_ok-note_lost.ensures)
