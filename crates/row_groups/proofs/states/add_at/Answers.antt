use Rattle.std.proofs.Common.{◌≡◌, [], map, set, sym, ap, ◌∙◌}
use Rattle.std.specs.Global.{Vec}
use Rattle.std.proofs.lemmas.List.{get_or-map, map-set}
use Rattle.row_groups.specs.Accumulators.{accumulator_of, states_of}
use Rattle.row_groups.specs.declared.accumulator.Accumulator.{Accumulator}
use Rattle.row_groups.proofs.states.add_at.Goals as goal

pub returns-clause-takes : goal.returns-clause-takes
returns-clause-takes c = λ rows had.
    let groups = c.args.groups.now.items in
    let place = c.args.place in
    let was = c.index_mut.result.now in
    let items = λ (states : Vec Accumulator). states.items in
    let same : was.items ≡ map (accumulator_of rows) c.args.aggs.now =
    ap items c.index_mut.ensures.value ∙ sym (get_or-map items groups place was [] c.requires) ∙ had in
    map-set items groups place c.add_row.new.states ∙ ap (set (states_of groups) place) (c.in_ok-add_row.ensures rows same)
