use Rattle.std.proofs.Common.{◌≡◌, ◌<◌, ◌++◌, [], List, length, map, get_or, sym, ap, subst, ◌∙◌, arith}
use Rattle.std.specs.Global.{Vec}
use Rattle.std.specs.List.{AllByRecursion}
use Rattle.std.proofs.lemmas.List.{get_or-map, length-map}
use Rattle.row_core.specs.Encoding.{TextFits}
use Rattle.row_groups.specs.Accumulators.{finish, states_of}
use Rattle.row_groups.specs.Written.{group_bytes}
use Rattle.row_groups.specs.declared.accumulator.Accumulator.{Accumulator}
use Rattle.row_groups.proofs.Writing.{all_written, group_more}
use Rattle.row_groups.proofs.written.write_groups.Goals as goal

pub put_group-requires : goal.put_group-requires
put_group-requires c =
    let groups = c.args.groups.now in
    let place = c.loop-place.place in
    let lt : place < length groups = omega (arith, c.requires.told) in
    let long = length-map groups (λ (states : Vec Accumulator). states.items) in
    let fit = c.requires.texts place [] (omega (arith, long, lt)) in
    subst (λ (states : List Accumulator). AllByRecursion TextFits (map finish states))
    (get_or-map (λ (states : Vec Accumulator). states.items) groups place c.index-groups-place.result [] lt ∙ ap (λ (states : Vec Accumulator). states.items) (sym c.index-groups-place.is) ∙ sym c.as_slice.ensures.value) fit

pub loop-place-preserved : goal.loop-place-preserved
loop-place-preserved c =
    let groups = c.args.groups.now in
    let keys = c.args.keys.now in
    let place = c.loop-place.place in
    let in_keys : place < length keys = omega arith in
    let lt : place < length groups = omega (arith, c.requires.told) in
    let long = length-map groups (λ (states : Vec Accumulator). states.items) in
    let states : c.as_slice.result.now ≡ get_or (states_of groups) place [] =
    c.as_slice.ensures.value ∙ ap (λ (states : Vec Accumulator). states.items) c.index-groups-place.is ∙ sym (get_or-map (λ (states : Vec Accumulator). states.items) groups place c.index-groups-place.result [] lt) in
    c.in_ok-put_group.ensures
    ∙ (λ i. c.loop-place.invariant i ++ group_bytes c.args.width (c.get.ensures i) (states i))
    ∙ sym (group_more c.args.width keys (states_of groups) place in_keys (omega (arith, long, lt)))

pub returns : goal.returns
returns c = c.loop-place.invariant ∙ all_written c.args.width c.args.keys.now (states_of c.args.groups.now) c.loop-place.place (omega arith)
