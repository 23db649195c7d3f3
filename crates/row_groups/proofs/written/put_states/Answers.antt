use Rattle.std.proofs.Common.{◌<◌, length, map, get_or, sym, ap, subst, ◌∙◌, arith}
use Rattle.std.proofs.lemmas.List.{get_or-map, length-map}
use Rattle.std.proofs.lemmas.List.Elements.{All-from_recursion}
use Rattle.row_core.specs.Encoding.{TextFits}
use Rattle.row_core.specs.declared.value.Value.TheVariants.{Null}
use Rattle.row_groups.specs.Accumulators.{finish}
use Rattle.row_groups.proofs.written.put_states.Goals as goal

pub put_value-requires : goal.put_value-requires
put_value-requires c =
    let states = c.args.states.now in
    let i = c.loop-state.state-index in
    let state = c.state-item.result in
    let lt : i < length states = c.loop-state-test.true in
    let fit : TextFits (get_or (map finish states) i Null) = All-from_recursion TextFits (map finish states) c.requires i Null (omega (arith, length-map states finish, lt)) in
    subst TextFits (get_or-map finish states i state Null lt ∙ ap finish (sym c.state-item.is) ∙ sym c.finish.ensures) fit
