use Rattle.std.proofs.Common.{◌++◌, List, ℕ, [], take, get_or, sym, ap, ◌∙◌}
use Rattle.std.proofs.lemmas.List.{flat_map_more, take_more}
use Rattle.std.specs.List.{flat_map, filter}
use Rattle.bag_laws.specs.Rows.{OneRow as Row}
use Rattle.op_join.specs.Keys.{keys_match}
use Rattle.op_join.specs.Sides.{output}
use Rattle.op_join.proofs.probe.Probe.rows.Goals as goal

pub loop-row-preserved : goal.loop-row-preserved
loop-row-preserved c =
    let rows = c.args.rows.now in
    let i = c.loop-row.row-index in
    let own = c.args.self.now in
    let matched = λ (columns : List ℕ) (row : Row). filter (keys_match columns own.side.columns row) own.side.rows in
    let f = λ (row : Row). output own.rule own.padding row (matched own.columns.items row) in
    c.in_ok-emit.ensures
    ∙ (λ j. c.loop-row.invariant j ++ output own.rule own.padding c.row-item.result (c.matches_of-matches.ensures j))
    ∙ (λ j. flat_map f (take i rows) ++ output own.rule own.padding c.row-item.result (matched (c.as_slice.ensures.value j) c.row-item.result))
    ∙ (λ j. flat_map f (take i rows) ++ f (c.row-item.is j))
    ∙ flat_map_more f [] (take i rows) (get_or rows i c.row-item.result)
    ∙ ap (flat_map f) (sym (take_more rows i c.row-item.result c.loop-row-test.true))
