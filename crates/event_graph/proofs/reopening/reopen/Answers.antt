use Rattle.std.proofs.Common.{◌<◌, ℕ, List, false, None, length, sym, ◌∙◌, ap, subst, arith}
use Rattle.graph_model.specs.declared.made_vertex.MadeVertex.{MadeVertex}
use Rattle.graph_model.specs.States.{put_winner}
use Rattle.graph_model.proofs.Laws.{in_range}
use Rattle.reader_index.specs.Tasks.{is_done, with_done}
use Rattle.event_graph.specs.Numbers.{IsNumbering, Numbering}
use Rattle.event_graph.proofs.Asked.{done_is, number_done, number_inside, number_placed}
use Rattle.event_graph.proofs.Numbering.{numbering_put}
use Rattle.event_graph.proofs.Reopened.{finished_decided}
use Rattle.event_graph.proofs.reopening.reopen.Goals as goal

pub number-task-requires-clause-vertex : goal.number-task-requires-clause-vertex
number-task-requires-clause-vertex c =
    let vs = c.args.vertices.now in
    number_placed vs c.args.numbers.now c.requires.numbering c.args.sub (finished_decided vs c.args.sub c.requires.finished)

pub number-task-requires-clause-inside : goal.number-task-requires-clause-inside
number-task-requires-clause-inside c =
    let vs = c.args.vertices.now in
    number_inside vs c.args.numbers.now c.requires.numbering c.args.sub (finished_decided vs c.args.sub c.requires.finished)

pub reopen-requires-clause-inside : goal.reopen-requires-clause-inside
reopen-requires-clause-inside c =
    let vs = c.args.vertices.now in
    let done = number_done vs c.args.numbers.now c.requires.numbering c.args.sub (finished_decided vs c.args.sub c.requires.finished) in
    subst (λ (n : ℕ). n < length c.args.numbers.now.tasks.done) (sym c.number-task.ensures) done

pub reopen-requires-clause-won : goal.reopen-requires-clause-won
reopen-requires-clause-won c =
    let vs = c.args.vertices.now in
    ap (is_done c.args.numbers.now.tasks.done) c.number-task.ensures
    ∙ done_is vs c.args.numbers.now c.requires.numbering c.args.sub (finished_decided vs c.args.sub c.requires.finished) ∙ c.requires.finished

pub set_winner-requires-clause-vertex : goal.set_winner-requires-clause-vertex
set_winner-requires-clause-vertex c =
    let vs = c.args.vertices.now in
    let decided = finished_decided vs c.args.sub c.requires.finished in
    in_range vs c.args.sub.vertex (omega (arith, decided))

pub set_winner-requires-clause-subtask : goal.set_winner-requires-clause-subtask
set_winner-requires-clause-subtask c = finished_decided c.args.vertices.now c.args.sub c.requires.finished

pub returns-clause-numbering : goal.returns-clause-numbering
returns-clause-numbering c =
    let vs = c.args.vertices.now in
    let numbering = c.args.numbers.now in
    let sub = c.args.sub in
    let at : ℕ → Numbering = λ n. record numbering { tasks = with_done numbering.tasks n false } in
    let us = put_winner vs sub None in
    let next = numbering_put vs numbering sub None c.requires.numbering (finished_decided vs sub c.requires.finished) in
    subst (λ (us : List MadeVertex). IsNumbering us c.reopen.new.self) (sym c.set_winner.ensures)
    (subst (λ (n : Numbering). IsNumbering us n) (sym (c.reopen.ensures ∙ ap at c.number-task.ensures)) next)
