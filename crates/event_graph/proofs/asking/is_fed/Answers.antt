use Rattle.std.proofs.Common.{◌<◌, ℕ, length, sym, ◌∙◌, ap, subst, nat_eq}
use Rattle.reader_index.specs.Tasks.{missing}
use Rattle.event_graph.proofs.Asked.{is_fed_at, number_done, number_inside, number_placed}
use Rattle.event_graph.proofs.asking.is_fed.Goals as goal

pub number-task-requires-clause-vertex : goal.number-task-requires-clause-vertex
number-task-requires-clause-vertex c = number_placed c.args.vertices.now c.args.numbers.now c.requires.numbering c.args.sub c.requires.decided

pub number-task-requires-clause-inside : goal.number-task-requires-clause-inside
number-task-requires-clause-inside c = number_inside c.args.vertices.now c.args.numbers.now c.requires.numbering c.args.sub c.requires.decided

pub missing-requires : goal.missing-requires
missing-requires c =
    let done = number_done c.args.vertices.now c.args.numbers.now c.requires.numbering c.args.sub c.requires.decided in
    subst (λ (n : ℕ). n < length c.args.numbers.now.tasks.done) (sym c.number-task.ensures) done

pub returns : goal.returns
returns c =
    let numbering = c.args.numbers.now in
    ap (λ (n : ℕ). nat_eq n 0) (c.missing.ensures ∙ ap (missing numbering.tasks) c.number-task.ensures)
    ∙ sym (is_fed_at c.args.vertices.now numbering c.requires.numbering c.args.sub c.requires.decided)
