use Rattle.std.proofs.Common.{◌≡◌, ℕ, length, subst, arith}
use Rattle.graph_model.specs.States.{subtasks_at}
use Rattle.recover_core.specs.Gone.{GoneBefore}
use Rattle.recover_core.proofs.Marking.{gone_more, gone_vertex}
use Rattle.recover_core.proofs.gone.gather.Goals as goal

pub loop-subtask-preserved : goal.loop-subtask-preserved
loop-subtask-preserved c =
    gone_more c.args.vertices.now c.args.numbers.now c.args.held.now c.requires.own c.args.vertex c.loop-subtask.subtask c.loop-subtask.gone.items c.note_gone.new.gone.items c.loop-subtask.invariant c.in_ok-note_gone.ensures

pub returns : goal.returns
returns c =
    let all : c.loop-subtask.subtask ≡ length (subtasks_at c.args.vertices.now c.args.vertex) = omega (arith, c.parallelism-subtask-end.ensures.count) in
    gone_vertex c.args.vertices.now c.args.numbers.now c.args.held.now c.requires.own c.args.vertex c.loop-subtask.gone.items
    (subst (λ (k : ℕ). GoneBefore c.args.vertices.now c.args.numbers.now c.args.held.now (record { vertex = c.args.vertex; subtask = k }) c.loop-subtask.gone.items) all c.loop-subtask.invariant)
