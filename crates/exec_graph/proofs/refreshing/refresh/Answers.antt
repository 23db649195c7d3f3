use Rattle.std.proofs.Common.{◌+◌, Bool, List, take, sym, ◌∙◌, ap, subst, arith}
use Rattle.graph_model.specs.Indexes.{no_sub, sub_at}
use Rattle.ready_subtasks.specs.Marks.{put_mark}
use Rattle.ready_subtasks.specs.Touches.{IsRefreshed}
use Rattle.ready_subtasks.proofs.Laws.{group_within}
use Rattle.exec_graph.proofs.Refreshed.{next_marked, refreshed_step}
use Rattle.exec_graph.proofs.refreshing.refresh.Goals as goal

pub is_ready-requires : goal.is_ready-requires
is_ready-requires c = c.requires.decided c.loop-place.place no_sub c.loop-place-test.true

pub set-requires-clause-subtask : goal.set-requires-clause-subtask
set-requires-clause-subtask c =
    next_marked c.args.job.now.state.vertices c.args.attempts.now c.args.subs.now c.loop-place.place c.args.ready.now c.loop-place.ready
    c.requires.decided c.requires.marked c.loop-place-test.true c.loop-place.invariant

pub set-requires-clause-vertex : goal.set-requires-clause-vertex
set-requires-clause-vertex c =
    let long = next_marked c.args.job.now.state.vertices c.args.attempts.now c.args.subs.now c.loop-place.place c.args.ready.now c.loop-place.ready
    c.requires.decided c.requires.marked c.loop-place-test.true c.loop-place.invariant in
    group_within c.loop-place.ready (sub_at c.args.subs.now c.loop-place.place).vertex (omega (arith, long))

pub loop-place-preserved : goal.loop-place-preserved
loop-place-preserved c =
    let vs = c.args.job.now.state.vertices in
    let attempts = c.args.attempts.now in
    let subs = c.args.subs.now in
    let place = c.loop-place.place in
    let now = c.loop-place.ready in
    subst (λ (new : List (List Bool)). IsRefreshed vs attempts (take (place + 1) subs) c.args.ready.now new)
    (sym (c.set.ensures ∙ ap (put_mark now (sub_at subs place)) c.is_ready.ensures))
    (refreshed_step vs attempts subs place c.args.ready.now now c.requires.decided c.requires.marked c.loop-place-test.true c.loop-place.invariant)
