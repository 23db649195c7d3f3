use Rattle.std.proofs.Common.{List, [], ◌∷◌, ◌++◌, take, sym, subst}
use Rattle.std.proofs.lemmas.List.{take_more}
use Rattle.graph_model.specs.declared.sub.Sub.{Sub}
use Rattle.graph_model.specs.Indexes.{no_sub, sub_at}
use Rattle.ready_subtasks.specs.Touches.{AreTouched}
use Rattle.exec_graph.proofs.Readers.{touched_both, touched_nothing}
use Rattle.exec_graph.proofs.touching.touched_by_all.Goals as goal

pub loop-place-init : goal.loop-place-init
loop-place-init c = subst (λ (l : List Sub). AreTouched c.args.job.now.state.vertices [] l) (sym c.new-touched.ensures.items) (touched_nothing c.args.job.now.state.vertices)

pub loop-place-preserved : goal.loop-place-preserved
loop-place-preserved c =
    let vs = c.args.job.now.state.vertices in
    let subs = c.args.subs.now in
    let k = c.loop-place.place in
    let both = touched_both vs (take k subs) (sub_at subs k ∷ []) c.loop-place.touched.items c.in_ok-more.more.items c.loop-place.invariant c.in_ok-more.ensures in
    subst (λ (l : List Sub). AreTouched vs l c.append.new.subs.items) (sym (take_more subs k no_sub c.loop-place-test.true))
    (subst (λ (l : List Sub). AreTouched vs (take k subs ++ sub_at subs k ∷ []) l) (sym c.in_ok-append.ensures) both)
