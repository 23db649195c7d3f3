use Rattle.std.proofs.Common.{ℕ, Some, true, sym, ◌∙◌, ap, subst}
use Rattle.graph_model.specs.Legal.{MayWin}
use Rattle.graph_model.specs.States.{put_winner}
use Rattle.graph_model.specs.declared.sub.Sub.{Sub}
use Rattle.reader_index.specs.Tasks.{with_done}
use Rattle.event_graph.specs.Graphs.{JobState}
use Rattle.event_graph.specs.Numbers.{Numbering, number_of}
use Rattle.event_graph.proofs.Jobs.{given_of, state_of}
use Rattle.event_graph.proofs.Keeping.{kept_won_as}
use Rattle.event_graph.proofs.event_graph.EventGraph.finished.Goals as goal

pub invariant_of-self-2 : goal.invariant_of-self-2
invariant_of-self-2 c =
    let g = c.self.inside in
    let name = c.args.name in
    let inputs = c.args.inputs.now in
    let sizes = c.args.sizes.now in
    let may : MayWin (given_of g) (state_of g) name inputs sizes =
    subst (λ (job : JobState). MayWin job.given job.state name inputs sizes) (sym c.self.view_is) (c.may_win.ensures.0 c.if-not-may_win.false) in
    let read = c.in_ok-copied_names.ensures in
    let written = c.in_ok-copied_sizes.ensures in
    let own = c.of-sub.ensures in
    let at : ℕ → Numbering = λ n. record g.numbers { tasks = with_done g.numbers.tasks n true } in
    kept_won_as (given_of g) (state_of g) g.numbers c.finish.new.self g.undecided name inputs sizes c.set_winner.new.self c.push_name.new.names.items c.self.invariant may
    (c.set_winner.ensures ∙ (λ i. put_winner g.vertices (own i) (Some (record { name = name; inputs = read i; sizes = written i }))))
    c.in_ok-push_name.ensures.ok
    (c.finish.ensures ∙ ap at (c.number-number.ensures ∙ ap (λ (s : Sub). number_of g.numbers s) own))
