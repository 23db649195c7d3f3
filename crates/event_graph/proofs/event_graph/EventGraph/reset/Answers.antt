use Rattle.std.proofs.Common.{◌<◌, List, length, sym, subst, arith}
use Rattle.std.proofs.lemmas.Bool.Decides.{nat_tests}
use Rattle.graph_model.specs.declared.made_vertex.MadeVertex.{MadeVertex}
use Rattle.graph_model.specs.Closures.{IsClosure}
use Rattle.graph_model.specs.Legal.{IsOpen}
use Rattle.graph_model.specs.States.{without_winners}
use Rattle.event_graph.specs.Graphs.{JobState}
use Rattle.event_graph.specs.Kept.{IsKept}
use Rattle.event_graph.specs.Numbers.{IsNumbering}
use Rattle.event_graph.proofs.Jobs.{given_of, state_of}
use Rattle.event_graph.proofs.Keeping.{kept_reset}
use Rattle.event_graph.proofs.event_graph.EventGraph.reset.Goals as goal

pub invariant_of-self : goal.invariant_of-self
invariant_of-self c =
    let g = c.self.inside in
    let gone = c.args.gone.now in
    let subs = c.as_slice-subs.result.now in
    let running : IsOpen (given_of g) (state_of g) =
    subst (λ (job : JobState). IsOpen job.given job.state) (sym c.self.view_is) (c.is_open.ensures.running.0 c.if-not-is_open.false) in
    let closure : IsClosure g.vertices gone subs =
    subst (λ (job : JobState). IsClosure job.state.vertices gone subs) (sym c.self.view_is) (c.in_ok-is_closure.ensures.0 c.if-not-branch.false) in
    let empty = c.is_empty.ensures in
    let full = c.if-is_empty.false in
    let some : 0 < length subs = grind (arith, nat_tests) in
    let numbered : IsNumbering (without_winners g.vertices subs) c.reopen_all.new.numbers =
    subst (λ (us : List MadeVertex). IsNumbering us c.reopen_all.new.numbers) c.reopen_all.ensures.winners c.reopen_all.ensures.numbering in
    subst (λ (us : List MadeVertex). IsKept (given_of g) (record (state_of g) { vertices = us }) c.reopen_all.new.numbers g.undecided) (sym c.reopen_all.ensures.winners)
    (kept_reset (given_of g) (state_of g) g.numbers c.reopen_all.new.numbers g.undecided gone subs c.self.invariant (record { running = running; some = some; closure = closure }) numbered)
