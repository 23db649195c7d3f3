use Rattle.std.proofs.Common.{List, None, take, get_or, sym, ◌∙◌, ap}
use Rattle.std.proofs.lemmas.List.{take_all, take_more}
use Rattle.graph_model.specs.declared.made_vertex.MadeVertex.{MadeVertex}
use Rattle.graph_model.specs.Indexes.{no_sub}
use Rattle.graph_model.specs.States.{is_finished, put_winner, without_winners}
use Rattle.event_graph.proofs.Reopened.{still_finished, without_push}
use Rattle.event_graph.proofs.reopening.reopen_all.Goals as goal

pub reopen-requires-clause-finished : goal.reopen-requires-clause-finished
reopen-requires-clause-finished c =
    let vs = c.args.vertices.now in
    let subs = c.args.subs.now in
    let place = c.loop-place.place in
    let sub = get_or subs place no_sub in
    ap (λ (us : List MadeVertex). is_finished us sub) c.loop-place.invariant.winners
    ∙ still_finished vs subs place c.requires.ascending c.loop-place-test.true ∙ c.requires.finished place no_sub c.loop-place-test.true

pub loop-place-preserved : goal.loop-place-preserved
loop-place-preserved c =
    let vs = c.args.vertices.now in
    let subs = c.args.subs.now in
    let place = c.loop-place.place in
    let sub = get_or subs place no_sub in
    record {
      winners = c.reopen.ensures.winners ∙ ap (λ (us : List MadeVertex). put_winner us sub None) c.loop-place.invariant.winners
          ∙ sym (ap (without_winners vs) (take_more subs place no_sub c.loop-place-test.true) ∙ without_push vs (take place subs) sub);
      numbering = c.reopen.ensures.numbering;
    }

pub returns-clause-winners : goal.returns-clause-winners
returns-clause-winners c = c.loop-place.invariant.winners ∙ ap (without_winners c.args.vertices.now) (take_all c.loop-place.place c.args.subs.now c.loop-place-test.false)
