use Rattle.std.proofs.Common.{◌≡◌, ◌+◌, ◌<◌, List, [], ◌++◌, length, take, ap, sym, subst, ◌∙◌, arith}
use Rattle.std.proofs.lemmas.List.{get_or_read}
use Rattle.std.proofs.lemmas.Result.{err_from_is_err_and}
use Rattle.graph_model.specs.declared.event.Event.{Event}
use Rattle.job_events.specs.Replays.{IsReplay}
use Rattle.job_events.proofs.Leading.{fault_here, replay_more}
use Rattle.job_events.proofs.replaying.replay_blocks.Goals as goal

pub returns-in_err-more-clause-err : goal.returns-in_err-more-clause-err
returns-in_err-more-clause-err c =
    let lt : c.loop-number.number < length c.args.blocks.now = omega arith in
    let block = get_or_read c.args.blocks.now c.loop-number.number c.index-blocks-number.result lt c.index-blocks-number.is [] in
    let p = err_from_is_err_and c.from_residual.result c.from_residual.ensures.1 in
    rw (p.1, p.2) (fault_here c.args.blocks.now c.loop-number.number c.index-blocks-number.result c.loop-number.events.items c.loop-number.state _ lt block c.loop-number.invariant c.in_err-more.ensures.err)

pub loop-number-preserved : goal.loop-number-preserved
loop-number-preserved c =
    let lt : c.loop-number.number < length c.args.blocks.now = omega arith in
    let block = get_or_read c.args.blocks.now c.loop-number.number c.index-blocks-number.result lt c.index-blocks-number.is [] in
    let P : List Event → Type 0 = λ events. IsReplay (take (c.loop-number.number + 1) c.args.blocks.now) events c.in_ok-more.more.state in
    let items : c.append.new.self.items ≡ c.loop-number.events.items ++ c.in_ok-more.more.events = c.in_ok-append.ensures.items ∙ ap (λ (es : List Event). c.loop-number.events.items ++ es) c.into_vec.ensures in
    subst P (sym items) (replay_more c.args.blocks.now c.loop-number.number c.index-blocks-number.result c.loop-number.events.items c.in_ok-more.more.events c.loop-number.state c.in_ok-more.more.state lt block c.loop-number.invariant c.in_ok-more.ensures.spells c.in_ok-more.ensures.leads)
