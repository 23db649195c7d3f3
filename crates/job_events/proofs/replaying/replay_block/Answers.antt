use Rattle.std.proofs.Common.{rules, List, refl, sym, subst, arith}
use Rattle.std.proofs.lemmas.Grind.{common_steps}
use Rattle.event_codec.specs.Spelling.{event_bytes, EventFits}
use Rattle.graph_model.specs.declared.event.Event.{Event}
use Rattle.row_core.specs.Decoding.{Begins}
use Rattle.job_events.specs.Logs.{LeadsTo}
use Rattle.job_events.proofs.Leading.{leads_more, none_legal}
use Rattle.job_events.proofs.replaying.replay_block.Goals as goal

pub returns-in_default-2-clause-err : goal.returns-in_default-2-clause-err
returns-in_default-2-clause-err c =
    let here : Begins event_bytes EventFits c.loop-rest.rest.now c.in-Some.event c.in-Some.after.now = search rules in
    let none = rw c.in_default-2.is at c.in_ok-next.ensures in (
      refl,
      record {
        events = c.loop-rest.events.items;
        number = search rules;
        rest = c.loop-rest.rest.now;
        front = c.loop-rest.invariant.front;
        more = search rules;
        state = c.loop-rest.state;
        leads = c.loop-rest.invariant.leads;
        none = none_legal c.loop-rest.state c.loop-rest.rest.now c.in-Some.event c.in-Some.after.now here none;
      },
    )

pub loop-rest-preserved : goal.loop-rest-preserved
loop-rest-preserved c =
    let P : List Event → Type 0 = λ events. LeadsTo c.args.before events c.in-Some-2.next in
    let is = rw c.in-Some-2.is at c.in_ok-next.ensures in
    record {
      front = grind (arith, common_steps);
      leads = subst P (sym c.in_ok-push.ensures.items) (leads_more c.args.before c.loop-rest.state c.in-Some-2.next c.loop-rest.events.items c.in-Some.event c.loop-rest.invariant.leads is);
    }
