-- What the winners of sound events have.
use Rattle.std.proofs.Common.{List, [], ◌∷◌}
use Rattle.estate.specs.Holding.{StoredPart}
use Rattle.estate.specs.declared.commit.Commit.{Commit}
use Rattle.graph_model.specs.declared.event.Event.{Event}
use Rattle.graph_model.specs.declared.event.Event.TheVariants.{Opened, Started, Made, Widened, Decided, Done, Reset, Trouble, Ended}
use Rattle.graph_model.specs.Legal.{after}
use Rattle.graph_model.specs.States.{State, started}
use Rattle.plan_composition.specs.Results.{IsRun, TextLaw}
use Rattle.plan_composition.specs.Tasks.{IsTrueEvent as IsTruly, AreTrue as AreTruly}
use Rattle.job_soundness.specs.Jobs.{Files, IsOver, Job}
use Rattle.job_soundness.specs.Laws.{SinksLaw}
use Rattle.job_soundness.specs.Sound.{AreRight}
use Rattle.job_soundness.specs.Starts.{graph_events}
use Rattle.job_soundness.specs.Truth.{AreTrue, IsTrueEvent, stored_in}

truly : (job : Job) (files : Files) (ever : List StoredPart) (state : State) (event : Event) → IsTrueEvent job files ever state event → IsTruly job.given (stored_in files ever) state event
truly job files ever state (Opened epoch) is = tt
truly job files ever state (Started text sizes) is = tt
truly job files ever state (Made vertex nodes) is = tt
truly job files ever state (Widened node side) is = tt
truly job files ever state (Decided vertex decision) is = tt
truly job files ever state (Done name inputs sizes) is = is.may
truly job files ever state (Reset gone subs) is = tt
truly job files ever state (Trouble cause) is = tt
truly job files ever state (Ended failed) is = tt

all_truly : (job : Job) (files : Files) (ever : List StoredPart) (state : State) (events : List Event) → AreTrue job files ever state events → AreTruly job.given (stored_in files ever) state events
all_truly job files ever state [] are = tt
all_truly job files ever state (event ∷ events) (is, are) = (truly job files ever state event is, all_truly job files ever (after job.given state event) events are)

-- right events are those of an execution
pub is_run : (job : Job) (files : Files) (events : List Event) (ever : List StoredPart) (commits : List Commit) → IsOver job files → AreRight job files events ever commits → IsRun job.given (stored_in files ever) (graph_events events)
is_run job files events ever commits over right = record {
  accepted = over.accepted;
  sizes = over.sizes;
  legal = right.legal.legal;
  true_parts = all_truly job files ever started (graph_events events) right.are_true;
}

pub sinks_text : TextLaw → SinksLaw
sinks_text law job files events ever commits over right done =
    law job.given (stored_in files ever) (graph_events events) (is_run job files events ever commits over right) done
