-- The steps of a whole run: a job of a source and a sink over one file, by one attempt.
use Rattle.std.proofs.Common.{◌≡◌, ℕ, true, false, List, [], ◌∷◌, refl, sym, ap, arith, inl, inr, Contains}
use Rattle.std.proofs.lemmas.List.Elements.{All-nil}
use Rattle.attempt_names.specs.Attempts.{no_attempts}
use Rattle.estate.specs.declared.part_name.PartName.{PartName}
use Rattle.plan_model.specs.Settings.{default_values}
use Rattle.plan_model.specs.declared.node.Node.{Node}
use Rattle.plan_model.specs.declared.op.Op.TheVariants.{Source, Sink}
use Rattle.rect_cover.specs.Cells.{Reads}
use Rattle.graph_model.specs.Folds.{HasFold}
use Rattle.graph_model.specs.States.{Given, started}
use Rattle.graph_model.specs.declared.event.Event.TheVariants as event
use Rattle.graph_model.proofs.Laws.{finishes, in_one}
use Rattle.job_soundness.specs.Jobs.{Job}
use Rattle.slot_pool.specs.Pool.{idle}
use Rattle.slot_pool.specs.declared.slot_id.SlotId.{SlotId}
use Rattle.core_model.specs.declared.arrival.Arrival.TheVariants.{Win}
use Rattle.core_model.specs.declared.step.Step.{Step}
use Rattle.core_model.specs.declared.step.Step.TheVariants.{Tick, Arrive, Make, Decide, Deploy, Flush, Commit, End}
use Rattle.core_model.specs.Arrivals.{Arrives, with_win}
use Rattle.core_model.specs.Cores.{CoreState, Deployment, Moment, with_events}
use Rattle.core_model.specs.Moves.{Commits, Deploys, Ends, Rests, Run, Taken, Ticks, with_deployed}
use Rattle.core_model.specs.Slowness.{IsSlowSubtask, RunsOneOf}
use Rattle.core_model.specs.Turns.{deployed_in, ticks_in}
use Rattle.core_model.specs.Licensed.{steps_of}

abbrev nodes : List Node
nodes = record { op = Source (1 ∷ []) []; inputs = []; rebalance = false } ∷ record { op = Sink (2 ∷ []); inputs = 0 ∷ []; rebalance = false } ∷ []

abbrev given : Given
given = record { nodes = nodes; settings = default_values; files = (29 ∷ []) ∷ [] }

abbrev pub job : Job
job = record { id = 7 ∷ []; text = 8 ∷ []; given = given }

abbrev decision : List Reads
decision = ((record { p0 = 0; p1 = 1; s0 = 0; s1 = 1 } ∷ []) ∷ []) ∷ []

abbrev pub name : PartName
name = record { vertex = 0; subtask = 0; epoch = 1; attempt = 0 }

abbrev sizes : List (List ℕ)
sizes = (29 ∷ []) ∷ []

abbrev pub slot : SlotId
slot = record { worker = 0; slot = 0 }

pub legal : HasFold given started (event.Opened 1 ∷ event.Made 0 (0 ∷ 1 ∷ []) ∷ event.Decided 0 decision ∷ event.Done name [] sizes ∷ event.Ended false ∷ [])
legal = finishes

-- ---- the core before and after each step

abbrev opened : CoreState
opened = record {
  events = event.Opened 1 ∷ event.Started (8 ∷ []) ((29 ∷ []) ∷ []) ∷ [];
  flushed = 2;
  log_end = 0;
  attempts = no_attempts;
  deployed = [];
  wanted = [];
  slots = idle 1 ∷ [];
  now = 0;
  times = [];
  committed = false;
}

abbrev ticked : CoreState
ticked = record opened { now = 5 }

abbrev made : CoreState
made = with_events ticked (event.Made 0 (0 ∷ 1 ∷ []) ∷ [])

abbrev decided : CoreState
decided = with_events made (event.Decided 0 decision ∷ [])

abbrev deployed : CoreState
deployed = with_deployed decided name [] slot

abbrev attempt : Deployment
attempt = record { name = name; inputs = []; slot = slot; since = 5 }

abbrev won : CoreState
won = with_win deployed attempt sizes

abbrev pub flushed : CoreState
flushed = record won { flushed = 5; log_end = 90 }

abbrev committed : CoreState
committed = record flushed { committed = true }

abbrev ended : CoreState
ended = record (with_events committed (event.Ended false ∷ [])) { flushed = 6; log_end = 101 }

-- ---- what the steps ask

none_in : {A : Type 0} (x : A) → Contains {X = A} [] x → ⊥
none_in x (k, lt, is) = absurd (omega (arith, lt))

ticks : Ticks job 5 opened ticked
ticks = record {
  slow = [];
  are = record {
    ascending = λ i j d lt less. absurd (omega (arith, less));
    are = λ sub. (λ has. absurd (none_in sub has), λ (slow : IsSlowSubtask job opened 5 sub). absurd (none_in slow.attempt ((slow.oldest).runs).deployed));
  };
  slots = idle 1 ∷ [];
  blocks = record {
    len = refl;
    taken = λ w. refl;
    blocked = λ w (runs : RunsOneOf opened [] w). absurd (none_in runs.sub runs.one);
    others = λ w none. refl;
  };
  is = refl;
}

-- ---- the run

abbrev pub at : CoreState → List PartName → Moment
at core held = record { core = core; told = true; held = held }

-- names stay held
rests : (moment : Moment) → Rests moment moment
rests moment = record { core = refl; told = refl; held = λ n has. has }

deploys : Deploys job name 0 (at decided []) (at deployed [])
deploys = record {
  running = (legal.1.1.1.0).running;
  unfinished = (legal.1.1.1.0).unfinished;
  epoch = refl;
  fresh = none_in name;
  inputs = [];
  named = (legal.1.1.1.0).named;
  held = λ told. All-nil (Contains []);
  slot = slot;
  free = refl;
  is = refl;
}

arrives : Arrives job name Win deployed won
arrives = record {
  attempt = attempt;
  named = refl;
  deployed = (0, omega arith, refl);
  by = record { sizes = sizes; legal = legal.1.1.1.0; is = refl };
}

commits : Commits job flushed committed
commits = record { running = legal.1.1.1.1.0.0; done = legal.1.1.1.1.0.1; flushed = refl; fresh = refl; is = refl }

ends : Ends job false committed ended
ends = record { legal = legal.1.1.1.1.0; committed = λ finished. refl; log_end = 101; is = refl }

-- of a step in which no name is lost and none is put
abbrev taken : Step → Moment → Moment → Taken
taken step before after = record { step = step; before = before; after = after }

abbrev trace : List Taken
trace =
    taken (Tick 5) (at opened []) (at ticked [])
    ∷ taken (Make 0) (at ticked []) (at made [])
    ∷ taken (Decide 0) (at made []) (at decided [])
    ∷ taken (Deploy name 0) (at decided []) (at deployed [])
    ∷ taken (Arrive name Win) (at deployed []) (at won (name ∷ []))
    ∷ taken (Flush 3) (at won (name ∷ [])) (at flushed (name ∷ []))
    ∷ taken (Commit true) (at flushed (name ∷ [])) (at committed (name ∷ []))
    ∷ taken (End false) (at committed (name ∷ [])) (at ended (name ∷ []))
    ∷ []

runs : Run job (at opened []) trace (at ended (name ∷ []))
runs = (
  rests _,
  record { moves = ticks; told = refl; held = λ n has. inl has },
  (
    rests _,
    record { moves = (0 ∷ 1 ∷ [], (legal.1.0, refl)); told = refl; held = λ n has. inl has },
    (
      rests _,
      record { moves = (decision, (legal.1.1.0, refl)); told = refl; held = λ n has. inl has },
      (
        rests _,
        record { moves = deploys; told = refl; held = λ n has. inl has },
        (
          rests _,
          record { moves = arrives; told = refl; held = λ n has. inr (ap (λ (m : PartName). Arrive m Win) (sym (in_one name n has))) },
          (
            rests _,
            record { moves = record { some = omega arith; count_is = refl; log_end = 90; is = refl }; told = refl; held = λ n has. inl has },
            (
              rests _,
              record { moves = commits; told = refl; held = λ n has. inl has },
              (
                rests _,
                record { moves = ends; told = refl; held = λ n has. inl has },
                rests _,
              ),
            ),
          ),
        ),
      ),
    ),
  ),
)

-- its only deployment, and its only reading of the clock
one_deployed : deployed_in (steps_of trace) ≡ name ∷ []
one_deployed = refl

one_tick : ticks_in (steps_of trace) ≡ 5 ∷ []
one_tick = refl
