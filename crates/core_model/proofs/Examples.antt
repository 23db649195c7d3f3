-- Steps of a core that has no attempts, one at a time.
use Rattle.std.proofs.Common.{false, List, [], ◌∷◌, refl, arith, Contains}
use Rattle.attempt_names.specs.Attempts.{no_attempts}
use Rattle.estate.specs.declared.part_name.PartName.{PartName}
use Rattle.plan_model.specs.Settings.{default_values}
use Rattle.graph_model.specs.declared.cause.Cause.TheVariants.{Lost}
use Rattle.graph_model.specs.declared.event.Event.TheVariants as event
use Rattle.graph_model.specs.declared.sub.Sub.{Sub}
use Rattle.job_soundness.specs.Jobs.{Job}
use Rattle.slot_pool.specs.Pool.{idle}
use Rattle.core_model.specs.declared.step.Step.TheVariants.{Deploy, Flush, End}
use Rattle.core_model.specs.Cores.{CoreState}
use Rattle.core_model.specs.KeptWork.{KeepsWork}
use Rattle.core_model.specs.Licensed.{LossesFollow}
use Rattle.core_model.specs.Moves.{Flushes, Ticks}
use Rattle.core_model.specs.Slowness.{IsSlowSubtask, RunsOneOf}
use Rattle.core_model.specs.Turns.{BeginsTurn}

abbrev job : Job
job = record { id = 7 ∷ []; text = 8 ∷ []; given = record { nodes = []; settings = default_values; files = [] } }

abbrev name : PartName
name = record { vertex = 0; subtask = 0; epoch = 1; attempt = 0 }

-- a core with two events, of which one is flushed
abbrev core : CoreState
core = record {
  events = event.Opened 1 ∷ event.Started (8 ∷ []) [] ∷ [];
  flushed = 1;
  log_end = 0;
  attempts = no_attempts;
  deployed = [];
  wanted = [];
  slots = idle 1 ∷ [];
  now = 0;
  times = [];
  committed = false;
}

none_in : {A : Type 0} (x : A) → Contains {X = A} [] x → ⊥
none_in x (k, lt, is) = absurd (omega (arith, lt))

-- where no attempt runs, nothing is slow and nobody is blocked
ticks : Ticks job 40 core (record core { now = 40 })
ticks = record {
  slow = [];
  are = record {
    ascending = λ i j d lt less. absurd (omega (arith, less));
    are = λ sub. (λ has. absurd (none_in sub has), λ (slow : IsSlowSubtask job core 40 sub). absurd (none_in slow.attempt ((slow.oldest).runs).deployed));
  };
  slots = idle 1 ∷ [];
  blocks = record {
    len = refl;
    taken = λ w. refl;
    blocked = λ w (runs : RunsOneOf core [] w). absurd (none_in runs.sub runs.one);
    others = λ w none. refl;
  };
  is = refl;
}

-- one event was not flushed
flushes : Flushes 1 core (record core { flushed = 2; log_end = 30 })
flushes = record { some = omega arith; count_is = refl; log_end = 30; is = refl }

-- a flush of another number is none
not_two : (new : CoreState) → Flushes 2 core new → ⊥
not_two new flushes = let count = flushes.count_is in absurd (omega (arith, count))

-- behind a lost part comes its reset, and nothing else but the end
reset_follows : (subs : List Sub) → LossesFollow false (event.Trouble (Lost name) ∷ event.Reset (name ∷ []) subs ∷ [])
reset_follows subs = ((0, omega arith, refl), tt)

not_alone : LossesFollow false (event.Trouble (Lost name) ∷ []) → ⊥
not_alone (behind, rest) = absurd (cc behind)

not_another : (subs : List Sub) → LossesFollow false (event.Trouble (Lost name) ∷ event.Reset [] subs ∷ []) → ⊥
not_another subs (has, rest) = none_in name has

-- the end of a job alone needs no reading of the clock
end_alone : BeginsTurn (End false ∷ [])
end_alone = tt

not_unread : BeginsTurn (Flush 1 ∷ End false ∷ []) → ⊥
not_unread begins = begins

-- what is kept is not deployed before it is reset
not_again : KeepsWork (record { vertex = 0; subtask = 0 }) (Deploy name 0 ∷ []) → ⊥
not_again (others, rest) = others refl
