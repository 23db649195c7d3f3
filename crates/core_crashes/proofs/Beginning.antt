-- How a core begins: behind the log's events and what recovery appends, or where the job is over.
use Rattle.std.proofs.Common.{◌≡◌, ℕ, Bool, true, false, List, [], ◌++◌, length, take, Some, refl, sym, ◌∙◌, ap, subst, arith, Contains, ⊎_elim, length-append}
use Rattle.std.specs.Prelude.{◌⊎◌}
use Rattle.std.proofs.lemmas.List.{take_all, take_at}
use Rattle.estate.specs.Holding.{Holding, StoredPart, job_under}
use Rattle.estate.specs.World.{World}
use Rattle.estate.specs.declared.commit.Commit.{Commit}
use Rattle.estate.specs.declared.part_name.PartName.{PartName}
use Rattle.graph_model.specs.Legal.{IsOpen}
use Rattle.graph_model.specs.declared.event.Event.{Event}
use Rattle.job_soundness.specs.Jobs.{Files, HasCommit, HasNone, Job}
use Rattle.job_soundness.specs.Logs.{SaysEvents}
use Rattle.job_soundness.specs.Sound.{AreRight, Says}
use Rattle.job_soundness.specs.Starts.{StartsJob, state_of}
use Rattle.job_soundness.proofs.Laws.{none_found}
use Rattle.core_model.specs.Calls.{new_core}
use Rattle.core_model.specs.Cores.{CoreState, Deployment}
use Rattle.core_model.specs.Reopening.{Reopens}
use Rattle.core_model.proofs.Laws.{IsOnward, reopen_legal, reopen_right}
use Rattle.core_crashes.specs.Recovered.{IsReadAs}
use Rattle.core_crashes.specs.Standing.{HaveGivenNames, IsBegun, IsFor, IsRight}

none_deployed : {P : Type 0} (attempt : Deployment) → Contains {X = Deployment} [] attempt → P
none_deployed attempt (k, lt, is) = absurd (omega (arith, lt))

-- ---- the next epoch

module _ (job : Job) (workers : ℕ) (opening more : List Event) (told : Bool) (held : List PartName) (log_end : ℕ) (world : World)
    (read : IsReadAs job opening log_end false world) (running : IsOpen job.given (state_of job opening)) (reopens : Reopens job opening told held more) where
  abbrev reopened : CoreState
  reopened = new_core job workers (opening ++ more) (length opening) log_end false

  onward : IsOnward job opening (opening ++ more)
  onward = reopen_legal job opening more told held reopens running read.legal

  front : take (length opening) (opening ++ more) ≡ opening
  front = take_at opening more (length opening) refl

  no_names : (image : Holding) → world.images world.now image → HaveGivenNames job reopened image.ever
  no_names image here = record {
    given = λ part has epoch.
        let late = read.epochs image here part has in
        let next = onward.epoch in
        absurd (omega (arith, late, epoch, next));
    fresh = λ attempt has. none_deployed attempt has;
  }

  pub begin_reopened : IsBegun job reopened world
  begin_reopened = record {
    legal = onward.legal;
    starts = onward.starts;
    flushed = omega (arith, length-append opening more);
    own = λ attempt has. none_deployed attempt has;
    started = read.started;
    images = λ image here. record {
      says = subst (SaysEvents image.log) (sym front) (read.says image here);
      names = λ fresh goes. no_names image here;
      none = λ fresh. read.none refl image here;
    };
  }

  pub right_reopened : (files : Files) → ((image : Holding) → world.images world.now image → Says job files opening image) → IsRight job files reopened world
  right_reopened files sound image here =
      let says = sound image here in record {
        flushed = subst (λ (l : List Event). AreRight job files l image.ever image.commits) (sym front) says.right;
        all = reopen_right job files opening more told held image.ever image.commits reopens running (read.none refl image here) says.right;
        held = says.held;
        read = λ attempt has. none_deployed attempt has;
        commit = λ knows. absurd (cc knows);
      }

-- ---- a job that is over

-- a commit that is found where at most the job's stands is the job's
pub commit_known : (job : Job) (files : Files) (events : List Event) (ever : List StoredPart) (commits : List Commit) (text : List ℕ) → AreRight job files events ever commits → job_under job.id commits ≡ Some text → HasCommit job files commits
commit_known job files events ever commits text right found = ⊎_elim
    (λ (none : HasNone job commits). absurd (cc (sym (none_found job commits none) ∙ found)))
    (λ has. has.0)
    right.once

module _ (job : Job) (workers : ℕ) (opening : List Event) (log_end : ℕ) (committed : Bool) (world : World)
    (read : IsReadAs job opening log_end committed world) (starts : StartsJob job opening) (over : (committed ≡ true) ⊎ (IsOpen job.given (state_of job opening) → ⊥)) where
  abbrev core_over : CoreState
  core_over = new_core job workers opening (length opening) log_end committed

  all_taken : take (length opening) opening ≡ opening
  all_taken = take_all (length opening) opening (omega arith)

  is_over : {P : Type 0} → committed ≡ false → IsOpen job.given (state_of job opening) → P
  is_over fresh running = ⊎_elim (λ knows. absurd (cc (sym knows ∙ fresh))) (λ not. absurd (not running)) over

  pub begin_over : IsFor job core_over world
  begin_over = record {
    begun = record {
      legal = read.legal;
      starts = starts;
      flushed = omega arith;
      own = λ attempt has. none_deployed attempt has;
      started = read.started;
      images = λ image here. record {
        says = subst (SaysEvents image.log) (sym all_taken) (read.says image here);
        names = λ fresh running. is_over fresh running;
        none = λ fresh. read.none fresh image here;
      };
    };
    epoch = ap (λ (l : List Event). (state_of job l).epoch) all_taken;
  }

  pub right_over : (files : Files) → ((image : Holding) → world.images world.now image → Says job files opening image)
      → (committed ≡ true → (image : Holding) → world.images world.now image → HasCommit job files image.commits) → IsRight job files core_over world
  right_over files sound stands image here =
      let says = sound image here in record {
        flushed = subst (λ (l : List Event). AreRight job files l image.ever image.commits) (sym all_taken) says.right;
        all = says.right;
        held = says.held;
        read = λ attempt has. none_deployed attempt has;
        commit = λ knows. stands knows image here;
      }
