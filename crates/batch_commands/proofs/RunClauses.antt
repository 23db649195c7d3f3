-- The clauses of a run, from how it ends.
use Rattle.std.proofs.Common.{◌≡◌, ◌⊎◌, inl, inr, ℕ, Bool, true, false, ◌==◌, Option, Some, None, Result, Ok, Err, IsTrue, IsSome, IsNone, Contains, List, [], ◌∷◌, refl, sym, subst, ◌∙◌, ap, arith, if◌then◌else◌}
use Rattle.std.specs.Prelude.{slice_get, IfSome}
use Rattle.std.specs.Option.{option_map}
use Rattle.std.proofs.lemmas.Option.{same_Some}
use Rattle.batch_words.specs.declared.order.Order.{Order}
use Rattle.batch_words.specs.declared.order.Order.TheVariants.{Run, Generate, Check, Plan, Reference, Events}
use Rattle.batch_words.specs.declared.word_error.WordError.{WordError}
use Rattle.batch_words.specs.declared.word_error.WordError.TheVariants as word
use Rattle.batch_words.specs.declared.word_kind.WordKind.{WordKind}
use Rattle.batch_words.specs.Words.{meaning}
use Rattle.estate.specs.Changes.{Leads, Rose, Same, Stays, Step}
use Rattle.estate.specs.Contents.{Contents}
use Rattle.estate.specs.Holding.{job_under}
use Rattle.estate.specs.Printed.{Printed}
use Rattle.estate.specs.World.{World}
use Rattle.estate.specs.declared.commit.Commit.{Commit}
use Rattle.job_json.specs.declared.job.Job.{Job}
use Rattle.plan_model.specs.declared.plan_fault.PlanFault.{PlanFault}
use Rattle.batch_commands.specs.Causes.{HasFault, HasFinished, IsTaken, Outside, RunCause}
use Rattle.batch_commands.specs.Commits.{Commits, IsCommitOf, IsFree, MayCommit, NameFree, NameTaken}
use Rattle.job_events.specs.Logs.{IsAccepted}
use Rattle.batch_commands.specs.Jobs.{fault_in, fault_of}
use Rattle.batch_commands.specs.Orders.{order_refusal, run_refusal}
use Rattle.batch_commands.specs.Outcomes.{RunOutcome}
use Rattle.batch_commands.specs.Printing.{Prints}
use Rattle.batch_commands.specs.Refusals.{job_answer, plan_fault, word_answer}
use Rattle.batch_commands.specs.declared.answer.Answer.{Answer}
use Rattle.batch_commands.specs.declared.answer.Answer.TheVariants.{Finished, Shown, Usage, JobRefused, LogFault, SinkFault, InputFault, PrintFault, BadLog, TooLarge, NotBuilt, NoMemory}
use Rattle.batch_commands.specs.declared.job_refusal.JobRefusal.{JobRefusal}
use Rattle.batch_commands.specs.declared.refused_kind.RefusedKind.{RefusedKind}
use Rattle.batch_commands.specs.declared.unbuilt.Unbuilt.{Unbuilt}
use Rattle.batch_commands.specs.declared.unbuilt.Unbuilt.TheVariants as unbuilt
use Rattle.batch_commands.specs.declared.word_refusal.WordRefusal.{WordRefusal}
use Rattle.batch_commands.specs.declared.word_refusal.WordRefusal.TheVariants as words_refused
use Rattle.batch_commands.proofs.OneCommit.{not_once}

pub is_none : {A : Type 0} (o : Option A) → IsNone o → o ≡ None
is_none None none = refl
is_none (Some x) none = let impossible : true ≡ false = none in cc

not_none : {A : Type 0} (o : Option A) → IsSome o → o ≡ None → ⊥
not_none None some is = let impossible : false ≡ true = some in cc
not_none (Some x) some is = cc

not_free : {A : Type 0} (o : Option A) → IsSome o → IsNone o → ⊥
not_free o some none = not_none o some (is_none o none)

-- an accepted job has no fault
no_fault : (text : List ℕ) (job : Job) → IsAccepted text job → fault_of text ≡ None
no_fault text job accepted = ap fault_in accepted.is ∙ ap (λ (faults : List PlanFault). option_map plan_fault (slice_get faults 0)) accepted.faultless

pub not_both : (text : List ℕ) (job : Job) (fault : JobRefusal) → IsAccepted text job → fault_of text ≡ Some fault → ⊥
not_both text job fault accepted is = let impossible : None ≡ Some fault = sym (no_fault text job accepted) ∙ is in cc

-- a text is of one job
one_job : (text : List ℕ) (a b : Job) → IsAccepted text a → IsAccepted text b → a ≡ b
one_job text a b is_a is_b = let both = sym is_a.is ∙ is_b.is in cc

-- no words are refused for a commit that stands
never_taken : (order : Result Order WordError) → order_refusal order ≡ Some (words_refused.NotBuilt unbuilt.Commit) → ⊥
never_taken (Ok (Run workers)) is = by (workers == 0) is
  where
    by : (b : Bool) → (if b then None else Some (words_refused.NotBuilt unbuilt.Workers)) ≡ Some (words_refused.NotBuilt unbuilt.Commit) → ⊥
    by true is = cc
    by false is = cc
never_taken (Ok (Generate n workers)) is = cc
never_taken (Ok Check) is = cc
never_taken (Ok Plan) is = cc
never_taken (Ok Reference) is = cc
never_taken (Ok Events) is = cc
never_taken (Err (word.Fault at kind)) is = cc
never_taken (Err word.NoMemory) is = cc

-- a commit may be added under no name that has one
pub stays_taken : (inputs : Contents) (old new : World) → NameTaken inputs old → MayCommit inputs old new → Leads Stays old new
stays_taken inputs old new name adds = by adds.commit adds.is adds.free adds.leads
  where
    by : (commit : Option Commit) → IfSome commit (IsCommitOf inputs) → IfSome commit (IsFree old) → Leads (Step Same None commit) old new → Leads Stays old new
    by None is free leads = leads
    by (Some commit) is free leads =
        let own : IsAccepted inputs.job is.of = subst (λ (t : List ℕ). IsAccepted t is.of) (is.told name.told) is.accepted in
        let same : is.of ≡ name.job = one_job inputs.job is.of name.job own name.accepted in
        let id : commit.id ≡ name.job.name = is.id ∙ ap (λ (j : Job). j.name) same in
        let none : job_under name.job.name old.holding.commits ≡ None = subst (λ (i : List ℕ). job_under i old.holding.commits ≡ None) id (free name.held) in
        absurd (not_none (job_under name.job.name old.holding.commits) name.taken none)

commits_of : (inputs : Contents) (old new : World) (line : List ℕ) → HasFinished inputs old new line → Commits inputs old new
commits_of inputs old new line finished = λ held. let c = finished.committed held in (c.0, c.1)

-- a job that is finished had no commit under its name
not_finished : (inputs : Contents) (old new : World) (line : List ℕ) → HasFinished inputs old new line → NameTaken inputs old → ⊥
not_finished inputs old new line finished name =
    let j = finished.is name.told in
    let c = finished.committed name.held in
    let same : name.job ≡ j.0 = one_job inputs.job name.job j.0 name.accepted j.1 in
    not_once c.0 name.job.name old.holding.commits new.holding.commits (ap (λ (x : Job). x.name) same ∙ sym j.2 ∙ c.2) name.taken (c.1).added (c.1).once

-- a name that is free is not taken
not_taken : (inputs : Contents) (old : World) → NameFree inputs old → IsTaken inputs old → ⊥
not_taken inputs old name taken =
    let j = taken name.told in
    let same : j.0 ≡ name.job = one_job inputs.job j.0 name.job j.1 name.accepted in
    not_free (job_under name.job.name old.holding.commits)
    (subst (λ (x : Job). IsSome (job_under x.name old.holding.commits)) same (j.2 name.held)) name.free

module _ (refused : Option WordRefusal) (line : List ℕ) (old new : Outside) where
  abbrev IsCaused : Answer → Type 0
  IsCaused given = RunCause refused line old new given

  served : (r : WordRefusal) (P : Type 0) → refused ≡ Some r → refused ≡ None → P
  served r P is none = let impossible : Some r ≡ None = sym is ∙ none in absurd (cc impossible)

  told_words : (r s : WordRefusal) → refused ≡ Some r → refused ≡ Some s → Contains (word_answer r ∷ NoMemory ∷ []) (word_answer s)
  told_words r s is told = (0, omega arith, ap word_answer (same_Some r s (sym is ∙ told)))

  words_at : (r : WordRefusal) (given : Answer) → IsCaused given → refused ≡ Some r → Contains (word_answer r ∷ NoMemory ∷ []) given
  words_at r Finished c is = served r _ is c.0
  words_at r Shown c is = absurd c
  words_at r LogFault c is = absurd c
  words_at r (BadLog block event) c is = absurd c
  words_at r (TooLarge kind number) c is = absurd c
  words_at r PrintFault c is = served r _ is c.0
  words_at r (Usage at kind) c is = told_words r (words_refused.Usage at kind) is c
  words_at r (JobRefused kind at name) c is = served r _ is c.0
  words_at r SinkFault c is = served r _ is c.0
  words_at r InputFault c is = served r _ is c.0
  words_at r (NotBuilt what) (inl told) is = told_words r (words_refused.NotBuilt what) is told
  words_at r (NotBuilt what) (inr c) is = served r _ is c.0
  words_at r NoMemory c is = (1, omega arith, refl)

  pub words_refuse : (given : Answer) → IsCaused given → IfSome refused (λ r. Contains (word_answer r ∷ NoMemory ∷ []) given)
  words_refuse given c = by refused refl
    where
      by : (o : Option WordRefusal) → refused ≡ o → IfSome o (λ r. Contains (word_answer r ∷ NoMemory ∷ []) given)
      by None is = tt
      by (Some r) is = words_at r given c is

  pub refused_always : (fault : JobRefusal) (given : Answer) → IsCaused given → refused ≡ None → IsTrue old.inputs.told → HasFault old.inputs fault
      → Contains (job_answer fault ∷ InputFault ∷ NoMemory ∷ []) given
  refused_always fault Finished c none told has = let j = (c.1).is told in absurd (not_both old.inputs.job j.0 fault j.1 (has told))
  refused_always fault Shown c none told has = absurd c
  refused_always fault LogFault c none told has = absurd c
  refused_always fault (BadLog block event) c none told has = absurd c
  refused_always fault (TooLarge kind number) c none told has = absurd c
  refused_always fault PrintFault c none told has = let j = (c.1).is told in absurd (not_both old.inputs.job j.0 fault j.1 (has told))
  refused_always fault (Usage at kind) c none told has = served (words_refused.Usage at kind) _ c none
  refused_always fault (JobRefused kind at name) c none told has =
      (0, omega arith, ap job_answer (same_Some fault (record { kind = kind; node = at; name = name }) (sym (has told) ∙ c.1 told)))
  refused_always fault SinkFault c none told has = let j = c.2 told in absurd (not_both old.inputs.job j.0 fault j.1 (has told))
  refused_always fault InputFault c none told has = (1, omega arith, refl)
  refused_always fault (NotBuilt what) (inl is) none told has = served (words_refused.NotBuilt what) _ is none
  refused_always fault (NotBuilt what) (inr c) none told has = let j = c.2 told in absurd (not_both old.inputs.job j.0 fault j.1 (has told))
  refused_always fault NoMemory c none told has = (2, omega arith, refl)

  pub taken_refused : (given : Answer) → IsCaused given → refused ≡ None → NameTaken old.inputs old.estate
      → Contains (NotBuilt unbuilt.Commit ∷ InputFault ∷ SinkFault ∷ NoMemory ∷ []) given
  taken_refused Finished c none name = absurd (not_finished old.inputs old.estate new.estate line c.1 name)
  taken_refused Shown c none name = absurd c
  taken_refused LogFault c none name = absurd c
  taken_refused (BadLog block event) c none name = absurd c
  taken_refused (TooLarge kind number) c none name = absurd c
  taken_refused PrintFault c none name = absurd (not_finished old.inputs old.estate new.estate line c.1 name)
  taken_refused (Usage at kind) c none name = served (words_refused.Usage at kind) _ c none
  taken_refused (JobRefused kind at called) c none name = absurd (not_both old.inputs.job name.job _ name.accepted (c.1 name.told))
  taken_refused SinkFault c none name = (2, omega arith, refl)
  taken_refused InputFault c none name = (1, omega arith, refl)
  taken_refused (NotBuilt what) (inl is) none name = served (words_refused.NotBuilt what) _ is none
  taken_refused (NotBuilt what) (inr c) none name = (0, omega arith, sym (ap NotBuilt c.1))
  taken_refused NoMemory c none name = (3, omega arith, refl)

  pub completes : (before after : Printed) (given : Answer) → IsCaused given → Prints line before after given → refused ≡ None
      → NameFree old.inputs old.estate → ¬ (Rose old.inputs.faults new.inputs.faults)
      → ¬ (Rose old.estate.counts.sink_faults new.estate.counts.sink_faults) → ¬ (Rose before.faults after.faults)
      → Contains (Finished ∷ NoMemory ∷ []) given
  completes before after Finished c prints none name reads commits shows = (0, omega arith, refl)
  completes before after Shown c prints none name reads commits shows = absurd c
  completes before after LogFault c prints none name reads commits shows = absurd c
  completes before after (BadLog block event) c prints none name reads commits shows = absurd c
  completes before after (TooLarge kind number) c prints none name reads commits shows = absurd c
  completes before after PrintFault c prints none name reads commits shows = absurd (shows prints.0)
  completes before after (Usage at kind) c prints none name reads commits shows = served (words_refused.Usage at kind) _ c none
  completes before after (JobRefused kind at called) c prints none name reads commits shows =
      absurd (not_both old.inputs.job name.job _ name.accepted (c.1 name.told))
  completes before after SinkFault c prints none name reads commits shows = absurd (commits c.1)
  completes before after InputFault c prints none name reads commits shows = absurd (reads c.1)
  completes before after (NotBuilt what) (inl is) prints none name reads commits shows = served (words_refused.NotBuilt what) _ is none
  completes before after (NotBuilt what) (inr c) prints none name reads commits shows = absurd (not_taken old.inputs old.estate name c.2)
  completes before after NoMemory c prints none name reads commits shows = (1, omega arith, refl)

module _ (words : List (List ℕ)) (old new : Outside) (before after : Printed) (given : Answer) (o : RunOutcome words old new before after given) where
  caused : (answer : Answer) → given ≡ answer → RunCause (run_refusal words) o.line old new answer
  caused answer is = subst (λ (a : Answer). RunCause (run_refusal words) o.line old new a) is o.cause

  pub committed : given ≡ Finished → Commits old.inputs old.estate new.estate
  committed is = commits_of old.inputs old.estate new.estate o.line (caused Finished is).1

  pub print_fault_commits : given ≡ PrintFault → Commits old.inputs old.estate new.estate
  print_fault_commits is = commits_of old.inputs old.estate new.estate o.line (caused PrintFault is).1

  pub usage : (at : ℕ) (kind : WordKind) → given ≡ Usage at kind → run_refusal words ≡ Some (words_refused.Usage at kind)
  usage at kind is = caused (Usage at kind) is

  pub not_built : (what : Unbuilt) → given ≡ NotBuilt what → (what ≡ unbuilt.Commit) ⊎ (run_refusal words ≡ Some (words_refused.NotBuilt what))
  not_built what is = by (caused (NotBuilt what) is)
    where
      by : RunCause (run_refusal words) o.line old new (NotBuilt what) → (what ≡ unbuilt.Commit) ⊎ (run_refusal words ≡ Some (words_refused.NotBuilt what))
      by (inl told) = inr told
      by (inr c) = inl c.1

  pub taken : given ≡ NotBuilt unbuilt.Commit → IsTaken old.inputs old.estate
  taken is = by (caused (NotBuilt unbuilt.Commit) is)
    where
      by : RunCause (run_refusal words) o.line old new (NotBuilt unbuilt.Commit) → IsTaken old.inputs old.estate
      by (inl told) = absurd (never_taken (meaning words) told)
      by (inr c) = c.2

  pub refused_for : (kind : RefusedKind) (at : Option ℕ) (name : Option (List ℕ)) → given ≡ JobRefused kind at name
      → HasFault old.inputs (record { kind = kind; node = at; name = name })
  refused_for kind at name is = (caused (JobRefused kind at name) is).1

  pub input_fault : given ≡ InputFault → Rose old.inputs.faults new.inputs.faults
  input_fault is = (caused InputFault is).1

  pub sink_fault : given ≡ SinkFault → Rose old.estate.counts.sink_faults new.estate.counts.sink_faults
  sink_fault is = (caused SinkFault is).1

  printed : (answer : Answer) → given ≡ answer → Prints o.line before after answer
  printed answer is = subst (λ (a : Answer). Prints o.line before after a) is o.prints

  pub print_fault : given ≡ PrintFault → Rose before.faults after.faults
  print_fault is = (printed PrintFault is).0

  pub print_met : given ≡ Finished → after.faults ≡ before.faults
  print_met is = (printed Finished is).1
