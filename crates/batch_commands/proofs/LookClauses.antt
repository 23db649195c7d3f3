-- The clauses of a look, from how it ends.
use Rattle.std.proofs.Common.{◌≡◌, ◌⊎◌, ◌≤◌, inl, inr, ℕ, Option, Result, Ok, Err, IsTrue, Contains, List, [], ◌∷◌, ◌++◌, length, refl, sym, subst, ◌∙◌, ap, arith}
use Rattle.std.specs.Prelude.{IfErr}
use Rattle.std.proofs.lemmas.Option.{same_Some}
use Rattle.batch_words.specs.Words.{meaning}
use Rattle.batch_words.specs.declared.order.Order.{Order}
use Rattle.batch_words.specs.declared.order.Order.TheVariants.{Run, Generate, Check, Plan, Reference}
use Rattle.batch_words.specs.declared.order.Order.TheVariants as orders
use Rattle.batch_words.specs.declared.word_error.WordError.{WordError}
use Rattle.batch_words.specs.declared.word_error.WordError.TheVariants as word
use Rattle.batch_words.specs.declared.word_kind.WordKind.{WordKind}
use Rattle.estate.specs.Changes.{LogRose, Rose}
use Rattle.estate.specs.Contents.{Contents}
use Rattle.estate.specs.Printed.{Printed}
use Rattle.estate.specs.World.{World}
use Rattle.event_log.specs.declared.log.TheConstants.{LOG_LIMIT}
use Rattle.event_log.specs.Blocks.{Breaks, Reads}
use Rattle.event_log.proofs.Laws.{log_reads_once, read_log_is_unbroken}
use Rattle.job_events.specs.Logs.{IsAccepted}
use Rattle.job_events.specs.Replays.{FaultAt, IsBroken}
use Rattle.job_events.specs.declared.replay_error.ReplayError.TheVariants as replay
use Rattle.job_json.specs.declared.job.Job.{Job}
use Rattle.batch_commands.specs.Causes.{EventsCause, HasFault, JobCause, LookCause, Outside, WordCause}
use Rattle.batch_commands.specs.Events.{IsBadLog, IsGoodLog, IsTooLong, ShowsEvents}
use Rattle.batch_commands.specs.Orders.{IsOfJob, order_view, view_of}
use Rattle.batch_commands.specs.Outcomes.{IsNotShown, LookOutcome}
use Rattle.batch_commands.specs.Printing.{Prints}
use Rattle.batch_commands.specs.Refusals.{job_answer, word_answer}
use Rattle.batch_commands.specs.Views.{ShowsAsked, ShowsJob}
use Rattle.batch_commands.specs.declared.answer.Answer.{Answer}
use Rattle.batch_commands.specs.declared.answer.Answer.TheVariants.{Finished, Shown, Usage, JobRefused, LogFault, SinkFault, InputFault, PrintFault, BadLog, TooLarge, NotBuilt, NoMemory}
use Rattle.batch_commands.specs.declared.job_refusal.JobRefusal.{JobRefusal}
use Rattle.batch_commands.specs.declared.job_view.JobView.{JobView}
use Rattle.batch_commands.specs.declared.quantity.Quantity.{Quantity}
use Rattle.batch_commands.specs.declared.refused_kind.RefusedKind.{RefusedKind}
use Rattle.batch_commands.specs.declared.unbuilt.Unbuilt.{Unbuilt}
use Rattle.batch_commands.specs.declared.view.View.{View}
use Rattle.batch_commands.specs.declared.view.View.TheVariants.{OfJob, Events}
use Rattle.batch_commands.specs.declared.word_refusal.WordRefusal.{WordRefusal}
use Rattle.batch_commands.specs.declared.word_refusal.WordRefusal.TheVariants as words_refused
use Rattle.batch_commands.proofs.RunClauses.{not_both}

-- ---- a look at the job

module _ (view : JobView) (text : List ℕ) (old new : Contents) where
  abbrev Of : Answer → Type 0
  Of given = JobCause view text old new given

  -- an accepted job has no fault
  has_none : (fault : JobRefusal) → ShowsJob view old text → IsTrue old.told → HasFault old fault → ⊥
  has_none fault shows told has = let j = shows told in not_both old.job j.0 fault j.1 (has told)

  job_refused : (fault : JobRefusal) (given : Answer) → Of given → IsTrue old.told → HasFault old fault → Contains (job_answer fault ∷ InputFault ∷ NoMemory ∷ []) given
  job_refused fault Finished c told has = absurd c
  job_refused fault Shown c told has = absurd (has_none fault c told has)
  job_refused fault PrintFault c told has = absurd (has_none fault c told has)
  job_refused fault (Usage at kind) c told has = absurd c
  job_refused fault (JobRefused kind at name) c told has = (0, omega arith, ap job_answer (same_Some fault (record { kind = kind; node = at; name = name }) (sym (has told) ∙ c told)))
  job_refused fault LogFault c told has = absurd c
  job_refused fault SinkFault c told has = absurd c
  job_refused fault InputFault c told has = (1, omega arith, refl)
  job_refused fault (BadLog block event) c told has = absurd c
  job_refused fault (TooLarge kind number) c told has = absurd c
  job_refused fault (NotBuilt what) c told has = absurd c
  job_refused fault NoMemory c told has = (2, omega arith, refl)

  job_shown : (before after : Printed) (given : Answer) → Of given → Prints text before after given → IsTrue old.told → (job : Job) → IsAccepted old.job job
      → ¬ (Rose old.faults new.faults) → ¬ (Rose before.faults after.faults) → Contains (Shown ∷ NoMemory ∷ []) given
  job_shown before after Finished c prints told job accepted reads shows = absurd c
  job_shown before after Shown c prints told job accepted reads shows = (0, omega arith, refl)
  job_shown before after PrintFault c prints told job accepted reads shows = absurd (shows prints.0)
  job_shown before after (Usage at kind) c prints told job accepted reads shows = absurd c
  job_shown before after (JobRefused kind at name) c prints told job accepted reads shows = absurd (not_both old.job job _ accepted (c told))
  job_shown before after LogFault c prints told job accepted reads shows = absurd c
  job_shown before after SinkFault c prints told job accepted reads shows = absurd c
  job_shown before after InputFault c prints told job accepted reads shows = absurd (reads c)
  job_shown before after (BadLog block event) c prints told job accepted reads shows = absurd c
  job_shown before after (TooLarge kind number) c prints told job accepted reads shows = absurd c
  job_shown before after (NotBuilt what) c prints told job accepted reads shows = absurd c
  job_shown before after NoMemory c prints told job accepted reads shows = (1, omega arith, refl)

-- ---- a look at the log

-- of a log that is shown nothing is wrong
shown_is_good : (log text : List ℕ) (block event : ℕ) → ShowsEvents log text → IsBadLog log block event → ⊥
shown_is_good log text block event shown bad = by bad.wrong
  where
    by : (Reads log bad.blocks × FaultAt bad.blocks block event) ⊎ (Breaks log bad.blocks × IsBroken bad.blocks (replay.BadLog block event)) → ⊥
    by (inl fault) = shown.shows.faultless block event (subst (λ (b : List (List ℕ)). FaultAt b block event) (log_reads_once log bad.blocks shown.blocks fault.0 shown.reads) fault.1)
    by (inr broken) = read_log_is_unbroken log shown.blocks bad.blocks shown.reads broken.0

module _ (text : List ℕ) (old new : World) where
  abbrev OfLog : Answer → Type 0
  OfLog given = EventsCause text old new given

  log_shown : (before after : Printed) (given : Answer) → OfLog given → Prints text before after given → IsTrue old.told → IsGoodLog old.holding.log
      → length old.holding.log ≤ LOG_LIMIT → ¬ (LogRose old new) → ¬ (Rose before.faults after.faults) → Contains (Shown ∷ NoMemory ∷ []) given
  log_shown before after Finished c prints told good short reads shows = absurd c
  log_shown before after Shown c prints told good short reads shows = (0, omega arith, refl)
  log_shown before after PrintFault c prints told good short reads shows = absurd (shows prints.0)
  log_shown before after (Usage at kind) c prints told good short reads shows = absurd c
  log_shown before after (JobRefused kind at name) c prints told good short reads shows = absurd c
  log_shown before after LogFault c prints told good short reads shows = absurd (reads c)
  log_shown before after SinkFault c prints told good short reads shows = absurd c
  log_shown before after InputFault c prints told good short reads shows = absurd c
  log_shown before after (BadLog block event) c prints told good short reads shows = absurd (good block event (c told))
  log_shown before after (TooLarge kind number) c prints told good short reads shows = let long = (c told).2 in absurd (omega (arith, long, short))
  log_shown before after (NotBuilt what) c prints told good short reads shows = absurd c
  log_shown before after NoMemory c prints told good short reads shows = (1, omega arith, refl)

  too_large_told : (what : Quantity) (size : ℕ) (given : Answer) → OfLog given → IsTrue old.told → IsTooLong old.holding.log what size
      → Contains (TooLarge what size ∷ LogFault ∷ NoMemory ∷ []) given
  too_large_told what size Finished c told long = absurd c
  too_large_told what size Shown c told long = let short = (c told).short in absurd (omega (arith, long.2, short))
  too_large_told what size PrintFault c told long = let short = (c told).short in absurd (omega (arith, long.2, short))
  too_large_told what size (Usage at kind) c told long = absurd c
  too_large_told what size (JobRefused kind at name) c told long = absurd c
  too_large_told what size LogFault c told long = (1, omega arith, refl)
  too_large_told what size SinkFault c told long = absurd c
  too_large_told what size InputFault c told long = absurd c
  too_large_told what size (BadLog block event) c told long = let short = (c told).short in absurd (omega (arith, long.2, short))
  too_large_told what size (TooLarge kind number) c told long = let other = c told in (0, omega arith, ap (λ (q : Quantity). TooLarge q size) (long.0 ∙ sym other.0) ∙ ap (λ (n : ℕ). TooLarge kind n) (long.1 ∙ sym other.1))
  too_large_told what size (NotBuilt unbuilt) c told long = absurd c
  too_large_told what size NoMemory c told long = (2, omega arith, refl)

  bad_log_told : (block event : ℕ) (given : Answer) → OfLog given → IsTrue old.told → IsBadLog old.holding.log block event → IsNotShown given
  bad_log_told block event Finished c told bad = absurd c
  bad_log_told block event Shown c told bad = shown_is_good old.holding.log text block event (c told) bad
  bad_log_told block event PrintFault c told bad = absurd (shown_is_good old.holding.log text block event (c told) bad)
  bad_log_told block event (Usage at kind) c told bad = absurd c
  bad_log_told block event (JobRefused kind at name) c told bad = absurd c
  bad_log_told block event LogFault c told bad = tt
  bad_log_told block event SinkFault c told bad = absurd c
  bad_log_told block event InputFault c told bad = absurd c
  bad_log_told block event (BadLog at place) c told bad = tt
  bad_log_told block event (TooLarge kind number) c told bad = let long = (c told).2 in let short = bad.short in absurd (omega (arith, long, short))
  bad_log_told block event (NotBuilt what) c told bad = absurd c
  bad_log_told block event NoMemory c told bad = tt

-- ---- a look at what words ask for

abbrev refusing : WordRefusal → Result View WordRefusal
refusing r = Err r

-- all that can be seen is built
never_unbuilt : (order : Result Order WordError) (what : Unbuilt) → order_view order ≡ Err (words_refused.NotBuilt what) → ⊥
never_unbuilt (Ok (Run workers)) what is = cc is
never_unbuilt (Ok (Generate n workers)) what is = cc is
never_unbuilt (Ok Check) what is = cc is
never_unbuilt (Ok Plan) what is = cc is
never_unbuilt (Ok Reference) what is = cc is
never_unbuilt (Ok orders.Events) what is = cc is
never_unbuilt (Err (word.Fault at kind)) what is = cc is
never_unbuilt (Err word.NoMemory) what is = cc is

words_at : (r : WordRefusal) (given : Answer) → WordCause r given → Contains (word_answer r ∷ NoMemory ∷ []) given
words_at r Finished c = absurd c
words_at r Shown c = absurd c
words_at r PrintFault c = absurd c
words_at r (Usage at kind) c = (0, omega arith, ap word_answer c)
words_at r (JobRefused kind at name) c = absurd c
words_at r LogFault c = absurd c
words_at r SinkFault c = absurd c
words_at r InputFault c = absurd c
words_at r (BadLog block event) c = absurd c
words_at r (TooLarge kind number) c = absurd c
words_at r (NotBuilt what) c = (0, omega arith, ap word_answer c)
words_at r NoMemory c = (1, omega arith, refl)

module _ (text : List ℕ) (old new : Outside) (given : Answer) where
  abbrev Caused : Result View WordRefusal → Type 0
  Caused asked = LookCause asked text old new given

  pub words_refuse : (asked : Result View WordRefusal) → Caused asked → IfErr asked (λ r. Contains (word_answer r ∷ NoMemory ∷ []) given)
  words_refuse (Ok view) c = tt
  words_refuse (Err r) c = words_at r given c

  pub refused_always : (asked : Result View WordRefusal) (fault : JobRefusal) → Caused asked → IsOfJob asked → IsTrue old.inputs.told → HasFault old.inputs fault
      → Contains (job_answer fault ∷ InputFault ∷ NoMemory ∷ []) given
  refused_always (Ok (OfJob view)) fault c of told has = job_refused view text old.inputs new.inputs fault given c told has
  refused_always (Ok Events) fault c of told has = absurd of
  refused_always (Err r) fault c of told has = absurd of

  pub completes : (asked : Result View WordRefusal) (before after : Printed) → Caused asked → Prints text before after given → IsOfJob asked → IsTrue old.inputs.told
      → (job : Job) → IsAccepted old.inputs.job job → ¬ (Rose old.inputs.faults new.inputs.faults) → ¬ (Rose before.faults after.faults) → Contains (Shown ∷ NoMemory ∷ []) given
  completes (Ok (OfJob view)) before after c prints of told job accepted reads shows = job_shown view text old.inputs new.inputs before after given c prints told job accepted reads shows
  completes (Ok Events) before after c prints of told job accepted reads shows = absurd of
  completes (Err r) before after c prints of told job accepted reads shows = absurd of

  -- the words ask for the events
  of_log : (asked : Result View WordRefusal) → asked ≡ Ok Events → Caused asked → EventsCause text old.estate new.estate given
  of_log asked is c = subst Caused is c

  pub shows_log : (asked : Result View WordRefusal) (before after : Printed) → Caused asked → Prints text before after given → asked ≡ Ok Events → IsTrue old.estate.told
      → IsGoodLog old.estate.holding.log → length old.estate.holding.log ≤ LOG_LIMIT → ¬ (LogRose old.estate new.estate) → ¬ (Rose before.faults after.faults)
      → Contains (Shown ∷ NoMemory ∷ []) given
  shows_log asked before after c prints is told good short reads shows = log_shown text old.estate new.estate before after given (of_log asked is c) prints told good short reads shows

  pub too_large_always : (asked : Result View WordRefusal) → Caused asked → asked ≡ Ok Events → IsTrue old.estate.told → (what : Quantity) (number : ℕ)
      → IsTooLong old.estate.holding.log what number → Contains (TooLarge what number ∷ LogFault ∷ NoMemory ∷ []) given
  too_large_always asked c is told what number long = too_large_told text old.estate new.estate what number given (of_log asked is c) told long

  pub bad_log_always : (asked : Result View WordRefusal) → Caused asked → asked ≡ Ok Events → IsTrue old.estate.told → (block event : ℕ)
      → IsBadLog old.estate.holding.log block event → IsNotShown given
  bad_log_always asked c is told block event bad = bad_log_told text old.estate new.estate block event given (of_log asked is c) told bad

module _ (text : List ℕ) (old new : Outside) where
  abbrev Why : Result View WordRefusal → Answer → Type 0
  Why asked given = LookCause asked text old new given

  why_shown : (asked : Result View WordRefusal) → Why asked Shown → ShowsAsked asked old.inputs old.estate text
  why_shown (Ok (OfJob view)) c = c
  why_shown (Ok Events) c = c
  why_shown (Err r) c = absurd c

  why_usage : (asked : Result View WordRefusal) (at : ℕ) (kind : WordKind) → Why asked (Usage at kind) → asked ≡ Err (words_refused.Usage at kind)
  why_usage (Ok (OfJob view)) at kind c = absurd c
  why_usage (Ok Events) at kind c = absurd c
  why_usage (Err r) at kind c = ap refusing c

  why_unbuilt : (asked : Result View WordRefusal) (what : Unbuilt) → Why asked (NotBuilt what) → asked ≡ Err (words_refused.NotBuilt what)
  why_unbuilt (Ok (OfJob view)) what c = absurd c
  why_unbuilt (Ok Events) what c = absurd c
  why_unbuilt (Err r) what c = ap refusing c

  why_refused : (asked : Result View WordRefusal) (kind : RefusedKind) (at : Option ℕ) (name : Option (List ℕ)) → Why asked (JobRefused kind at name)
      → HasFault old.inputs (record { kind = kind; node = at; name = name })
  why_refused (Ok (OfJob view)) kind at name c = c
  why_refused (Ok Events) kind at name c = absurd c
  why_refused (Err r) kind at name c = absurd c

  why_input_fault : (asked : Result View WordRefusal) → Why asked InputFault → Rose old.inputs.faults new.inputs.faults
  why_input_fault (Ok (OfJob view)) c = c
  why_input_fault (Ok Events) c = absurd c
  why_input_fault (Err r) c = absurd c

  why_log_fault : (asked : Result View WordRefusal) → Why asked LogFault → LogRose old.estate new.estate
  why_log_fault (Ok (OfJob view)) c = absurd c
  why_log_fault (Ok Events) c = c
  why_log_fault (Err r) c = absurd c

  why_too_large : (asked : Result View WordRefusal) (what : Quantity) (number : ℕ) → Why asked (TooLarge what number) → IsTrue old.estate.told → IsTooLong old.estate.holding.log what number
  why_too_large (Ok (OfJob view)) what number c told = absurd c
  why_too_large (Ok Events) what number c told = c told
  why_too_large (Err r) what number c told = absurd c

  why_bad_log : (asked : Result View WordRefusal) (block event : ℕ) → Why asked (BadLog block event) → IsTrue old.estate.told → IsBadLog old.estate.holding.log block event
  why_bad_log (Ok (OfJob view)) block event c told = absurd c
  why_bad_log (Ok Events) block event c told = c told
  why_bad_log (Err r) block event c told = absurd c

module _ (words : List (List ℕ)) (old new : Outside) (before after : Printed) (given : Answer) (o : LookOutcome words old new before after given) where
  abbrev asked : Result View WordRefusal
  asked = view_of words

  caused : (answer : Answer) → given ≡ answer → LookCause asked o.text old new answer
  caused answer is = subst (λ (a : Answer). LookCause asked o.text old new a) is o.cause

  printed : (answer : Answer) → given ≡ answer → Prints o.text before after answer
  printed answer is = subst (λ (a : Answer). Prints o.text before after a) is o.prints

  pub shown : given ≡ Shown → IsTrue before.told → (text : List ℕ) × ShowsAsked asked old.inputs old.estate text × (after.bytes ≡ before.bytes ++ text)
  shown is told = (o.text, why_shown o.text old new asked (caused Shown is), (printed Shown is).0 told)

  pub usage : (at : ℕ) (kind : WordKind) → given ≡ Usage at kind → asked ≡ Err (words_refused.Usage at kind)
  usage at kind is = why_usage o.text old new asked at kind (caused (Usage at kind) is)

  pub built : (what : Unbuilt) → ¬ (given ≡ NotBuilt what)
  built what is = never_unbuilt (meaning words) what (why_unbuilt o.text old new asked what (caused (NotBuilt what) is))

  pub refused_for : (kind : RefusedKind) (at : Option ℕ) (name : Option (List ℕ)) → given ≡ JobRefused kind at name
      → HasFault old.inputs (record { kind = kind; node = at; name = name })
  refused_for kind at name is = why_refused o.text old new asked kind at name (caused (JobRefused kind at name) is)

  pub input_fault : given ≡ InputFault → Rose old.inputs.faults new.inputs.faults
  input_fault is = why_input_fault o.text old new asked (caused InputFault is)

  pub log_fault : given ≡ LogFault → LogRose old.estate new.estate
  log_fault is = why_log_fault o.text old new asked (caused LogFault is)

  pub too_large : (what : Quantity) (number : ℕ) → given ≡ TooLarge what number → IsTrue old.estate.told → IsTooLong old.estate.holding.log what number
  too_large what number is = why_too_large o.text old new asked what number (caused (TooLarge what number) is)

  pub bad_log : (block event : ℕ) → given ≡ BadLog block event → IsTrue old.estate.told → IsBadLog old.estate.holding.log block event
  bad_log block event is = why_bad_log o.text old new asked block event (caused (BadLog block event) is)

  pub print_fault : given ≡ PrintFault → Rose before.faults after.faults
  print_fault is = (printed PrintFault is).0

  pub print_met : given ≡ Shown → after.faults ≡ before.faults
  print_met is = (printed Shown is).1
