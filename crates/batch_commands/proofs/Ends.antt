-- From what a command did, and how it was printed, to how the command ends.
use Rattle.std.proofs.Common.{◌≡◌, inl, inr, ℕ, IsTrue, None, Result, Ok, Err, List, [], ◌++◌, length, refl, sym, subst, ◌∙◌, ap, arith}
use Rattle.std.specs.Prelude.{IfErr, MatchResult}
use Rattle.std.proofs.Math.Seq.{take-length}
use Rattle.std.proofs.lemmas.List.{append-nil}
use Rattle.estate.specs.Changes.{Leads, Stays}
use Rattle.estate.specs.Printed.{Printed, AddsPart}
use Rattle.estate.specs.World.{World}
use Rattle.estate.proofs.Laws.{leads_start}
use Rattle.batch_commands.specs.Answers.{printed_line}
use Rattle.batch_commands.specs.Causes.{HasFinished, LookCause, Outside, RunCause}
use Rattle.batch_commands.specs.Commits.{MayCommit, StaysUnlessFailed}
use Rattle.batch_commands.specs.Orders.{run_refusal, view_of}
use Rattle.batch_commands.specs.Outcomes.{IsAnswered, IsMet, LookOutcome, RunOutcome}
use Rattle.batch_commands.specs.Printing.{Prints, PrintsOutcome, TriesToAdd}
use Rattle.batch_commands.specs.Refusals.{answer_to}
use Rattle.batch_commands.specs.Views.{ShowsAsked}
use Rattle.batch_commands.specs.declared.answer.Answer.{Answer}
use Rattle.batch_commands.specs.declared.answer.Answer.TheVariants as answer
use Rattle.batch_commands.specs.declared.log_refusal.LogRefusal.TheVariants as log
use Rattle.batch_commands.specs.declared.refusal.Refusal.{Refusal}
use Rattle.batch_commands.specs.declared.refusal.Refusal.TheVariants.{Words, Job, IdTaken, Log, SinkFault, InputFault, NoMemory}
use Rattle.batch_commands.specs.declared.view.View.{View}
use Rattle.batch_commands.specs.declared.view.View.TheVariants.{OfJob, Events}
use Rattle.batch_commands.specs.declared.word_refusal.WordRefusal.{WordRefusal}
use Rattle.batch_commands.specs.declared.word_refusal.WordRefusal.TheVariants as words

-- nothing is a first part of each line
pub nothing_added : (line old : List ℕ) → AddsPart line old old
nothing_added line old = (0, sym (append-nil old))

-- a line that was printed, or a first part of it, is a first part of it
part_of : (line : List ℕ) (before after : Printed) → TriesToAdd line before after → IsTrue before.told → AddsPart line before.bytes after.bytes
part_of line before after (inl all) told = (length line, all.0 told ∙ ap (λ (l : List ℕ). before.bytes ++ l) (sym (take-length line)))
part_of line before after (inr fails) told = fails.1 told

-- the line of a refusal was printed
prints_refusal : (text : List ℕ) (before after : Printed) (refusal : Refusal) → TriesToAdd (printed_line [] (answer_to refusal)) before after
    → Prints text before after (answer_to refusal)
prints_refusal text before after (Words (words.Usage at kind)) tries = tries
prints_refusal text before after (Words (words.NotBuilt what)) tries = tries
prints_refusal text before after (Words words.NoMemory) tries = part_of (printed_line [] answer.NoMemory) before after tries
prints_refusal text before after (Job fault) tries = tries
prints_refusal text before after IdTaken tries = tries
prints_refusal text before after (Log log.Fault) tries = tries
prints_refusal text before after (Log (log.TooLarge asked)) tries = tries
prints_refusal text before after (Log (log.BadLog block event)) tries = tries
prints_refusal text before after (Log log.NoMemory) tries = part_of (printed_line [] answer.NoMemory) before after tries
prints_refusal text before after SinkFault tries = tries
prints_refusal text before after InputFault tries = tries
prints_refusal text before after NoMemory tries = part_of (printed_line [] answer.NoMemory) before after tries

met_ok : (fault : Refusal) (before now : ℕ) (bytes : List ℕ) → IsMet fault before now (Ok bytes) → now ≡ before
met_ok fault before now bytes (inl is) = absurd (cc is)
met_ok fault before now bytes (inr same) = same

met_err : (fault : Refusal) (before now : ℕ) (refusal : Refusal) → IsMet {T = List ℕ} fault before now (Err refusal)
    → IsAnswered (answer_to fault) before now (answer_to refusal)
met_err fault before now refusal (inl is) = let same : fault ≡ refusal = cc is in inr (0, omega arith, ap answer_to same)
met_err fault before now refusal (inr same) = inl same

stays_answered : (old new : World) (given : Answer) → StaysUnlessFailed old new given → StaysUnlessFailed old new answer.NoMemory
stays_answered old new given (inl stays) = inl stays
stays_answered old new given (inr (among, rose)) = inr ((1, omega arith, refl), rose)

-- a run that had no memory for any line
pub run_memory : (words : List (List ℕ)) (old : Outside) (before : Printed) → RunOutcome words old old before before answer.NoMemory
run_memory words old before = record {
  line = [];
  cause = tt;
  prints = λ told. nothing_added (printed_line [] answer.NoMemory) before.bytes;
  adds = record { commit = None; is = tt; free = tt; leads = leads_start old.estate };
  stays = inr (inr (inl (leads_start old.estate)));
  input_met = inl refl;
  sink_met = inl refl;
}

module _ (words : List (List ℕ)) (old new : Outside) (before after : Printed) where
  abbrev EndsAt : Answer → Type 0
  EndsAt given = RunOutcome words old new before after given

  -- how a run ends, whose line or refusal was printed
  pub run_ends : (result : Result (List ℕ) Refusal) (given : Answer)
      → MatchResult result
      (λ line. (run_refusal words ≡ None) × HasFinished old.inputs old.estate new.estate line)
      (λ refusal. RunCause (run_refusal words) [] old new (answer_to refusal))
      → IfErr result (λ refusal. StaysUnlessFailed old.estate new.estate (answer_to refusal))
      → MayCommit old.inputs old.estate new.estate
      → IsMet InputFault old.inputs.faults new.inputs.faults result
      → IsMet SinkFault old.estate.counts.sink_faults new.estate.counts.sink_faults result
      → PrintsOutcome answer.Finished result before after given
      → RunOutcome words old new before after given
  run_ends (Ok line) given why stays adds input sink (inl (is, all)) = subst (λ (a : Answer). EndsAt a) (sym is) (record {
    line = line;
    cause = why;
    prints = all;
    adds = adds;
    stays = inl refl;
    input_met = inl (met_ok InputFault old.inputs.faults new.inputs.faults line input);
    sink_met = inl (met_ok SinkFault old.estate.counts.sink_faults new.estate.counts.sink_faults line sink);
  })
  run_ends (Ok line) given why stays adds input sink (inr (is, fails)) = subst (λ (a : Answer). EndsAt a) (sym is) (record {
    line = line;
    cause = why;
    prints = fails;
    adds = adds;
    stays = inr (inl refl);
    input_met = inl (met_ok InputFault old.inputs.faults new.inputs.faults line input);
    sink_met = inl (met_ok SinkFault old.estate.counts.sink_faults new.estate.counts.sink_faults line sink);
  })
  run_ends (Err refusal) given why stays adds input sink (inl (is, tries)) = subst (λ (a : Answer). EndsAt a) (sym is) (record {
    line = [];
    cause = why;
    prints = prints_refusal [] before after refusal tries;
    adds = adds;
    stays = inr (inr stays);
    input_met = met_err InputFault old.inputs.faults new.inputs.faults refusal input;
    sink_met = met_err SinkFault old.estate.counts.sink_faults new.estate.counts.sink_faults refusal sink;
  })
  run_ends (Err refusal) given why stays adds input sink (inr (is, tries)) = subst (λ (a : Answer). EndsAt a) (sym is) (record {
    line = [];
    cause = tt;
    prints = part_of (printed_line [] answer.NoMemory) before after tries;
    adds = adds;
    stays = inr (inr (stays_answered old.estate new.estate (answer_to refusal) stays));
    input_met = inr (1, omega arith, refl);
    sink_met = inr (1, omega arith, refl);
  })

-- memory may run out at each look
no_memory_cause : (asked : Result View WordRefusal) (old new : Outside) → LookCause asked [] old new answer.NoMemory
no_memory_cause (Ok (OfJob view)) old new = tt
no_memory_cause (Ok Events) old new = tt
no_memory_cause (Err refused) old new = tt

shown_cause : (asked : Result View WordRefusal) (text : List ℕ) (old new : Outside) → ShowsAsked asked old.inputs old.estate text → LookCause asked text old new answer.Shown
shown_cause (Ok (OfJob view)) text old new shows = shows
shown_cause (Ok Events) text old new shows = shows
shown_cause (Err refused) text old new shows = absurd shows

unprinted_cause : (asked : Result View WordRefusal) (text : List ℕ) (old new : Outside) → ShowsAsked asked old.inputs old.estate text → LookCause asked text old new answer.PrintFault
unprinted_cause (Ok (OfJob view)) text old new shows = shows
unprinted_cause (Ok Events) text old new shows = shows
unprinted_cause (Err refused) text old new shows = absurd shows

-- a look that had no memory for any line
pub look_memory : (words : List (List ℕ)) (old : Outside) (before : Printed) → LookOutcome words old old before before answer.NoMemory
look_memory words old before = record {
  text = [];
  cause = no_memory_cause (view_of words) old old;
  prints = λ told. nothing_added (printed_line [] answer.NoMemory) before.bytes;
  writes_nothing = leads_start old.estate;
  input_met = inl refl;
  log_met = inl refl;
}

module _ (words : List (List ℕ)) (old new : Outside) (before after : Printed) where
  abbrev LookEndsAt : Answer → Type 0
  LookEndsAt given = LookOutcome words old new before after given

  -- how a look ends, whose text or refusal was printed
  pub look_ends : (result : Result (List ℕ) Refusal) (given : Answer)
      → MatchResult result (ShowsAsked (view_of words) old.inputs old.estate) (λ refusal. LookCause (view_of words) [] old new (answer_to refusal))
      → Leads Stays old.estate new.estate
      → IsMet InputFault old.inputs.faults new.inputs.faults result
      → IsMet (Log log.Fault) old.estate.counts.log_faults new.estate.counts.log_faults result
      → PrintsOutcome answer.Shown result before after given
      → LookOutcome words old new before after given
  look_ends (Ok text) given why stays input met (inl (is, all)) = subst (λ (a : Answer). LookEndsAt a) (sym is) (record {
    text = text;
    cause = shown_cause (view_of words) text old new why;
    prints = all;
    writes_nothing = stays;
    input_met = inl (met_ok InputFault old.inputs.faults new.inputs.faults text input);
    log_met = inl (met_ok (Log log.Fault) old.estate.counts.log_faults new.estate.counts.log_faults text met);
  })
  look_ends (Ok text) given why stays input met (inr (is, fails)) = subst (λ (a : Answer). LookEndsAt a) (sym is) (record {
    text = text;
    cause = unprinted_cause (view_of words) text old new why;
    prints = fails;
    writes_nothing = stays;
    input_met = inl (met_ok InputFault old.inputs.faults new.inputs.faults text input);
    log_met = inl (met_ok (Log log.Fault) old.estate.counts.log_faults new.estate.counts.log_faults text met);
  })
  look_ends (Err refusal) given why stays input met (inl (is, tries)) = subst (λ (a : Answer). LookEndsAt a) (sym is) (record {
    text = [];
    cause = why;
    prints = prints_refusal [] before after refusal tries;
    writes_nothing = stays;
    input_met = met_err InputFault old.inputs.faults new.inputs.faults refusal input;
    log_met = met_err (Log log.Fault) old.estate.counts.log_faults new.estate.counts.log_faults refusal met;
  })
  look_ends (Err refusal) given why stays input met (inr (is, tries)) = subst (λ (a : Answer). LookEndsAt a) (sym is) (record {
    text = [];
    cause = no_memory_cause (view_of words) old new;
    prints = part_of (printed_line [] answer.NoMemory) before after tries;
    writes_nothing = stays;
    input_met = inr (1, omega arith, refl);
    log_met = inr (1, omega arith, refl);
  })
