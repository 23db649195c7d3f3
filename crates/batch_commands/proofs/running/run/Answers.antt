use Rattle.std.proofs.Common.{map, sym, subst, ◌∙◌, ap}
use Rattle.std.specs.Prelude.{string_bytes}
use Rattle.batch_commands.specs.Answers.{status_of}
use Rattle.batch_commands.specs.Causes.{outside}
use Rattle.batch_commands.specs.Orders.{run_refusal}
use Rattle.batch_commands.specs.Outcomes.{RunOutcome}
use Rattle.batch_commands.specs.declared.answer.Answer.{Answer}
use Rattle.batch_commands.proofs.RunClauses as clauses
use Rattle.batch_commands.proofs.running.run.Goals as goal

pub returns : goal.returns
returns g c =
    let words = map string_bytes c.args.words.now in
    let old = outside (g.I.Inputs.contents c.args.inputs.now) (g.E.Estate.world c.args.estate.now) in
    let new = outside (g.I.Inputs.contents c.run_answer.new.inputs) (g.E.Estate.world c.run_answer.new.estate) in
    let before = g.P.Printer.printed c.args.printer.now in
    let after = g.P.Printer.printed c.run_answer.new.printer in
    let answer = c.new.result.answer in
    let o : RunOutcome words old new before after answer =
    subst (λ (a : Answer). RunOutcome words old new before after a) (sym c.new.ensures.answer) c.run_answer.ensures in
    let refused = run_refusal words in
    record {
      committed = clauses.committed words old new before after answer o;
      adds = o.adds;
      once = λ name. clauses.stays_taken old.inputs old.estate new.estate name o.adds;
      stays = o.stays;
      completes = λ none name reads commits shows.
          clauses.completes refused o.line old new before after answer o.cause o.prints (clauses.is_none refused none) name reads commits shows;
      words = clauses.words_refuse refused o.line old new answer o.cause;
      usage = clauses.usage words old new before after answer o;
      unbuilt = clauses.not_built words old new before after answer o;
      refused = clauses.refused_for words old new before after answer o;
      refused_always = λ none fault told has.
          clauses.refused_always refused o.line old new fault answer o.cause (clauses.is_none refused none) told has;
      id_taken = clauses.taken words old new before after answer o;
      id_taken_always = λ none name. clauses.taken_refused refused o.line old new answer o.cause (clauses.is_none refused none) name;
      input_fault = clauses.input_fault words old new before after answer o;
      sink_fault = clauses.sink_fault words old new before after answer o;
      print_fault = clauses.print_fault words old new before after answer o;
      print_fault_commits = clauses.print_fault_commits words old new before after answer o;
      input_met = o.input_met;
      sink_met = o.sink_met;
      print_met = clauses.print_met words old new before after answer o;
      outcome = o;
      status = c.new.ensures.status ∙ ap status_of (sym c.new.ensures.answer);
    }
