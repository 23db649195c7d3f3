use Rattle.std.proofs.Common.{map, sym, subst, ◌∙◌, ap}
use Rattle.std.specs.Prelude.{string_bytes}
use Rattle.batch_commands.specs.Answers.{status_of}
use Rattle.batch_commands.specs.Causes.{outside}
use Rattle.batch_commands.specs.Orders.{view_of}
use Rattle.batch_commands.specs.Outcomes.{LookOutcome}
use Rattle.batch_commands.specs.declared.answer.Answer.{Answer}
use Rattle.batch_commands.proofs.LookClauses as clauses
use Rattle.batch_commands.proofs.looking.look.Goals as goal

pub returns : goal.returns
returns g c =
    let words = map string_bytes c.args.words.now in
    let old = outside (g.I.Inputs.contents c.args.inputs.now) (g.E.Estate.world c.args.estate.now) in
    let new = outside (g.I.Inputs.contents c.look_answer.new.inputs) (g.E.Estate.world c.look_answer.new.estate) in
    let before = g.P.Printer.printed c.args.printer.now in
    let after = g.P.Printer.printed c.look_answer.new.printer in
    let answer = c.new.result.answer in
    let o : LookOutcome words old new before after answer =
    subst (λ (a : Answer). LookOutcome words old new before after a) (sym c.new.ensures.answer) c.look_answer.ensures in
    let asked = view_of words in
    record {
      writes_nothing = o.writes_nothing;
      shown = clauses.shown words old new before after answer o;
      completes = λ of told job accepted reads prints.
          clauses.completes o.text old new answer asked before after o.cause o.prints of told job accepted reads prints;
      shows_log = λ is told good short reads prints.
          clauses.shows_log o.text old new answer asked before after o.cause o.prints is told good short reads prints;
      words = clauses.words_refuse o.text old new answer asked o.cause;
      usage = clauses.usage words old new before after answer o;
      built = clauses.built words old new before after answer o;
      refused = clauses.refused_for words old new before after answer o;
      refused_always = λ of fault told has. clauses.refused_always o.text old new answer asked fault o.cause of told has;
      too_large = clauses.too_large words old new before after answer o;
      too_large_always = λ is told what number long. clauses.too_large_always o.text old new answer asked o.cause is told what number long;
      bad_log = clauses.bad_log words old new before after answer o;
      bad_log_always = λ is told block event bad. clauses.bad_log_always o.text old new answer asked o.cause is told block event bad;
      input_fault = clauses.input_fault words old new before after answer o;
      log_fault = clauses.log_fault words old new before after answer o;
      print_fault = clauses.print_fault words old new before after answer o;
      input_met = o.input_met;
      log_met = o.log_met;
      print_met = clauses.print_met words old new before after answer o;
      outcome = o;
      status = c.new.ensures.status ∙ ap status_of (sym c.new.ensures.answer);
    }
