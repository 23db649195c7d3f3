use Rattle.std.proofs.Common.{map}
use Rattle.std.specs.Prelude.{string_bytes}
use Rattle.batch_commands.specs.Causes.{outside}
use Rattle.batch_commands.proofs.Ends.{run_ends}
use Rattle.batch_commands.proofs.running.run_answer.Goals as goal

pub returns : goal.returns
returns g c =
    let words = map string_bytes c.args.words.now in
    let old = outside (g.I.Inputs.contents c.args.inputs.now) (g.E.Estate.world c.args.estate.now) in
    let new = outside (g.I.Inputs.contents c.run_line-line.new.inputs) (g.E.Estate.world c.run_line-line.new.estate) in
    let before = g.P.Printer.printed c.args.printer.now in
    let after = g.P.Printer.printed c.print_outcome.new.printer in
    let line = c.run_line-line.ensures in
    run_ends words old new before after c.run_line-line.result c.print_outcome.result line.why line.stays line.adds line.input_met line.sink_met c.print_outcome.ensures
