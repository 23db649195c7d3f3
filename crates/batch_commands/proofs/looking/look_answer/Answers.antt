use Rattle.std.proofs.Common.{map}
use Rattle.std.specs.Prelude.{string_bytes}
use Rattle.batch_commands.specs.Causes.{outside}
use Rattle.batch_commands.proofs.Ends.{look_ends}
use Rattle.batch_commands.proofs.looking.look_answer.Goals as goal

pub returns : goal.returns
returns g c =
    let words = map string_bytes c.args.words.now in
    let old = outside (g.I.Inputs.contents c.args.inputs.now) (g.E.Estate.world c.args.estate.now) in
    let new = outside (g.I.Inputs.contents c.asked_text-text.new.inputs) (g.E.Estate.world c.asked_text-text.new.estate) in
    let before = g.P.Printer.printed c.args.printer.now in
    let after = g.P.Printer.printed c.print_outcome.new.printer in
    let text = c.asked_text-text.ensures in
    look_ends words old new before after c.asked_text-text.result c.print_outcome.result text.why text.writes_nothing text.input_met text.log_met c.print_outcome.ensures
