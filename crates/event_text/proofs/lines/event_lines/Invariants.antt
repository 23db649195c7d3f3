use Rattle.std.proofs.Common.{◌≡◌, take}
use Rattle.event_text.specs.Lines.{event_lines}
use Rattle.event_text.proofs.lines.event_lines.Given as goal

abbrev pub invariant-loop-event : goal.invariant-loop-event
invariant-loop-event l = l.text ≡ event_lines (take l.event-index l.event-items)
