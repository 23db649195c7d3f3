use Rattle.std.proofs.Common.{◌≡◌, take}
use Rattle.plan_text.specs.Lines.{vertex_lines}
use Rattle.plan_text.proofs.lines.vertex_lines.Given as goal

abbrev pub invariant-loop-number : goal.invariant-loop-number
invariant-loop-number l = l.text ≡ vertex_lines 0 (take l.number l.vertices)
