use Rattle.std.proofs.Common.{◌≡◌, map, take}
use Rattle.plan_text.specs.Lines.{output_text}
use Rattle.plan_text.proofs.parts.outputs_text.Given as goal

abbrev pub invariant-loop-output : goal.invariant-loop-output
invariant-loop-output l = l.texts.items ≡ map output_text (take l.output-index l.outputs)
