use Rattle.std.proofs.Common.{◌≡◌, map, take}
use Rattle.plan_text.specs.Lines.{input_text}
use Rattle.plan_text.proofs.parts.inputs_text.Given as goal

abbrev pub invariant-loop-input : goal.invariant-loop-input
invariant-loop-input l = l.texts.items ≡ map input_text (take l.input-index l.inputs)
