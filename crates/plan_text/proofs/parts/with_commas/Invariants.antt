use Rattle.std.proofs.Common.{◌≡◌, take}
use Rattle.plan_text.specs.Lines.{with_commas}
use Rattle.plan_text.proofs.parts.with_commas.Given as goal

abbrev pub invariant-loop-place : goal.invariant-loop-place
invariant-loop-place l = l.all ≡ with_commas (take l.place l.texts)
