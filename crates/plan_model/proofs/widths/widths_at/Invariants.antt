use Rattle.std.proofs.Common.{◌≡◌, ◌≤◌, All, take}
use Rattle.plan_model.specs.Widths.{input_widths}
use Rattle.plan_model.proofs.widths.widths_at.Given as goal

abbrev pub invariant-loop-input : goal.invariant-loop-input
invariant-loop-input l = record {
  widths : l.found.items ≡ input_widths l.widths (take l.input-index l.inputs);
  narrow : All (λ width. width ≤ 256) l.found.items;
}
