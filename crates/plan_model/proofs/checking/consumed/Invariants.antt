use Rattle.std.proofs.Common.{◌≡◌, ℕ, ◌<◌, nat_eq, false, length, get_or, take}
use Rattle.std.specs.List.{list_any}
use Rattle.plan_model.proofs.checking.consumed.Given as goal

abbrev pub invariant-loop-input : goal.invariant-loop-input
invariant-loop-input l = record {
  len : length l.marks.items ≡ length l.fn.nodes;
  marks : (k : ℕ) → k < length l.fn.nodes → get_or l.marks.items k false ≡ list_any (nat_eq k) (take l.input-index l.input-items);
}
