use Rattle.std.proofs.Common.{◌≡◌, ◌<◌, ◌≤◌, ℕ, All, get_or, length, take}
use Rattle.plan_eval.proofs.takers.mark.Given as goal

abbrev pub invariant-loop-input : goal.invariant-loop-input
invariant-loop-input l = record {
  long : length l.last.items ≡ length l.initial.last.items;
  raised : (other : ℕ) → get_or l.initial.last.items other 0 ≤ get_or l.last.items other 0;
  marked : All (λ input. input < length l.initial.last.items → l.place ≤ get_or l.last.items input 0) (take l.input-index l.inputs);
}
