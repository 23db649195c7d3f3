use Rattle.std.proofs.Common.{◌≡◌, ℕ, ◌<◌, nat_eq, false, length, get_or, take}
use Rattle.std.specs.List.{list_any}
use Rattle.vertex_builder.proofs.marks.marks_of.Given as goal

abbrev pub invariant-loop-node : goal.invariant-loop-node
invariant-loop-node l = record {
  len : length l.marks.items ≡ l.count;
  marks : (k : ℕ) → k < l.count → get_or l.marks.items k false ≡ list_any (nat_eq k) (take l.node-index l.node-items);
}
