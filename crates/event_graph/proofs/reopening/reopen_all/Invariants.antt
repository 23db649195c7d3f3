use Rattle.std.proofs.Common.{◌≡◌, take}
use Rattle.graph_model.specs.States.{without_winners}
use Rattle.event_graph.specs.Numbers.{IsNumbering}
use Rattle.event_graph.proofs.reopening.reopen_all.Given as goal

abbrev pub invariant-loop-place : goal.invariant-loop-place
invariant-loop-place l = record {
  winners : l.vertices ≡ without_winners l.initial.vertices (take l.place l.subs);
  numbering : IsNumbering l.vertices l.numbers;
}
