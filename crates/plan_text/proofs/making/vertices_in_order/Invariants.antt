use Rattle.std.proofs.Common.{[], map, All}
use Rattle.vertex_builder.specs.Vertices.{head_of, IsVertex}
use Rattle.plan_model.specs.Settings.{default_values}
use Rattle.plan_text.proofs.Rounds.{AfterRounds}
use Rattle.plan_text.proofs.making.vertices_in_order.Given as goal

abbrev pub invariant-loop-place : goal.invariant-loop-place
invariant-loop-place l = record {
  rounds : AfterRounds l.fn.plan [] l.place (map head_of l.vertices.items) l.complete.items;
  vertices : All (IsVertex l.fn.plan [] default_values.max_parallelism) l.vertices.items;
}
