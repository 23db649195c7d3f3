use Rattle.std.proofs.Common.{◌≡◌, ℕ, suc, ◌+◌, ◌*◌, ◌++◌, List, length, map, set}
use Rattle.std.specs.Option.{option_map_or}
use Rattle.row_core.specs.declared.value.Value.{Value}
use Rattle.row_core.specs.declared.value.Value.TheVariants.{Text}
use Rattle.plan_model.specs.Operators.{pieces}
use Rattle.row_collector.specs.Collecting.{Collects}
use Rattle.row_steps.specs.Chained.{chained, ops_of}
use Rattle.row_steps.specs.Pieces.{pieces_left}
use Rattle.row_view.specs.Views.{row_seen}
use Rattle.row_steps.proofs.steps.+push.Given as goal

abbrev pub decreases-push_exploded : goal.decreases-push_exploded
decreases-push_exploded g l = 3 * length l.steps.now + 2

abbrev pub decreases-push_pieces : goal.decreases-push_pieces
decreases-push_pieces g l = 3 * length l.steps.now + 1

abbrev pub decreases-push_row : goal.decreases-push_row
decreases-push_row g l = 3 * length l.steps.now

abbrev pub invariant-push_pieces-loop-rest : goal.invariant-push_pieces-loop-rest
invariant-push_pieces-loop-rest g l =
    (done : List (List ℕ)) × (pieces l.separator l.fn.text ≡ done ++ pieces_left l.separator l.rest)
    × (length l.with_piece.items ≡ length l.row)
    × ((value : Value) → set (row_seen l.with_piece.items) l.column value ≡ set (row_seen l.row) l.column value)
    × (g.C.Collector.width l.out ≡ g.C.Collector.width l.fn.out)
    × (g.C.Collector.kept l.out ≡ g.C.Collector.kept l.fn.out)
    × Collects g.C.Collector.holds l.fn.out l.out (chained (ops_of l.steps) (map (λ piece. set (row_seen l.row) l.column (Text piece)) done))

abbrev pub decreases-push_pieces-loop-rest : goal.decreases-push_pieces-loop-rest
decreases-push_pieces-loop-rest g l = option_map_or (λ text. suc (length text.now)) l.rest 0
