use Rattle.std.proofs.Common.{rules}
use Rattle.std.proofs.lemmas.Result.{IfOk-weaker}
use Rattle.rect_cover.specs.Covers.{IsCover}
use Rattle.rect_cover.specs.declared.shape_kind.ShapeKind.TheVariants.{RowWise, Keyed}
use Rattle.parallelism_decider.specs.Decisions.{IsDecided, shape_of}
use Rattle.parallelism_decider.proofs.Decided.{decided_rows, decided_keys}
use Rattle.parallelism_decider.proofs.deciding.decide.Goals as goal

pub returns-clause-decided : goal.returns-clause-decided
returns-clause-decided c = search rules

pub returns-clause-row_wise : goal.returns-clause-row_wise
returns-clause-row_wise c =
    IfOk-weaker c.share.result (IsDecided c.args.vertex.now c.args.sizes.now c.args.settings.now) (IsCover (shape_of RowWise c.args.vertex.now c.args.sizes.now))
    (λ subtasks decided. decided_rows c.args.vertex.now c.args.sizes.now c.args.settings.now subtasks c.requires decided) (returns-clause-decided c)

pub returns-clause-keyed : goal.returns-clause-keyed
returns-clause-keyed c keys =
    IfOk-weaker c.share.result (IsDecided c.args.vertex.now c.args.sizes.now c.args.settings.now) (IsCover (shape_of Keyed c.args.vertex.now c.args.sizes.now))
    (λ subtasks decided. decided_keys c.args.vertex.now c.args.sizes.now c.args.settings.now subtasks keys decided) (returns-clause-decided c)
