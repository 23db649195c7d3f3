use Rattle.std.proofs.Common.{◌≤◌, ◌<◌, arith}
use Rattle.plan_model.specs.declared.setting.Setting.TheVariants.{MaxParallelism}
use Rattle.plan_model.proofs.settings.Settings.min_parallelism.Goals as goal

pub overflow_cast-result : goal.overflow_cast-result
overflow_cast-result c =
    let low = c.get.ensures.range.1 in
    let high = (c.get.ensures.all MaxParallelism).1 in
    omega (arith, low, high)
