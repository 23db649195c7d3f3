-- When a running subtask of a vertex is slow.
use Rattle.std.specs.Prelude.{◌≡◌, ◌≤◌, ◌<◌, ◌-◌, ◌*◌, ◌/◌, ℕ, Bool, ◌&&◌, nat_le, nat_lt, max, List, length, map, filter, IsPermutation}
use Rattle.medians.specs.Medians.{IsMedian}
use Rattle.plan_model.specs.declared.setting_values.SettingValues.{SettingValues}
use Rattle.slow_detector.specs.declared.run.Run.{Run}

-- enough of the vertex's subtasks are finished to tell what is slow
pub record EnoughFinished (settings : SettingValues) (parallelism : ℕ) (times : List ℕ)
    : Type 0 where
  pub some : 0 < length times
  pub ratio : settings.slow_ratio * parallelism ≤ 100 * length times

-- the running time from which on a subtask is slow, in milliseconds
abbrev pub baseline : SettingValues → ℕ → ℕ
baseline settings median = max settings.slow_lower_ms (median * settings.slow_percent / 100)

-- whether the subtask has run for this long, and fewer than so many attempts of it run
abbrev pub is_slow : ℕ → ℕ → ℕ → Run → Bool
is_slow now limit attempts run = nat_le limit (now - run.since) && nat_lt run.running attempts

-- the subtasks of the slow ones among the running
abbrev pub slow_subtasks : ℕ → ℕ → ℕ → List Run → List ℕ
slow_subtasks now limit attempts running =
    map (λ run. run.subtask) (filter (is_slow now limit attempts) running)

-- the slow ones among the running, by the median of the finished ones' times
pub record AreTheSlow (settings : SettingValues) (now : ℕ) (times : List ℕ) (running : List Run)
    (subtasks : List ℕ) : Type 0 where
  pub median : ℕ
  pub is_median : IsMedian times median
  pub slow : IsPermutation
      (slow_subtasks now (baseline settings median) settings.attempts running) subtasks
