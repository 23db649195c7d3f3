-- The settings of a job: their names, defaults and ranges.
use Rattle.std.specs.Prelude.{ℕ, ◌≤◌, nat_le, Bool, ◌&&◌, List, [], ◌∷◌, Option, find, codes}
use Rattle.std.specs.Str.{bytes_eq}
use Rattle.plan_model.specs.declared.setting.Setting.{Setting}
use Rattle.plan_model.specs.declared.setting.Setting.TheVariants.{Attempts, BlockMs, BroadcastBytes, FlushEvery, MaxParallelism, MinParallelism, RestartLimit, SkewBytes, SkewPercent, SlotsPerWorker, SlowLowerMs, SlowPercent, SlowRatio, TargetBytes}
use Rattle.plan_model.specs.declared.setting_values.SettingValues.{SettingValues}

-- the name of a setting
abbrev pub setting_name : Setting → List ℕ
setting_name Attempts = codes "attempts"
setting_name BlockMs = codes "block_ms"
setting_name BroadcastBytes = codes "broadcast_bytes"
setting_name FlushEvery = codes "flush_every"
setting_name MaxParallelism = codes "max_parallelism"
setting_name MinParallelism = codes "min_parallelism"
setting_name RestartLimit = codes "restart_limit"
setting_name SkewBytes = codes "skew_bytes"
setting_name SkewPercent = codes "skew_percent"
setting_name SlotsPerWorker = codes "slots_per_worker"
setting_name SlowLowerMs = codes "slow_lower_ms"
setting_name SlowPercent = codes "slow_percent"
setting_name SlowRatio = codes "slow_ratio"
setting_name TargetBytes = codes "target_bytes"

-- all settings, in byte order of their names
abbrev pub settings : List Setting
settings = Attempts ∷ BlockMs ∷ BroadcastBytes ∷ FlushEvery ∷ MaxParallelism ∷ MinParallelism ∷ RestartLimit ∷ SkewBytes ∷ SkewPercent ∷ SlotsPerWorker ∷ SlowLowerMs ∷ SlowPercent ∷ SlowRatio ∷ TargetBytes ∷ []

-- the setting of this name
abbrev pub setting_named : List ℕ → Option Setting
setting_named name = find (λ setting. bytes_eq (setting_name setting) name) settings

-- what each setting is where a job doesn't say
abbrev pub default_values : SettingValues
default_values = record {
  attempts = 2;
  block_ms = 60000;
  broadcast_bytes = 1048576;
  flush_every = 16;
  max_parallelism = 16;
  min_parallelism = 1;
  restart_limit = 3;
  skew_bytes = 16777216;
  skew_percent = 400;
  slots_per_worker = 1;
  slow_lower_ms = 60000;
  slow_percent = 150;
  slow_ratio = 75;
  target_bytes = 16777216;
}

-- the value of a setting
abbrev pub value_of : SettingValues → Setting → ℕ
value_of v Attempts = v.attempts
value_of v BlockMs = v.block_ms
value_of v BroadcastBytes = v.broadcast_bytes
value_of v FlushEvery = v.flush_every
value_of v MaxParallelism = v.max_parallelism
value_of v MinParallelism = v.min_parallelism
value_of v RestartLimit = v.restart_limit
value_of v SkewBytes = v.skew_bytes
value_of v SkewPercent = v.skew_percent
value_of v SlotsPerWorker = v.slots_per_worker
value_of v SlowLowerMs = v.slow_lower_ms
value_of v SlowPercent = v.slow_percent
value_of v SlowRatio = v.slow_ratio
value_of v TargetBytes = v.target_bytes

-- the settings with this one changed
abbrev pub with_value : SettingValues → Setting → ℕ → SettingValues
with_value v Attempts n = record v { attempts = n }
with_value v BlockMs n = record v { block_ms = n }
with_value v BroadcastBytes n = record v { broadcast_bytes = n }
with_value v FlushEvery n = record v { flush_every = n }
with_value v MaxParallelism n = record v { max_parallelism = n }
with_value v MinParallelism n = record v { min_parallelism = n }
with_value v RestartLimit n = record v { restart_limit = n }
with_value v SkewBytes n = record v { skew_bytes = n }
with_value v SkewPercent n = record v { skew_percent = n }
with_value v SlotsPerWorker n = record v { slots_per_worker = n }
with_value v SlowLowerMs n = record v { slow_lower_ms = n }
with_value v SlowPercent n = record v { slow_percent = n }
with_value v SlowRatio n = record v { slow_ratio = n }
with_value v TargetBytes n = record v { target_bytes = n }

-- the least and the greatest value of a setting; those of the parallelisms lie at one another
abbrev pub limits : SettingValues → Setting → ℕ × ℕ
limits v Attempts = (1, 4)
limits v BlockMs = (0, 86400000)
limits v BroadcastBytes = (0, 1073741824)
limits v FlushEvery = (1, 1024)
limits v MaxParallelism = (v.min_parallelism, 128)
limits v MinParallelism = (1, v.max_parallelism)
limits v RestartLimit = (0, 100)
limits v SkewBytes = (0, 1073741824)
limits v SkewPercent = (100, 10000)
limits v SlotsPerWorker = (1, 8)
limits v SlowLowerMs = (0, 86400000)
limits v SlowPercent = (100, 10000)
limits v SlowRatio = (1, 100)
limits v TargetBytes = (1, 1073741824)

-- a value that a setting may take beside the others
abbrev pub IsInRange : SettingValues → Setting → ℕ → Type 0
IsInRange v setting n = let l = limits v setting in (l.0 ≤ n) × (n ≤ l.1)

-- the test of it
abbrev pub is_within : SettingValues → Setting → ℕ → Bool
is_within v setting n = let l = limits v setting in nat_le l.0 n && nat_le n l.1

-- each setting is in its range
abbrev pub AreInRange : SettingValues → Type 0
AreInRange v = (setting : Setting) → IsInRange v setting (value_of v setting)
