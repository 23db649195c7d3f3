-- The ranges of settings: those of the defaults, and those that stand when one setting changes within its range.
use Rattle.std.proofs.Common.{◌≡◌, ◌≤◌, ℕ, nat_le, true, ◌&&◌, arith, lit≤}
use Rattle.std.proofs.lemmas.Bool.Decides.{nat_tests}
use Rattle.plan_model.specs.declared.setting.Setting.{Setting}
use Rattle.plan_model.specs.declared.setting.Setting.TheVariants.{Attempts, BlockMs, BroadcastBytes, FlushEvery, MaxParallelism, MinParallelism, RestartLimit, SkewBytes, SkewPercent, SlotsPerWorker, SlowLowerMs, SlowPercent, SlowRatio, TargetBytes}
use Rattle.plan_model.specs.declared.setting_values.SettingValues.{SettingValues}
use Rattle.plan_model.specs.Settings.{default_values, value_of, with_value, is_within, limits, IsInRange, AreInRange}

-- one range after the other
record Each (v : SettingValues) : Type 0 where
  attempts : IsInRange v Attempts v.attempts
  block_ms : IsInRange v BlockMs v.block_ms
  broadcast_bytes : IsInRange v BroadcastBytes v.broadcast_bytes
  flush_every : IsInRange v FlushEvery v.flush_every
  max_parallelism : IsInRange v MaxParallelism v.max_parallelism
  min_parallelism : IsInRange v MinParallelism v.min_parallelism
  restart_limit : IsInRange v RestartLimit v.restart_limit
  skew_bytes : IsInRange v SkewBytes v.skew_bytes
  skew_percent : IsInRange v SkewPercent v.skew_percent
  slots_per_worker : IsInRange v SlotsPerWorker v.slots_per_worker
  slow_lower_ms : IsInRange v SlowLowerMs v.slow_lower_ms
  slow_percent : IsInRange v SlowPercent v.slow_percent
  slow_ratio : IsInRange v SlowRatio v.slow_ratio
  target_bytes : IsInRange v TargetBytes v.target_bytes

each_of : (v : SettingValues) → AreInRange v → Each v
each_of v h = record { attempts = h Attempts; block_ms = h BlockMs; broadcast_bytes = h BroadcastBytes; flush_every = h FlushEvery; max_parallelism = h MaxParallelism; min_parallelism = h MinParallelism; restart_limit = h RestartLimit; skew_bytes = h SkewBytes; skew_percent = h SkewPercent; slots_per_worker = h SlotsPerWorker; slow_lower_ms = h SlowLowerMs; slow_percent = h SlowPercent; slow_ratio = h SlowRatio; target_bytes = h TargetBytes }

all_of : (v : SettingValues) → Each v → AreInRange v
all_of v h Attempts = h.attempts
all_of v h BlockMs = h.block_ms
all_of v h BroadcastBytes = h.broadcast_bytes
all_of v h FlushEvery = h.flush_every
all_of v h MaxParallelism = h.max_parallelism
all_of v h MinParallelism = h.min_parallelism
all_of v h RestartLimit = h.restart_limit
all_of v h SkewBytes = h.skew_bytes
all_of v h SkewPercent = h.skew_percent
all_of v h SlotsPerWorker = h.slots_per_worker
all_of v h SlowLowerMs = h.slow_lower_ms
all_of v h SlowPercent = h.slow_percent
all_of v h SlowRatio = h.slow_ratio
all_of v h TargetBytes = h.target_bytes

-- the test says what the range is
pub in_range : (v : SettingValues) (setting : Setting) (n : ℕ) → is_within v setting n ≡ true → IsInRange v setting n
in_range v setting n e = between (limits v setting).0 (limits v setting).1 n e
  where
    between : (low high n : ℕ) → (nat_le low n && nat_le n high) ≡ true → (low ≤ n) × (n ≤ high)
    between low high n e = grind (arith, nat_tests)

pub is_within_range : (v : SettingValues) (setting : Setting) (n : ℕ) → IsInRange v setting n → is_within v setting n ≡ true
is_within_range v setting n h = tests (limits v setting).0 (limits v setting).1 n h
  where
    tests : (low high n : ℕ) → (low ≤ n) × (n ≤ high) → (nat_le low n && nat_le n high) ≡ true
    tests low high n h = grind (arith, nat_tests)

each_with : (v : SettingValues) (setting : Setting) (n : ℕ) → Each v → IsInRange v setting n → Each (with_value v setting n)
each_with v Attempts n h new = assumption
each_with v BlockMs n h new = assumption
each_with v BroadcastBytes n h new = assumption
each_with v FlushEvery n h new = assumption
each_with v MaxParallelism n h new = assumption
each_with v MinParallelism n h new = assumption
each_with v RestartLimit n h new = assumption
each_with v SkewBytes n h new = assumption
each_with v SkewPercent n h new = assumption
each_with v SlotsPerWorker n h new = assumption
each_with v SlowLowerMs n h new = assumption
each_with v SlowPercent n h new = assumption
each_with v SlowRatio n h new = assumption
each_with v TargetBytes n h new = assumption

pub in_range_with : (v : SettingValues) (setting : Setting) (n : ℕ) → AreInRange v → is_within v setting n ≡ true → AreInRange (with_value v setting n)
in_range_with v setting n h e = all_of (with_value v setting n) (each_with v setting n (each_of v h) (in_range v setting n e))

pub defaults_in_range : AreInRange default_values
defaults_in_range Attempts = (lit≤ tt, lit≤ tt)
defaults_in_range BlockMs = (lit≤ tt, lit≤ tt)
defaults_in_range BroadcastBytes = (lit≤ tt, lit≤ tt)
defaults_in_range FlushEvery = (lit≤ tt, lit≤ tt)
defaults_in_range MaxParallelism = (lit≤ tt, lit≤ tt)
defaults_in_range MinParallelism = (lit≤ tt, lit≤ tt)
defaults_in_range RestartLimit = (lit≤ tt, lit≤ tt)
defaults_in_range SkewBytes = (lit≤ tt, lit≤ tt)
defaults_in_range SkewPercent = (lit≤ tt, lit≤ tt)
defaults_in_range SlotsPerWorker = (lit≤ tt, lit≤ tt)
defaults_in_range SlowLowerMs = (lit≤ tt, lit≤ tt)
defaults_in_range SlowPercent = (lit≤ tt, lit≤ tt)
defaults_in_range SlowRatio = (lit≤ tt, lit≤ tt)
defaults_in_range TargetBytes = (lit≤ tt, lit≤ tt)
