-- How long a log may be.
use Rattle.std.specs.Prelude.{ℕ, ◌<◌}
use Rattle.event_log.specs.declared.log.TheConstants.{LOG_LIMIT}

-- a closed gate at this place lies within a log of the most bytes
abbrev pub LiesWithin : ℕ → Type 0
LiesWithin end = end < LOG_LIMIT
