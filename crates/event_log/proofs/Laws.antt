-- The laws of logs, which other crates may cite.
use Rattle.std.proofs.Common.{◌≡◌, ℕ, List, Option}
use Rattle.estate.specs.Holding.{StoredPart}
use Rattle.estate.specs.declared.commit.Commit.{Commit}
use Rattle.estate.specs.World.{World, IsWorld}
use Rattle.estate.specs.Changes.{Same, Step, Leads}
use Rattle.event_log.specs.Blocks.{Reads, Breaks}
use Rattle.event_log.specs.Started.{IsStarted}
use Rattle.event_log.proofs.Reading.{reads_once, read_unbroken}
use Rattle.event_log.proofs.StayingStarted.{same_started}

-- a log is read in one way
pub log_reads_once : (log : List ℕ) (a b : List (List ℕ)) → Reads log a → Reads log b → a ≡ b
log_reads_once = reads_once

-- and a log that is read is not broken
pub read_log_is_unbroken : (log : List ℕ) (a b : List (List ℕ)) → Reads log a → ¬ (Breaks log b)
read_log_is_unbroken = read_unbroken

-- a log that was started stays so while the shelf and the sink are called
pub log_stays_started : (end : ℕ) (part : Option StoredPart) (commit : Option Commit) (a b : World) → IsWorld b → Leads (Step Same part commit) a b → IsStarted end a → IsStarted end b
log_stays_started = same_started
