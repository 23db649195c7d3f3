-- The laws that proofs of other crates cite by name, passed on from one place; all else of proofs/ is this crate's own.

-- ---- lists and holdings that grow
pub use Rattle.core_crashes.proofs.Growing.{first_refl, first_trans, grows_step, grows_commit, grows_trans, says_within_more, within_more}
-- ---- images since a moment, and how goings begin and compose
pub use Rattle.core_crashes.proofs.Since.{images_since, begun_within, right_within, goes_start, soundly_start, goes_on, soundly_on}
-- ---- what leaves the log, attempts that come and go, one event more
pub use Rattle.core_crashes.proofs.Keeping.{keeps_blocks, begun_keeps, for_keeps, right_keeps, goes_quiet, soundly_quiet, for_changes, right_changes, arrived, arrived_changes, for_event, right_more}
-- ---- a block, a part, the job's commit
pub use Rattle.core_crashes.proofs.Flushing.{with_flushed, flush_refused, flush_refused_soundly, flush_goes, flush_for, flush_right, flush_soundly}
pub use Rattle.core_crashes.proofs.Putting.{epoch_first, put_may, put_goes, put_soundly, put_for, put_right}
pub use Rattle.core_crashes.proofs.Appending.{with_commit, leads_may, commit_goes, commit_for, commit_lands, commit_soundly, commit_right}
-- ---- how a core begins, and how a call goes on from its entry
pub use Rattle.core_crashes.proofs.Beginning.{begin_reopened, right_reopened, commit_known, begin_over, right_over}
pub use Rattle.core_crashes.proofs.Running.{ran_keeps, ran_keeps_soundly, ran_goes, ran_on, within_sound, ran_soundly_on, goes_world, world_keeps}
