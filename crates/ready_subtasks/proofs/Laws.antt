-- The laws that proofs of other crates cite by name, passed on from one place; all else of proofs/ is this crate's own.

-- ---- marks tell what is ready, and stand in groups
pub use Rattle.ready_subtasks.proofs.Marking.{group_within, marked_law}
-- ---- marks are refreshed, one after another
pub use Rattle.ready_subtasks.proofs.Changing.{refreshed_more, refreshed_none}
-- ---- what each event leaves of readiness
pub use Rattle.ready_subtasks.proofs.Feeding.{readiness_decided, readiness_made, readiness_started}
pub use Rattle.ready_subtasks.proofs.Changing.{readiness_touched}
-- ---- attempts come and go
pub use Rattle.ready_subtasks.proofs.Changing.{left_of, readiness_deployed, readiness_dropped, readiness_undropped}
