-- The laws that proofs of other crates cite by name, passed on from one place; all else of proofs/ is this crate's own.

-- ---- which events a log says
pub use Rattle.job_soundness.proofs.Logging.{says_same, says_more, says_landed, says_nothing}
-- ---- rows that bytes spell
pub use Rattle.job_soundness.proofs.Reading.{rows_again, are_rows, rows_are}
-- ---- parts by name
pub use Rattle.job_soundness.proofs.Standing.{edges_new, put_apart, true_put}
-- ---- one event more, one part more, the job's commit
pub use Rattle.job_soundness.proofs.Righting.{fold_more, legal_more, true_more, starts_more, graph_more, state_more, epoch_after, right_event, right_started, right_put, once_more, right_commit, none_found, found_none, commit_found}
-- ---- right events are those of an execution
pub use Rattle.job_soundness.proofs.Deciding.{is_run}
