-- The laws that proofs of other crates cite by name, passed on from one place; all else of proofs/ is this crate's own.

-- ---- which events a step adds, and that runs add legal ones
pub use Rattle.core_model.proofs.Gaining.{Gains, gains}
pub use Rattle.core_model.proofs.Working.{legal_on, run_legal, run_works}
-- ---- what recovery appends
pub use Rattle.core_model.proofs.Reopened.{IsOnward, reopen_legal, reopen_right}
-- ---- what is licensed of each run
pub use Rattle.core_model.proofs.Licensing.{given_on, run_once}
