-- The laws that proofs of other crates cite by name; all else of proofs/ is this crate's own.
pub use Rattle.job_limits.proofs.Within.{job_constants_fit}
