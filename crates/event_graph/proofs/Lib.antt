mod Asked
mod Closed
mod Completing
mod Counting
mod Decided
mod Feeding
mod Jobs
mod Keeping
mod KeptDecided
mod Made
mod Numbering
mod Reopened
mod Spans
mod Touched
mod Undecided
pub mod Laws
