mod Examples
mod Gaining
pub mod Laws
mod Licensing
mod Losing
mod Reopened
mod Trace
mod Working
