pub mod Checked
pub mod Lines
pub mod Making
pub mod OrderLaws
pub mod Planned
