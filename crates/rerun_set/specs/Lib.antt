pub mod Found
pub mod Reruns
