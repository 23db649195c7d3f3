pub mod Growth
pub mod Standing
pub mod Goes
pub mod Laws
pub mod Recovered
