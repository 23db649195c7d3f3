mod Consumers
mod Counted
mod Looking
mod NodeMakers
mod Next
mod Wide
pub mod Laws
