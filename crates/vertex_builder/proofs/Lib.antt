mod Apart
mod Chaining
mod Chains
mod Coming
mod Covered
mod EdgeLists
mod EdgePlaces
mod Examples
mod Following
mod HeadInputs
pub mod Laws
mod Membership
mod Parts
mod Ready
mod Staying
