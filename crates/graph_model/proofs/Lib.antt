mod Apart
mod Deciding
mod Examples
mod Folds
mod Items
pub mod Laws
mod Linking
mod Making
mod Same
mod Single
mod Steps
mod Widening
mod Winners
