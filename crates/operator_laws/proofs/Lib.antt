pub mod Laws
mod Aggregates
mod Distinct
mod Joins
mod Limits
mod NodeBags
mod Unary
mod Sections
mod ValueOrder
