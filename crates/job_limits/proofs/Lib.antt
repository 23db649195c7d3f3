pub mod Laws
mod Within
