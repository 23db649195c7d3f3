mod BadPairs
mod DepthLemmas
mod ExprCases
mod ExprLaws
mod ExprSpelling
pub mod Laws
mod TestCases
mod TestLaws
mod TestSpelling
mod WordLemmas
