mod ChainRows
mod HeadRows
mod Placed
mod PlanBags
mod SameBags
mod Together
