mod Commas
mod EachHead
mod Examples
mod Inputs
mod Membership
mod Printed
mod Rounds
mod Shown
