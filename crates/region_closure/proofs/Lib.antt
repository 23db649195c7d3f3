mod Ascending
mod Awaiting
mod Closing
mod Losing
mod Noting
mod Placing
mod Same
