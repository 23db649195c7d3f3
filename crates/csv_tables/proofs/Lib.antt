mod Cells
mod Cuts
mod Digits
mod Fitting
mod Records
mod Rows
mod Slices
