mod Coming
mod Folding
mod Leading
mod Once
mod Refusing
mod Starting
