mod Agreement
mod Commands
mod Items
mod Numerals
mod Places
mod Steps
