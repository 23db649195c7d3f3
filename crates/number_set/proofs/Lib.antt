mod Below
mod Growing
mod Pairing
mod Rising
mod Spreading
