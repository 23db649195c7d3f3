mod Cuts
mod Places
