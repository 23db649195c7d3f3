mod Lists
mod Winners
mod Keeps
mod Allowing
