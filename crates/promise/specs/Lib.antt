pub mod Promise
pub mod Lists
pub mod Prints
pub mod Exports
