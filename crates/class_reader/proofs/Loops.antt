-- What a loop's turns and its end say of a list that is read item by item.
pub mod InFront
pub mod Counted
pub mod Lists
pub mod Entries
pub mod Units
