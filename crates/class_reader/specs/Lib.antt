pub mod Gives
pub mod Head
pub mod Units
pub mod Entries
pub mod Owner
pub mod MemberKind
pub mod ClassBody
