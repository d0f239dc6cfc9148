pub mod Above
pub mod FirstFound
pub mod FirstFault
pub mod Linked
pub mod Laws
