-- what a field's name leads to
pub mod Named
-- threads that go on
pub mod Going
-- getstatic
pub mod Reading
-- putstatic
pub mod Writing
-- what the fields of objects hold
pub mod Places
-- the objects
pub mod Receivers
-- getfield
pub mod Getting
-- putfield
pub mod Putting
