-- where steps over fields begin
pub mod Fields
-- the objects whose fields they are
pub mod Receivers
