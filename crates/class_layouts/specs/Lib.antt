pub mod ByNumber
pub mod Layouts
