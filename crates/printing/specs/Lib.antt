pub mod Ascii
pub mod Texts
