pub mod Accesses
pub mod Privileges
pub mod Fields
pub mod Exceptions
