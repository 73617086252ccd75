pub mod Cut
pub mod Driving
pub mod Told
pub mod Proved
