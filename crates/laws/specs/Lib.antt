-- The definitions that every layer cites.
pub mod Words
pub mod Tests
pub mod Lists
pub mod Lending
pub mod Outcomes
pub mod Refusals
