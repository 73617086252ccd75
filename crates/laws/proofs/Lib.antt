-- The laws that every layer cites, one subject a file.
pub mod Lists
pub mod Lending
pub mod OneByOne
pub mod Every
pub mod Span
pub mod Choice
pub mod Numbers
pub mod Bits
pub mod Bytes
pub mod Keys
pub mod Outcomes
pub mod Answered
pub mod Room
