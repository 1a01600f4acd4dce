pub mod Signed
pub mod Answers
pub mod Length
