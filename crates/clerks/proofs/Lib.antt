pub mod Agreeing
pub mod Finding
pub mod Examples
