pub mod Workers
pub mod Rule
pub mod Showing
