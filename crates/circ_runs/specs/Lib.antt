pub mod Outside
pub mod Running
pub mod Hosting
