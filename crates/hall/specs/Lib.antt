pub mod Names
pub mod Queue
pub mod Openings
pub mod Handling
pub mod Closings
pub mod Serving
