pub mod Maps
pub mod Shapes
pub mod Calls
pub mod Batches
