pub mod Copies
pub mod Checking
pub mod CopyReading
pub mod KeyReading
pub mod Keys
pub mod Line
pub mod Understood
