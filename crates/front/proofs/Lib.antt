pub mod Walks
pub mod DeskLine
pub mod Tables
pub mod Faults
pub mod Shapes
pub mod CopyRows
pub mod CopyFiles
pub mod CheckFiles
pub mod CopyExamples
pub mod KeyLines
pub mod KeyFiles
mod KeyExamples
