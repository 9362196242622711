pub mod Barcodes
pub mod Findings
pub mod Numbers
pub mod References
pub mod Rows
pub mod Sound
pub mod Spans
