mod Firsts
mod Counting
mod Adding
pub mod Lookups
mod Gaps
mod Referring
mod Binding
mod Audited
mod Found
mod Doubling
