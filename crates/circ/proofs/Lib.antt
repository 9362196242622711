pub mod Ends
pub mod Said
pub mod Told
pub mod Imports
mod Sent
pub mod Halls
mod Parts
mod CheckedRows
mod CountedRows
mod SoundClaims
mod SoundBindings
mod SoundBalances
mod SoundReferences
mod WholeTables
mod Audits
mod AllAudits
mod Migrations
pub mod Keys
