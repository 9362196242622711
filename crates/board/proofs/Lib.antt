pub mod Beginnings
pub mod Keeping
pub mod Lasts
pub mod PageLists
pub mod Telling
pub mod Turning
