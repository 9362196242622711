mod Examples
pub mod Faults
pub mod WordLemmas
pub mod TableLemmas
pub mod CommandLemmas
pub mod RequestTextLemmas
pub mod ReplyTextLemmas
pub mod ReadingLemmas
pub mod Utf8Lemmas
pub mod KeyLemmas
pub mod Fronts
pub mod OrderLemmas
