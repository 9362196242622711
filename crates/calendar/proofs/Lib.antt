mod Examples
pub mod DayLemmas
pub mod NearLemmas
pub mod OpeningLemmas
pub mod SinglesLemmas
pub mod WeekLemmas
