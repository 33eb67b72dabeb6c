pub mod CountLaws
pub mod EntryLaws
pub mod ReadingLaws
