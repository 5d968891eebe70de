pub mod EntryTelling
pub mod EntryLaws
