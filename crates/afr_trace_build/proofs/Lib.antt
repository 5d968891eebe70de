pub mod NameLaws
pub mod MergedLaws
pub mod FilledLaws
pub mod SameLaws
pub mod EntryLaws
pub mod TextLaws
