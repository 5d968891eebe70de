pub mod EntryHears
