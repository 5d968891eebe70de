pub mod RenameHears
