pub mod Exports
pub mod ExportLaws
pub mod Journal
pub mod JournalLaws
pub mod Rebuilt
