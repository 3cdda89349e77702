pub mod Kept
pub mod MayLaws
