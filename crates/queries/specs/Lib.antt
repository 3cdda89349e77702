pub mod Readable
pub mod Opens
pub mod Own
pub mod OpenLaws
pub mod BlockLaws
pub mod RowLaws
pub mod UnsoundLaws
