-- What the clauses of this crate's public functions say, by name.
pub mod Answers
pub mod Asked
pub mod Marks
pub mod Notes
pub mod Numbers
pub mod Store
