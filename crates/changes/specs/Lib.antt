pub mod Replied
pub mod ReplyLaws
