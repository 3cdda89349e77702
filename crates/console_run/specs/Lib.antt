pub mod Console
pub mod Between
pub mod Words
pub mod Feed
pub mod TurnLaws
pub mod PrintLaws
pub mod FeedLaws
pub mod SaidLaws
