pub mod NumberLaws
pub mod RestLaws
