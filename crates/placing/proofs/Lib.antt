pub mod AbleLaws
pub mod Following
pub mod JudgeLaws
pub mod LoopLaws
