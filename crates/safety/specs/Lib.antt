pub mod Goes
pub mod Sound
pub mod Parts
pub mod Room
pub mod Leaving
pub mod TestLaws
pub mod CallSafe
