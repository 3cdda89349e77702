pub mod Sinks
pub mod Session
pub mod SinkLaws
pub mod SessionLaws
