pub mod Verdict
pub mod Ready
pub mod TestLaws
pub mod EffectLaws
pub mod SoundLaws
pub mod VerdictLaws
pub mod ReadyLaws
pub mod StartLaws
