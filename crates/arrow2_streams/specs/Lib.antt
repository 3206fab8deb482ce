pub mod FaultTexts
pub mod Watching
