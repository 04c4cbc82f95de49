pub mod Answer
pub mod Progress
pub mod SettingText
pub mod Values
