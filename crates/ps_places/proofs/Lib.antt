mod Examples
pub mod Lines
pub mod Making
pub mod Reading
pub mod Rising
pub mod Seeking
