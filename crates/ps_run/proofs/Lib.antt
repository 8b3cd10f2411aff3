pub mod Written
pub mod Driven
mod Examples
pub mod Held
pub mod Ranges
pub mod ManyRuns
pub mod EachOrder
pub mod EachWorld
pub mod ReadParts
pub mod Streamed
pub mod Tellings
