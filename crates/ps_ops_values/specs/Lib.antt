pub mod Relations
pub mod Formed
pub mod TextReads
pub mod Asks
pub mod Stacks
