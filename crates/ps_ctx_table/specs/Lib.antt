pub mod Seats
pub mod Lends
pub mod Worlds
pub mod Desks
pub mod Moves
