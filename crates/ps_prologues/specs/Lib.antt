pub mod Prologues
