pub mod Made
pub mod Objects
pub mod Origins
pub mod Positions
pub mod Tokens
