pub mod Symmetry
pub mod Equating
pub mod Comparing
pub mod Related
pub mod CvsRow
pub mod NameRow
pub mod NumberRow
pub mod Printing
