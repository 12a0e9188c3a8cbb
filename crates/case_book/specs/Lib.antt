pub mod Least
pub mod Glue
pub mod Case
pub mod Ties
pub mod Pieces
pub mod Books
