-- For the code's contracts, and no part of the meaning: the tables from which edges are found.
pub mod EdgePlaces
pub mod EdgeTables
pub mod Keys
