-- For the code's contracts, and no part of the meaning: the tables of questions, numbers and calls.
pub mod CallStates
pub mod LentSides
pub mod LifeTables
pub mod QuestionTables
pub mod Sides
