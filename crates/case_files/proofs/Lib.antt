pub mod CaseFiles
pub mod CaseReadings
mod CaseTexts
mod FileNaming
pub mod LookUps
mod Pieces
pub mod Refusals
pub mod Openings
