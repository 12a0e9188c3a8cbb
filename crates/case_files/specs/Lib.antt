pub mod CaseFaults
pub mod CaseFile
pub mod CaseReading
pub mod FileNames
pub mod Glue
pub mod LookUp
pub mod Opening
