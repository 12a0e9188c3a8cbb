-- For the code's contracts, and no part of the meaning: what records and lists are kept as.
pub mod Ids
pub mod Origins
pub mod Parts
pub mod ShortLists
