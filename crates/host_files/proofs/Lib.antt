mod ClosedReaders
mod Limited
