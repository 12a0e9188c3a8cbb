mod Closed
mod Opened
mod Together
