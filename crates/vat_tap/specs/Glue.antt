-- For the code's contracts, and no part of the meaning: what lanes and taps keep, and the rule of the ticket word.
pub mod Rule
pub mod Taps
