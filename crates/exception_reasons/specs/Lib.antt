pub mod Reasons
pub mod Printed
pub mod Exceptions
