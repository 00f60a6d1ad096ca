pub mod Addresses
pub mod Forms
pub mod Networks
pub mod Numbers
pub mod Printed
