pub mod Numbers
pub mod Agree
pub mod Written
pub mod Found
pub mod ReadOpen
pub mod Said
pub mod Laws
