pub mod Cells
pub mod Place
pub mod Quotient
pub mod Sum
pub mod Tabulate
pub mod Written
