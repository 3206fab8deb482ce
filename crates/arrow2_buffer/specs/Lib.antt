pub mod ItemLoans
pub mod Loans
