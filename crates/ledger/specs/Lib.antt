pub mod Ledger
pub mod Put
