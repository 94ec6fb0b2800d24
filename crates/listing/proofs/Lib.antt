pub mod Lengths
pub mod Numbered
pub mod Totals
pub mod Turns
pub mod Lines
