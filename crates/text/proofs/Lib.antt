pub mod Digits
pub mod Tables
