pub mod Claim
