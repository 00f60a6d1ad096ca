pub mod ClaimLines
