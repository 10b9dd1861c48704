pub mod TokenForms
pub mod Giving
pub mod OnTokens
pub mod OnAccount
