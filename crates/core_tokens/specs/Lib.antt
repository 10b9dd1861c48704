pub mod Giving
pub mod ShownTokens
pub mod Accounts
