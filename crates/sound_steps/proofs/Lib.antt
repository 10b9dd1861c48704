pub mod Plans
pub mod NewTokens
pub mod Begun
pub mod Outcomes
pub mod TokenTexts
pub mod TokenOrder
