pub mod InAreas
pub mod Moments
pub mod Tears
pub mod PastSteps
pub mod ThreeImages
