pub mod Kept
pub mod KeptPass
pub mod KeptChange
pub mod KeptPlan
pub mod KeptStep
pub mod Finished
