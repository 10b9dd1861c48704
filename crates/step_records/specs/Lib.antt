pub mod StepRecords
pub mod Fronts
