pub mod Walks
pub mod Overlaps
pub mod NoFault
pub mod OtherNames
pub mod PlanPass
pub mod SortedRows
pub mod WholeBucket
