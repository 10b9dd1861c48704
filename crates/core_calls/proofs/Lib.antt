pub mod OnBuckets
pub mod OnFiles
pub mod OnBad
