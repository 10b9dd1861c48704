pub mod Mapped
pub mod Carried
pub mod CarriedPass
pub mod CarriedAsk
pub mod CarriedRun
