pub mod FaultTable
pub mod Fault
pub mod Denied
pub mod LifecycleRules
pub mod Answer
pub mod Need
pub mod Naming
pub mod KeyId
