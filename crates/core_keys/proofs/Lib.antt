pub mod ByNumber
pub mod KeyRules
pub mod KeyPages
pub mod OnKeys
pub mod Made
