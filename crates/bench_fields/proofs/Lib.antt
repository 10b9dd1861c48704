pub mod Routed
