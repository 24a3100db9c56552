pub mod Kinds
pub mod Reading
pub mod RawOrders
pub mod Walks
pub mod Runs
pub mod Files
pub mod Law
pub mod Worked
