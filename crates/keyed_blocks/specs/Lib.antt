pub mod Bases
pub mod Buffers
pub mod Indexes
pub mod RisingLaws
pub mod Writing
pub mod WritingLaws
