pub mod Cut
pub mod Counts
pub mod Reads
pub mod Kind
