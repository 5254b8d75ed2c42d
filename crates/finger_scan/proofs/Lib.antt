pub mod ScanBits
pub mod Lanes
