pub mod Grounds
pub mod Left
pub mod Rounds
pub mod Segments
