-- Ways are defined for whatever is kept of the groups; one lemma on images gives each form from any other,
-- and that what is kept decides nothing (Images).
pub mod Common
pub mod Lists
pub mod Behind
pub mod Turns
pub mod Images
pub mod LastTurns
pub mod Bytes
