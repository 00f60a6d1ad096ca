-- A run of the plan and a run of the segment's steps are led side by side, stage by stage: `agrees_then` (Joining)
-- joins two stages, and each goes on by `on_goes` or ends by `on_over`. The stages stand from the last one up: Leaving
-- (redirects, restart), Rounds (one round of a list), Directory, Reaching (who may pass, whether rules run), Arriving
-- (name, walk, files, sections), Server. What the laws of plans don't say of a list is in Stored (the file name stays)
-- and Once (no variable's name stands twice), and of naming in Names.
pub mod Common
pub mod Stored
pub mod Once
pub mod Joining
pub mod Leaving
pub mod Rounds
pub mod Directory
pub mod Merged
pub mod Names
pub mod Reaching
pub mod Arriving
pub mod Server
pub mod Counting
pub mod Passes
