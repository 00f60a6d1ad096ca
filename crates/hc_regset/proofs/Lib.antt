-- A loop over members that may refuse keeps "some result so far, which with the members that are left makes
-- the whole" as a record (Setting).
pub mod Common
pub mod Setting
pub mod Tables
