pub mod Calls  -- what a step replies and which bytes it leaves (SPEC 5.4)
pub mod Script  -- scripts (SPEC 5.5)
pub mod Through  -- what goes along with a table through a script (SPEC 5.6)
pub mod Follow  -- following the gates of the first table through a script (SPEC 5.7)
pub mod inner  -- what private functions keep
