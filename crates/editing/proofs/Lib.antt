pub mod Changed  -- the records of a table that was changed, or has grown
pub mod Loops  -- the loops that edit records
pub mod Holds  -- a table held at a buffer's front, told byte by byte
pub mod Inserted  -- gates put in the places that were made for them
