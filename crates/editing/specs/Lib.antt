pub mod Edited  -- what edits of records leave in a buffer (SPEC 5.2)
