mod NetworkRecords  -- the records of an entry's table, one by one
pub mod EveryEntry  -- each entry computes its own number: one test over all of them
pub mod Replies  -- what a reply of `catalogue` tells its caller
