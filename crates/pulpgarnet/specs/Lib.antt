pub mod Replies  -- the numbers of each reply (SPEC 10)
