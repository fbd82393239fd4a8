pub mod Decoded  -- the records that bytes hold, one by one
pub mod Runs  -- three runs end at the first bad kind
pub mod Faults  -- the first fault of the runs is the table's
pub mod Sound  -- what a call knows of an accepted table
pub mod Gates  -- the gates' bytes in chunks of eight
pub mod Encoded  -- an accepted buffer is the encoding of its table, and the rest
pub mod Written  -- whether a table that is written fits, and what the reply tells the caller
pub mod AfterCheck  -- what a call that checks first knows and replies
pub mod PutField  -- bytes after a field was put
pub mod Put  -- records after a record was put
pub mod HoldsFirst  -- the first records are those wanted, the rest is untouched
pub mod Claims  -- claimed counts that are those found give the plain reply
pub mod InPlaces  -- lent places of which the first were changed
