-- the bytes
mod EdgeOperands  -- how an edge gets its operand
mod TableLaid  -- a record more in the bytes, and the whole
mod EdgeLaid  -- an edge's operand in bytes
mod GateLaid  -- a gate's records in bytes
mod TablePass  -- a pass from record to record: what is left decides
mod NodePass  -- the pass that writes inputs and gates
mod OutputPass  -- the pass that gives outputs their operands
mod FitsBuffer  -- whether the RM3 table fits a buffer
-- the depth
mod LevelPass  -- the pass that sets levels, and what outputs then find there
-- what a caller may conclude
pub mod Replies  -- what a reply of `translate` tells its caller
pub mod Depths  -- what a reply of `rm3_depth` tells its caller
pub mod Claims  -- claimed counts that are those found give the plain reply
