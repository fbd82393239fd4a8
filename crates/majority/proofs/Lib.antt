pub mod Logic  -- the parts of a test that failed, or held
pub mod Every  -- a test of every entry of a table is a test of each
pub mod Seek  -- a search, one turn at a time, and what it finds
pub mod Pass  -- a pass over records: the equation that each worth meets
pub mod Nodes  -- the equation of each node, induction over nodes, congruence
pub mod Formed  -- what a well-formed table gives
pub mod Levels  -- bounds on levels, in place of `max`
pub mod Numbers  -- the bits of the outputs' number
pub mod Order  -- no bad kind: inputs, then gates, then outputs
pub mod Accepted  -- a table is accepted where it is well formed and within its limits, and only there
pub mod MajorityLaws  -- the laws of the majority of three Booleans
pub mod Meanings  -- what the rules ask of a meaning, for values and for levels
