pub mod Begins  -- a list that grows at its end
-- what stands for what
pub mod Rm3Worth  -- what operands are worth
pub mod Rm3Place  -- the operand that an edge gets
pub mod Rm3Gate  -- a gate's helpers and operation
pub mod Rm3Nodes  -- inputs and gates: records are only put at the end
pub mod Rm3Stands  -- what stands for each input and gate
pub mod Rm3Outputs  -- outputs and their helpers
pub mod Rm3Formed  -- the translation is a well-formed RM3 table
-- what is kept
pub mod Rm3Simulation  -- an operand's worth is related to its node's
pub mod Rm3Laws  -- each output's value, and depth within its bound
pub mod Rm3Blocks  -- whose block each record has
-- sizes
pub mod Totals  -- the sum over records
pub mod Rm3Count  -- how many records each part adds
pub mod Rm3Size  -- how many operations in all
-- what a loop needs
pub mod Rm3ByRecord  -- the translation, record by record
pub mod Rm3Levels  -- levels, told from the majority table
pub mod Rm3Modes  -- the modes have the same depth
-- the patterns
pub mod PatternTable  -- the 27 patterns are what the words say
