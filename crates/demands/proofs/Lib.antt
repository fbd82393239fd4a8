pub mod OneStep  -- one step keeps what it must, and sweep depth itself
pub mod OneScript  -- one script does
pub mod Demand3  -- so do scripts one after another
pub mod Demand3Rm3  -- and the RM3 table of what they leave
pub mod Probes  -- and what probes inside the table show, and the places of followed gates tell
pub mod Blocks  -- and whose block a gate has
-- stored scripts
mod Renumbered  -- a script of which one step is numbered 10
mod ConvertedStep  -- a converted step does what the step did
pub mod Converted  -- and so does a converted script
