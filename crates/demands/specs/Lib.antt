pub mod Demand3  -- what rewriting keeps (SPEC 5.6), and what the RM3 table keeps (SPEC 6.3)
pub mod Converted  -- stored scripts converted for rules 2 and 10
pub mod Probes  -- what probes inside a table show, and what a step leaves below its gate (SPEC 5.6); what the places of followed gates tell (SPEC 5.7)
pub mod Blocks  -- whose block a gate has (SPEC 5.6)
