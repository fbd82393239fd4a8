-- Not in the document: what contracts of private functions say, loops above all.
pub mod Fitting  -- a step that no test refuses
pub mod Marks  -- the marks of sweep
pub mod ClosedUp  -- how far sweep has closed up
pub mod Swept  -- what sweep leaves
pub mod Asked  -- what a script is refused for before its first step
pub mod Applied  -- what a step makes of a buffer whose table was checked
pub mod Stepped  -- a step on an accepted table, taken or refused
pub mod Copied  -- what copying gates leaves in a buffer
pub mod Places  -- the places of followed gates, one step on
