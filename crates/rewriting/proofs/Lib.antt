-- an edit leaves the rule's table
mod Gate  -- what a rule knows of its gate
mod Edits  -- on an accepted table the edits of lent records are those of the rules
mod RuleBytes  -- what the calls of a rule leave in the buffer
-- voters
mod CopiedGates  -- copying gates, from the last down
mod VoterBytes  -- what room, three copies and the vote leave in the buffer
mod PairSearch  -- the search for the gate that has a pair of nodes among its edges
-- sweep
mod Marks  -- the marks are those of the reached nodes
mod NewNumbers  -- the numbers that sweep gives the nodes
mod SameRest  -- buffers that are the same from one record on
mod ClosedGates  -- closing up the gates, record by record
mod MovedOutputs  -- moving the outputs down closes up the whole
mod Swept  -- closed up and cleared is swept
-- steps and scripts
mod HoldingInstead  -- a table in place of another, in bytes
mod CheckedStep  -- a step on a table that was checked
pub mod Replies  -- what a step replies and leaves
pub mod SoundAfterStep  -- after a step the buffer holds a sound table
pub mod ScriptTurns  -- a script, one turn at a time
mod Scripts  -- what a script is, from the check and its length
pub mod SaidOnce  -- the replies are one-to-one
-- following the gates
pub mod ThroughSteps  -- what goes along with a script, one turn at a time
mod NumbersLeft  -- the numbers of the nodes that sweep leaves, and edges by them
mod FollowedPlaces  -- the places after a step, by its rule
mod Follows  -- what following gates is, from the check, the script's length and the number of places
pub mod PlacesAfter  -- what stands in each place after gates were followed
