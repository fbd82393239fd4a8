-- what is kept, by nodes
pub mod Kept  -- `Kept` of no step, and of steps one after another
pub mod Placed  -- a table is well formed where each record is what its place asks
pub mod KeptByNodes  -- `Kept` from what each node keeps
pub mod Edges  -- an edge after it is flipped, redirected or raised
-- the parts of which rules are made
pub mod Redirect  -- redirecting keeps each node's value, and levels
pub mod GateNodes  -- a gate by its node number: what it reads and is worth
pub mod Become  -- a gate that becomes another of the same value
pub mod Raise  -- the numbers of nodes and edges after gates were inserted
pub mod RaiseNodes  -- nodes keep their worth where their records stand raised in another table
pub mod Insert  -- the records after gates were inserted
pub mod InsertNodes  -- inserting keeps each old node's worth
-- each rule keeps
pub mod Exchange  -- rule 1
pub mod MajorityShare  -- rules 2, 7 and 10
pub mod InsertAndBecome  -- what rules 3 to 5 and 9 have in common
pub mod Associativity  -- rule 3
pub mod Outward  -- rule 4
pub mod Inward  -- rule 5
pub mod Inversion  -- rule 6
-- sweep, rule 8
pub mod KeptNodes  -- how many of the first nodes are kept
pub mod CloseUp  -- closing up keeps a table
pub mod Reached  -- the reached nodes are the least such set
pub mod Sweep  -- sweep keeps
-- error voters, rule 9
pub mod Copies  -- what a copy of the gates up to g is worth
pub mod Pair  -- the gate with two nodes among its edges in the same polarity
pub mod Voter  -- error voters keep
-- steps
pub mod Numbered  -- a rule is known by its number alone
pub mod LowerStay  -- every rule but sweep leaves what stood below g
pub mod Blocks  -- every rule keeps blocks, and gives its gate's to what it inserts
pub mod AcceptedStep  -- a step is accepted where none of its four tests refuses
pub mod Steps  -- what an accepted step keeps, whatever its rule
pub mod Followed  -- what a probe shows after an accepted step
pub mod MovedEdge  -- what becomes of the edge that is kept for a gate, by how the nodes move
