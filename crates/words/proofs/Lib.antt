mod Asked  -- the order of what words and totals ask for
mod Bits  -- words bit by bit
mod Pass  -- the law of the pass: bit by bit, the words of edges are their values
mod InputWords  -- the words of inputs
mod OutputWords  -- an output's word
mod Counting  -- how many numbers pass a test, by words
mod Counted  -- a total, counted by passes
