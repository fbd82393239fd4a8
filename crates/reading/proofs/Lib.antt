pub mod Parts  -- a reading of an accepted table answers as the plain calls do
