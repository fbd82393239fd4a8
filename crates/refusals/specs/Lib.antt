pub mod Why  -- the numbers of each refusal (SPEC 3)
pub mod Reply  -- a call's reply, by numbers; and what follows an accepted one
pub mod Shown  -- a refusal in words (SPEC 9)
