-- The lemmas, in the order in which they are read.
-- What a text is cut into as it goes on.
pub mod LineLemmas
-- The answers to lines that follow one another.
pub mod AnswerLemmas
-- What is written one after another.
pub mod WriteLemmas
-- Where a session stands after each of its steps, up to the end of the input.
pub mod SessionLemmas
