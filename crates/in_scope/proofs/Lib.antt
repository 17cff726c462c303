-- Answers: what each answer of the code is in the definitions.
pub mod Answers
