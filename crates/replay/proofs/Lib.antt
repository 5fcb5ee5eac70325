-- The laws that the proofs of `replay` cite.
-- AnswerLaws: an answer in front of the rest.
mod AnswerLaws
