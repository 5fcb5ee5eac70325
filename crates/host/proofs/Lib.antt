-- The laws that the proofs of `host` cite.
-- Numbers: the library's numbers of eight bytes.
-- ReadLaws, AnswerLaws, RunLaws: a call that is read, an answer that is written, the run of a list.
mod Numbers
mod ReadLaws
mod AnswerLaws
mod RunLaws
