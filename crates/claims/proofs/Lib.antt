-- The proofs of the claims.
-- EngineEnd: what an end makes of an engine.
-- Invariant: what the engine is after a list of calls, from what the reader keeps.
-- InvariantKept: every call keeps that.
-- Accepted: what accepted calls write, on such an engine.
-- CallOutputs: what each call of a list writes and answers.
-- Ran: what each call runs, from what the reader keeps.
-- StepInvariant: the count of the steps, from what the reader keeps; every call keeps it.
-- UnrefusedMessages: what the calls of a message write, of what was not refused.
-- AcceptedMessages: whole messages with room are accepted.
-- Answers: every answer from what the reader keeps.
-- Demand2: bytes, tag, held bytes and steps, call by call.
-- ListOutputs: the bytes of every list of calls, resets included.
-- Demand1: where each refusal comes back and what it leaves.
-- PublicState: what of an engine decides its sheet, beside the verdicts.
-- Demand3: sheets and verdicts, from an invariant between engine and reader.
-- Rejected: the refutations of the engines that the demands reject.
-- MachineDemand3: answers and demand 3 of the engine as a machine, from the same invariant.
-- EngineDemand3: demand 3, and 6 after every list of calls.
-- Shown: whether a tag can be read, on every line.
-- EngineCounts: the steps of every line.
-- EngineDemand2: the engine as a machine meets demand 2.
-- PublicSheet: a sheet is a function of shapes and verdicts.
-- WorkedVerdicts: the verdicts of the list that document 01 works by hand.
-- WholeOpening: document 02, 2026-03, a packet that is opened whole or not.
-- Claims: every final statement in full; begin there.
pub mod EngineEnd
pub mod Invariant
pub mod InvariantKept
pub mod Accepted
pub mod CallOutputs
pub mod Ran
pub mod StepInvariant
pub mod UnrefusedMessages
pub mod AcceptedMessages
pub mod Answers
pub mod Demand2
pub mod ListOutputs
pub mod Demand1
pub mod PublicState
pub mod Demand3
pub mod Rejected
pub mod MachineDemand3
pub mod EngineDemand3
pub mod Shown
pub mod EngineCounts
pub mod EngineDemand2
pub mod PublicSheet
pub mod WorkedVerdicts
pub mod WholeOpening
pub mod Claims
