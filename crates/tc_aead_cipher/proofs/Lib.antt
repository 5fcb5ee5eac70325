-- The laws of the variants, the phases, the checks, the replies and the kinds of calls.
pub mod VariantLaws
pub mod PhaseLaws
pub mod CheckLaws
pub mod PacketCheckLaws
pub mod ReplyLaws
pub mod CallKinds
