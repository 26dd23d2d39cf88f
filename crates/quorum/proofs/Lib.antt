pub mod BitLemmas
pub mod Majorities
pub mod Meet
pub mod MoreVotes
pub mod SharedReplicas
pub mod Votes
