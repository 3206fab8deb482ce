pub mod MachineLemmas
pub mod OffsetLemmas
pub mod SlotLemmas
pub mod WordLemmas
pub mod WordListLemmas
