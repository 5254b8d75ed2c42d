pub mod Memory
pub mod TraceOf
pub mod Choice
pub mod FlushLists
