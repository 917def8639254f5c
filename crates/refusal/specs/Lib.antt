pub mod RefusalTable
pub mod RefusalText
