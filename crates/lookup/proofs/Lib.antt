pub mod Asking
pub mod Alone
pub mod Noting
pub mod Saying
pub mod RowNoting
pub mod RowSaying
pub mod Chaining
pub mod RowFinding
