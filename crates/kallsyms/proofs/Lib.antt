pub mod Addressed
pub mod FieldLaws
pub mod Fielded
pub mod Meant
pub mod Pieced
pub mod Stepped
