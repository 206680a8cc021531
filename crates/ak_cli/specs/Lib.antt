pub mod ProgramEnds
pub mod Programs
