pub mod ServedSoFar
pub mod CountedFailures
pub mod OneRunLaws
