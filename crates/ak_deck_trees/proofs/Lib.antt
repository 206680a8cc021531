pub mod SweptRows
pub mod TreeRules
pub mod TreeAnswers
pub mod AdmittedTrees
