pub mod EachCrossed
pub mod LabBreaks
pub mod LabCrossings
pub mod LabJoins
pub mod LabMishaps
pub mod LabWords
