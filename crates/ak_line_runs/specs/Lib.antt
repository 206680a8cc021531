pub mod AcceptedAnswers
pub mod CommandEnds
pub mod LinePrints
pub mod LineRuns
pub mod LineStops
pub mod LineTexts
pub mod RunSteps
