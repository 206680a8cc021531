pub mod OutcomeTexts
