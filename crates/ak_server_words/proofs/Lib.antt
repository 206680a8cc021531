pub mod CommandFacts
