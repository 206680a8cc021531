pub mod EitherWires
