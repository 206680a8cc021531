use Rattle.ak_session.proofs.Slices.{slices_are_the_front, filled_slices_are_all, slices_until_short_are_all, short_slices}
use Rattle.ak_session.proofs.chunk_laws.slices_add_up.Goals as goal

pub returns : goal.returns
returns c = record { front = slices_are_the_front; filled = filled_slices_are_all; until_short = slices_until_short_are_all; short = short_slices }
