use Rattle.ak_messages.proofs.Names.{named_back}
use Rattle.ak_messages.proofs.laws.names_are_of_methods.Goals as goal

pub returns : goal.returns
returns c = named_back
