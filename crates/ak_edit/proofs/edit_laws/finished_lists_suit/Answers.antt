use Rattle.ak_merge.proofs.Sweeps.{lists_after_suit}
use Rattle.ak_edit.specs.Steps.{reversals_in}
use Rattle.ak_edit.proofs.edit_laws.finished_lists_suit.Goals as goal

pub returns : goal.returns
returns c = λ at held edit k l steps left is admits suits.
    lists_after_suit at held is.after edit (reversals_in steps) (reversals_in left) (record { admits = admits; leaves = is.edited }) is.named is.list suits
