use Rattle.std.proofs.Common.{◌≡◌, take}
use Rattle.ak_journal_folds.specs.Folds.{IsReady}
use Rattle.ak_base.specs.Bytes.{bytes_of_each}
use Rattle.ak_journal_rows.specs.Changes.{nothing_held}
use Rattle.ak_journal_rows.specs.Texts.{LeadTo}
use Rattle.ak_journal_folds.proofs.folds.fold.Given as goal

-- the payloads so far lead to what is held
abbrev pub invariant-loop-payload : goal.invariant-loop-payload
invariant-loop-payload l =
    record {
      ready : IsReady l.keeper;
      led : LeadTo nothing_held (bytes_of_each (take l.payload-index l.payloads)) l.keeper.kept.current;
      place : l.place ≡ l.payload-index;
    }
