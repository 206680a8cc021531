use Rattle.ak_lab_completes.proofs.Beginning.{new_begins, new_unchanged}
use Rattle.ak_lab_completes.proofs.lab_completeness.new_devices_begin_unhindered.Goals as goal

pub returns : goal.returns
returns c = record {
  begins = λ account number next line name s t printed linked room stands says ends. new_begins account number next line name s t printed linked room
      stands says ends c.lines_keep_labs_linked.ensures c.views_keep_the_collection.ensures;
  unchanged = λ account number next line name s t u printed crossed outcome linked room stands says ends ended. new_unchanged account number next line name s t
      printed linked room stands says ends c.lines_keep_labs_linked.ensures c.views_keep_the_collection.ensures c.unhindered_syncs_complete.ensures.copies u crossed
      outcome ended;
}
