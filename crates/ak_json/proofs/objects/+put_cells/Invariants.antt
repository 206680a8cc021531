use Rattle.std.proofs.Common.{length}
use Rattle.ak_json.proofs.objects.+put_cells.Given as goal

abbrev pub decreases-put_cells : goal.decreases-put_cells
decreases-put_cells l = length l.form.now
