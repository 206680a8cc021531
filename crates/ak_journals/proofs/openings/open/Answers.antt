use Rattle.std.proofs.Common.{sym, ◌∙◌}
use Rattle.std.proofs.lemmas.Bool.{false≢true}
use Rattle.ak_base.specs.Bytes.{bytes_of_each}
use Rattle.ak_journals.proofs.Moments.{leaves_only}
use Rattle.ak_journals.proofs.ReadFiles.{read_order, read_kept}
use Rattle.ak_journals.proofs.openings.open.Goals as goal

pub returns-clause-read : goal.returns-clause-read
returns-clause-read g c file named = (c.in-Ok.frames.gate, c.in-Ok.ensures.read file named)

pub returns-clause-kept : goal.returns-clause-kept
returns-clause-kept g c =
    read_kept c.in-Ok.frames.gate (bytes_of_each c.in-Ok.frames.payloads.items) (g.D.Disk.content c.args.disk) (g.D.Disk.content c.read_synced.new.disk) c.read_synced.ensures.same c.in-Ok.ensures.read

pub returns-clause-in_order : goal.returns-clause-in_order
returns-clause-in_order g c = record {
  fits = c.in-Ok.ensures.fits;
  none = λ ready. absurd (false≢true ready);
  told = λ file named.
      let was = sym c.read_synced.ensures.same ∙ named in
      read_order c.in-Ok.frames.gate (bytes_of_each c.in-Ok.frames.payloads.items) file (g.D.Disk.may_leave c.read_synced.new.disk) (c.in-Ok.ensures.read file was) (c.in-Ok.ensures.durable file was);
}

pub returns-clause-any_moment : goal.returns-clause-any_moment
returns-clause-any_moment g c =
    leaves_only g.D.Disk.moment g.D.Disk.may_have_left (g.D.Disk.may_leave c.args.disk) c.args.disk c.read_synced.new.disk (g.D.Disk.may_leave c.args.disk) (g.met.D.Disk.only_now c.args.disk) c.read_synced.ensures.time (λ image left. left)
