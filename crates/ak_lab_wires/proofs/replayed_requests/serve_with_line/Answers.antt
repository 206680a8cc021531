use Rattle.std.proofs.Common.{ℕ, ap, subst, ◌∙◌, w64}
use Rattle.std.proofs.lemmas.Int.{to_z-of_z}
use Rattle.ak_lab_devices.proofs.InTime.{moment_fits}
use Rattle.ak_lab_wires.specs.Servings.{ServesFront, with_line}
use Rattle.ak_sync_in_memory.specs.Entries.{LoggedState}
use Rattle.ak_lab_wires.proofs.replayed_requests.serve_with_line.Goals as goal

pub returns : goal.returns
returns c =
    let fits = to_z-of_z w64 c.args.at (moment_fits c.args.at c.requires.clock) in (
      c.serve_each-came.new.server,
      subst (λ (s : LoggedState). ServesFront c.args.requests.now c.args.at s c.serve_each-came.new.server c.serve_each-came.result) c.at_line.ensures
          (rw fits at c.serve_each-came.ensures),
      c.at_line-2.ensures ∙ ap (λ (n : ℕ). with_line n c.serve_each-came.new.server) c.line-was.ensures,
    )
