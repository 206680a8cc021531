use Rattle.std.proofs.Common.{[], ◌∷◌, List, ℕ, refl, ap, subst, ◌∙◌}
use Rattle.ak_lab.proofs.Coming.{one_printed}
use Rattle.ak_lab_devices.proofs.Placing.{read_there}
use Rattle.ak_lab_devices.specs.Devices.{IsPlaceOf}
use Rattle.ak_lab_devices.specs.declared.devices.Device.{Device}
use Rattle.ak_lab_lines.specs.LabTexts.{requests_text}
use Rattle.ak_lab_lines.specs.declared.lab_lines.LabLine.TheVariants as lines
use Rattle.ak_lab.proofs.labs.Lab.requests.Goals as goal

pub returns-in-Ok-clause-ends : goal.returns-in-Ok-clause-ends
returns-in-Ok-clause-ends c =
    let there = read_there c.args.name.now c.args.self.now.devices.items c.in-Some.place c.index.result.now
    (subst (λ (devices : List Device). IsPlaceOf c.args.name.now devices c.in-Some.place) c.as_slice.ensures.value c.in-Some.ensures) c.index.ensures in
    one_printed (lines.Requests c.args.name.now) _ _ c.in-Ok.text c.one_line.result c.one_line.ensures.ok c.one_line.ensures.err
    (refl, c.index.result.now, there.1, ap (λ (text : List ℕ). text ∷ []) (c.in-Ok.ensures ∙ ap (λ (name : List ℕ). requests_text name c.index.result.now.calls) c.as_str.ensures))
    refl
