use Rattle.std.proofs.Common.{◌≡◌, ◌-◌, ◌<◌, ◌≤◌, ◌++◌, ◌∷◌, [], ℕ, List, length, sym, ◌∙◌, ap, subst, arith, length-append}
use Rattle.ak_disks.specs.Images.{Wrote}
use Rattle.ak_disks.specs.LogStates.{LogState}
use Rattle.ak_disks.specs.Logs.{happened}
use Rattle.ak_disks.specs.declared.logs.Entry.{Entry}
use Rattle.ak_disks.specs.declared.logs.Entry.TheVariants as entries
use Rattle.ak_disks.proofs.Kept.{log_write, happened_write}
use Rattle.ak_disks.proofs.logs.Log.write.Goals as goal

pub invariant_of-self : goal.invariant_of-self
invariant_of-self c =
    let free = subst (λ (n : ℕ). 0 < n) (sym (ap (λ (s : LogState). s.places) c.self.view_is)) c.requires.place in
    let fits = subst (λ (n : ℕ). length c.args.bytes.now ≤ n) (sym (ap (λ (s : LogState). s.room) c.self.view_is)) c.requires.room in
    let same : length c.as_slice-from.result.now ≡ length c.self.inside.written.items = ap (λ (l : List ℕ). length l) c.as_slice-from.ensures.value in
    log_write _ _ _ _ _ c.add.ensures.items c.add.ensures.len c.add.ensures.capacity free _ _ c.args.bytes.now c.add_bytes.ensures.items c.add_bytes.ensures.len c.add_bytes.ensures.capacity fits c.self.invariant
    (omega (arith, same, length-append c.self.inside.written.items c.args.bytes.now))

pub returns : goal.returns
returns c =
    let items : c.add.new.entries.items ≡ c.self.inside.entries.items ++ entries.Write c.args.place (length c.self.inside.written.items) (length c.args.bytes.now) ∷ [] =
    c.add.ensures.items ∙ ap (λ (l : List ℕ). c.self.inside.entries.items ++ entries.Write c.args.place (length l) (length c.args.bytes.now) ∷ []) c.as_slice-from.ensures.value in
    let events : happened c.add_bytes.new.written.items c.add.new.entries.items ≡ Wrote c.args.place c.args.bytes.now ∷ c.args.self.now.events =
    ap (λ (l : List ℕ). happened l c.add.new.entries.items) c.add_bytes.ensures.items
    ∙ ap (λ (l : List Entry). happened (c.self.inside.written.items ++ c.args.bytes.now) l) items
    ∙ happened_write c.self.inside.written.items c.args.bytes.now c.self.inside.entries.items c.args.place c.self.invariant.within
    ∙ ap (λ (s : LogState). Wrote c.args.place c.args.bytes.now ∷ s.events) c.self.view_is in
    let room : c.self.inside.room ≡ c.args.self.now.room = ap (λ (s : LogState). s.room) c.self.view_is in
    let places : c.self.inside.places ≡ c.args.self.now.places = ap (λ (s : LogState). s.places) c.self.view_is in
    λ i. record { events = events i; room = room i - length c.args.bytes.now; places = places i - 1 }
