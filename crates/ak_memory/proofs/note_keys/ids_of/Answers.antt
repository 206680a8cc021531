use Rattle.std.proofs.Common.{◌≡◌, ℤ, Bool, true, List, ◌∷◌, ◌++◌, filter, map, sym, subst, ◌∙◌}
use Rattle.std.specs.Ordering.{int_eq}
use Rattle.ak_base.specs.declared.names.Name.{Name}
use Rattle.ak_memory.specs.NoteCards.{keys_from, names_run}
use Rattle.ak_memory.specs.NoteKeys.{NoteKey, is_note}
use Rattle.ak_memory.specs.Places.{note_under}
use Rattle.ak_memory.specs.declared.versions.Version.TheVariants.{Now}
use Rattle.ak_memory.proofs.CardRuns.{run_goes_on}
use Rattle.ak_memory.proofs.note_keys.ids_of.Goals as goal

pub loop-other-preserved : goal.loop-other-preserved
loop-other-preserved c =
    let note : ℤ = c.args.note.now in
    let t : Name → Bool = λ name. is_note note (note_under Now c.args.places.now.entries name) in
    let key : NoteKey = c.in-Some.field-0.now in
    let all : List ℤ = map (λ (name : Name). name.id) (filter t (names_run note (keys_from note c.args.keys.now.keys))) in
    let before : c.loop-other.ids ++ map (λ (name : Name). name.id) (filter t (names_run note (key ∷ c.next.new.self))) ≡ all =
    subst (λ (keys : List NoteKey). c.loop-other.ids ++ map (λ (name : Name). name.id) (filter t (names_run note keys)) ≡ all) c.in-Some.ensures.steps c.loop-other.invariant in
    let same : int_eq key.0 note ≡ true = sym c.is_same.ensures ∙ c.if-not-is_same.false in
    subst (λ (ids : List ℤ). ids ++ map (λ (name : Name). name.id) (filter t (names_run note c.next.new.self)) ≡ all) (sym c.in_ok-push_id.ensures.ok)
    (run_goes_on t note c.loop-other.ids all key c.next.new.self before same)
