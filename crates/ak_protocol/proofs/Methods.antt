-- Methods by their places.
use Rattle.std.specs.Prelude.{◌≡◌, ℕ, true, List, [], ◌∷◌, get_or}
use Rattle.std.proofs.Common.{refl, sym, ap, ◌∙◌}
use Rattle.std.proofs.lemmas.Bool.{eqb-true}
use Rattle.ak_messages.specs.declared.methods.Method.{Method}
use Rattle.ak_messages.specs.declared.methods.Method.TheVariants as methods
use Rattle.ak_session.specs.Requests.{method_place, same_method}

abbrev all_methods : List Method
all_methods =
    methods.Meta ∷ methods.Start ∷ methods.ApplyGraves ∷ methods.ApplyChanges ∷ methods.Chunk
    ∷ methods.ApplyChunk ∷ methods.SanityCheck2 ∷ methods.Finish ∷ methods.Upload ∷ methods.Download ∷ []

at_its_place : (method : Method) → get_or all_methods (method_place method) methods.Meta ≡ method
at_its_place methods.Meta = refl
at_its_place methods.Start = refl
at_its_place methods.ApplyGraves = refl
at_its_place methods.ApplyChanges = refl
at_its_place methods.Chunk = refl
at_its_place methods.ApplyChunk = refl
at_its_place methods.SanityCheck2 = refl
at_its_place methods.Finish = refl
at_its_place methods.Upload = refl
at_its_place methods.Download = refl

-- methods at one place are the same
pub same_method_is : (a b : Method) → same_method a b ≡ true → a ≡ b
same_method_is a b same =
    sym (at_its_place a) ∙ ap (λ (n : ℕ). get_or all_methods n methods.Meta) (eqb-true (method_place a) (method_place b) same) ∙ at_its_place b
