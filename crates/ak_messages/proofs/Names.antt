-- Methods and their names.
use Rattle.std.proofs.Common.{◌≡◌, ℕ, ◌==◌, List, Option, Some, None, true, false, if◌then◌else◌, refl, sym, ap, ◌∙◌}
use Rattle.std.specs.Cmp.Lexicographic.{pointwise, bytes_decides}
use Rattle.std.proofs.lemmas.Option.{same_Some}
use Rattle.ak_messages.specs.Methods.{name_of, method_of}
use Rattle.ak_messages.specs.declared.methods.Method.{Method}
use Rattle.ak_messages.specs.declared.methods.Method.TheVariants.{Meta, Start, ApplyGraves, ApplyChanges, Chunk, ApplyChunk, SanityCheck2, Finish, Upload, Download}

pub named : (method : Method) → method_of (name_of method) ≡ Some method
named Meta = refl
named Start = refl
named ApplyGraves = refl
named ApplyChanges = refl
named Chunk = refl
named ApplyChunk = refl
named SanityCheck2 = refl
named Finish = refl
named Upload = refl
named Download = refl

-- a name is that of the first method, or it is read among the others
first_or_other : (name : List ℕ) (first method : Method) (others : Option Method) → (others ≡ Some method → name_of method ≡ name)
    → (if pointwise ◌==◌ name (name_of first) then Some first else others) ≡ Some method → name_of method ≡ name
first_or_other name first method others goes =
    elim (pointwise ◌==◌ name (name_of first)) as (λ b. pointwise ◌==◌ name (name_of first) ≡ b → (if b then Some first else others) ≡ Some method → name_of method ≡ name) [
      | true ↦ λ same is. ap name_of (sym (same_Some first method is)) ∙ sym ((bytes_decides name (name_of first)).0 same)
      | false ↦ λ _ is. goes is
    ] refl

no_other : (name : List ℕ) (method : Method) → ◌≡◌ {A = Option Method} None (Some method) → name_of method ≡ name
no_other name method is = cc

pub named_back : (name : List ℕ) (method : Method) → method_of name ≡ Some method → name_of method ≡ name
named_back name method =
    first_or_other name Meta method _ (first_or_other name Start method _ (first_or_other name ApplyGraves method _ (first_or_other name ApplyChanges method _
    (first_or_other name Chunk method _ (first_or_other name ApplyChunk method _ (first_or_other name SanityCheck2 method _ (first_or_other name Finish method _
    (first_or_other name Upload method _ (first_or_other name Download method None (no_other name method))))))))))
