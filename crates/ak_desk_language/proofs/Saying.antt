-- What is read of the form of a text is what the text says.
use Rattle.std.proofs.Common.{◌≡◌, ℕ, ℤ, pos, List, [], ◌∷◌, Option, Some, None, Result, Ok, Err, IfOk, IfErr, inl, inr, ◌⊎◌, refl, sym, subst, ◌∙◌}
use Rattle.std.specs.Option.{MatchOption}
use Rattle.ak_desk_language.specs.declared.desk_lines.DeskLine.{DeskLine}
use Rattle.ak_desk_language.specs.declared.desk_lines.DeskLine.TheVariants as lines
use Rattle.ak_desk_language.specs.declared.line_faults.LineFault.{LineFault}
use Rattle.ak_desk_language.specs.declared.line_faults.LineFault.TheVariants as faults
use Rattle.ak_desk_language.specs.declared.verbs.Verb.{Verb}
use Rattle.ak_desk_language.specs.declared.verbs.Verb.TheVariants as verbs
use Rattle.ak_desk_language.specs.Contents.{RefusesContent}
use Rattle.ak_desk_language.specs.DeskLines.{MeansLine, SaysLine, IsInRange, HasNoForm, RefusesEnd, RefusesLine}
use Rattle.ak_desk_language.specs.Faults.{OrMemory}
use Rattle.ak_desk_language.specs.LineForms.{LineForm, HasForm, AreInRanges, end_text}
use Rattle.ak_desk_language.specs.Reading.{form_of, ReadsForm, RefusesForm}
use Rattle.ak_desk_language.specs.Verbs.{ranges_of, content_of}
use Rattle.ak_desk_language.proofs.FormsRead.{form_read}
use Rattle.ak_desk_language.proofs.FormsWritten.{form_written}

says : (text : List ℕ) (line : DeskLine) → ReadsForm (form_of text) line → SaysLine text line
says text line h =
    elim (form_of text) as (λ o. form_of text ≡ o → ReadsForm o line → SaysLine text line) [
      | None ↦ λ _ m. absurd m
      | Some f ↦ λ is m. (f, form_written text f is, m)
    ] refl h

pub line_says : (text : List ℕ) (r : Result DeskLine LineFault) → IfOk r (ReadsForm (form_of text)) → IfOk r (SaysLine text)
line_says text (Ok line) h = says text line h
line_says text (Err fault) h = tt

-- the numbers of a form are in the ranges of its verb
in_ranges : (text : List ℕ) (f : LineForm) (verb : Verb) (zs : List ℤ) → HasForm text f → f.verb ≡ verb → f.numbers ≡ zs → AreInRanges (ranges_of verb) zs
in_ranges text f verb zs h v n = subst (λ x. AreInRanges (ranges_of x) zs) v (subst (AreInRanges (ranges_of f.verb)) n h.numbers)

within : (text : List ℕ) (f : LineForm) (line : DeskLine) → HasForm text f → MeansLine f line → IsInRange line
within text f (lines.SetSpread spread) h m = (in_ranges text f verbs.Spread (spread ∷ []) h m.0 m.1).0
within text f (lines.Flag value cards) h m = (in_ranges text f verbs.Flag (value ∷ []) h m.0.0 m.0.1).0
within text f (lines.Answer card button taken) h m = (in_ranges text f verbs.Answer (card ∷ pos button ∷ pos taken ∷ []) h m.0 m.1).1.0
within text f line h m = tt

pub line_within : (text : List ℕ) (r : Result DeskLine LineFault) → IfOk r (ReadsForm (form_of text)) → IfOk r IsInRange
line_within text (Ok line) h = let s = says text line h in within text s.0 line s.1 s.2
line_within text (Err fault) h = tt

-- the form is not there, or the text at its end has the fault
abbrev Fails : Option LineForm → LineFault → Type 0
Fails form fault = MatchOption form (fault ≡ faults.BadLine) (λ f. RefusesContent (content_of f.verb) (end_text f.tail) fault)

fails : (text : List ℕ) (fault : LineFault) → Fails (form_of text) fault → ((fault ≡ faults.BadLine) × HasNoForm text) ⊎ RefusesEnd text fault
fails text fault h =
    elim (form_of text) as (λ o. form_of text ≡ o → Fails o fault → ((fault ≡ faults.BadLine) × HasNoForm text) ⊎ RefusesEnd text fault) [
      | None ↦ λ none is. inl (is, λ f has. let e : ◌≡◌ {A = Option LineForm} None (Some f) = sym none ∙ form_read text f has in cc)
      | Some f ↦ λ is m. inr (f, form_written text f is, m)
    ] refl h

refuses : (text : List ℕ) (fault : LineFault) → RefusesForm (form_of text) fault → RefusesLine text fault
refuses text faults.BadLine h = fails text faults.BadLine h
refuses text (faults.Json fault) h = fails text (faults.Json fault) h
refuses text (faults.Search fault) h = fails text (faults.Search fault) h
refuses text faults.Memory h = tt

pub line_refused : (text : List ℕ) (r : Result DeskLine LineFault) → IfErr r (RefusesForm (form_of text)) → IfErr r (RefusesLine text)
line_refused text (Ok line) h = tt
line_refused text (Err fault) h = refuses text fault h
