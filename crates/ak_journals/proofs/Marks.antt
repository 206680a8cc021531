-- What each step of a mark leaves, where the content is told.
use Rattle.std.proofs.Common.{◌≡◌, ◌⊎◌, inl, inr, ⊎_elim, ℕ, ◌≤◌, Bool, true, List, [], ◌∷◌, length, take, refl, sym, ◌∙◌, ap, subst, arith, Option, Some, None}
use Rattle.std.specs.Prelude.{IfSome}
use Rattle.std.specs.Option.{option_map, ForSome}
use Rattle.std.proofs.lemmas.List.{take-take, length-take-le}
use Rattle.ak_disks.specs.Disks.{Becomes, Follows, IsTorn, IsCutOrWhole, Only, overwritten}
use Rattle.ak_journal_forms.specs.Frames.{StandsTo}
use Rattle.ak_journals.specs.Moments.{LedBy}
use Rattle.ak_journals.specs.States.{StandsWith, IsSpared, InOrder, kept_before}
use Rattle.ak_journals.proofs.Told.{if_some, for_some, was_told, map_told, becomes_after, mapped_after}
use Rattle.ak_journals.proofs.Orders.{same_order, ready_order, ready_keeps, cut_stands, cut_spared, lone_stands, lone_spared, closed_is}
use Rattle.ak_journals.proofs.Commits.{same_kept}

module _ (gate : ℕ) (ready : Bool) (under_way : Option (List ℕ)) (old_content : Option (List ℕ)) (old_images : List ℕ → Type 0) (order : ForSome old_content (InOrder gate ready under_way old_images)) where
  -- one that might have been left before, or it stands for what is kept
  abbrev Spares : List ℕ → Type 0
  Spares image = old_images image ⊎ ForSome old_content (λ (file : List ℕ). StandsWith None (kept_before gate file) image)

  pub gate_within : IfSome old_content (λ (file : List ℕ). gate ≤ length file)
  gate_within = if_some old_content (λ (file : List ℕ). gate ≤ length file) (λ file named. (order file named).within)

  cut_each : (file : List ℕ) (o : InOrder gate ready under_way old_images file) (image : List ℕ) → LedBy (IsCutOrWhole gate) old_images image → IsSpared under_way (kept_before gate file) gate (take gate file) image
  cut_each file o image led =
      ⊎_elim
      (λ whole. subst (λ (l : List ℕ). IsSpared under_way (kept_before gate file) gate (take gate file) l) (sym whole) (o.each led.0 led.1))
      (λ short. cut_spared gate under_way file o.within o.frames led.0 image (o.each led.0 led.1) short) led.2

  pub cut_spares : (image : List ℕ) → LedBy (IsCutOrWhole gate) old_images image → Spares image
  cut_spares image led =
      ⊎_elim
      (λ whole. inl (subst old_images (sym whole) led.1))
      (λ short. inr (λ file named. let o = order file named in (gate, subst (λ (l : List ℕ). StandsTo (kept_before gate file) gate l) (sym (short ∙ (o.each led.0 led.1).same)) (cut_stands gate under_way file o.within o.frames)))) led.2

  whole_same : (was file : List ℕ) → old_content ≡ Some was → IsCutOrWhole gate was file → take gate file ≡ take gate was
  whole_same was file named cut =
      ⊎_elim (λ whole. ap (λ (l : List ℕ). take gate l) whole) (λ short. ap (λ (l : List ℕ). take gate l) short ∙ take-take gate gate was (omega arith)) cut

  whole_within : (was file : List ℕ) → gate ≤ length was → IsCutOrWhole gate was file → gate ≤ length file
  whole_within was file within cut = ⊎_elim (λ whole. omega (arith, ap length whole, within)) (λ short. omega (arith, ap length short, length-take-le gate was within)) cut

  -- the cut was refused
  pub cut_order : (not_ready : ready ≡ true → ⊥) (new_content : Option (List ℕ)) (new_images : List ℕ → Type 0) → Becomes (IsCutOrWhole gate) old_content new_content → Follows (IsCutOrWhole gate) old_images new_images → ForSome new_content (InOrder gate ready under_way new_images)
  cut_order not_ready new_content new_images becomes follows file named =
      let was = was_told (IsCutOrWhole gate) old_content new_content file becomes named in
      let o = order was.0 was.1 in
      same_order gate ready not_ready under_way was.0 file new_images (whole_same was.0 file was.1 was.2) (whole_within was.0 file o.within was.2) o.frames (λ image left. cut_each was.0 o image (follows image left))

  pub cut_kept : (new_content : Option (List ℕ)) → Becomes (IsCutOrWhole gate) old_content new_content → option_map (kept_before gate) new_content ≡ option_map (kept_before gate) old_content
  cut_kept new_content becomes = same_kept gate (IsCutOrWhole gate) old_content new_content becomes whole_same

  module _ (mid_content : Option (List ℕ)) (mid_images : List ℕ → Type 0) (mid : mid_content ≡ option_map (take gate) old_content) (only : IfSome mid_content (Only mid_images)) where
    pub mid_within : IfSome mid_content (λ (file : List ℕ). gate ≤ length file)
    mid_within =
        if_some mid_content (λ (file : List ℕ). gate ≤ length file)
        (λ file named.
        let was = map_told (take gate) old_content mid_content file mid named in
        omega (arith, ap length was.2, length-take-le gate was.0 (order was.0 was.1).within))

    -- after the cut only the front may be left
    front_only : (file : List ℕ) → old_content ≡ Some file → (image : List ℕ) → LedBy (IsTorn gate 1) mid_images image → IsTorn gate 1 (take gate file) image
    front_only file named image led =
        let told : mid_content ≡ Some (take gate file) = mid ∙ ap (λ (c : Option (List ℕ)). option_map (take gate) c) named in
        subst (λ (l : List ℕ). IsTorn gate 1 l image) (for_some mid_content (Only mid_images) only (take gate file) told led.0 led.1) led.2

    pub lone_spares : (image : List ℕ) → LedBy (IsTorn gate 1) mid_images image → Spares image
    lone_spares image led = inr (λ file named. let o = order file named in lone_stands gate under_way file o.within o.frames image (front_only file named image led))

    abbrev Second : List ℕ → List ℕ → Type 0
    Second was file = IsTorn gate 1 (take gate was) file

    from_first : (new_content : Option (List ℕ)) → Becomes (IsTorn gate 1) mid_content new_content → Becomes Second old_content new_content
    from_first new_content becomes = becomes_after (IsTorn gate 1) (take gate) old_content mid_content new_content mid becomes

    lone_same : (was file : List ℕ) → old_content ≡ Some was → Second was file → take gate file ≡ take gate was
    lone_same was file named torn = torn.before ∙ take-take gate gate was (omega arith)

    -- the gate's write was refused
    pub lone_order : (not_ready : ready ≡ true → ⊥) (new_content : Option (List ℕ)) (new_images : List ℕ → Type 0) → Becomes (IsTorn gate 1) mid_content new_content → Follows (IsTorn gate 1) mid_images new_images → ForSome new_content (InOrder gate ready under_way new_images)
    lone_order not_ready new_content new_images becomes follows file named =
        let was = was_told Second old_content new_content file (from_first new_content becomes) named in
        let o = order was.0 was.1 in
        let longer : length (take gate was.0) ≤ length file = was.2.no_shorter in
        same_order gate ready not_ready under_way was.0 file new_images (lone_same was.0 file was.1 was.2) (omega (arith, longer, length-take-le gate was.0 o.within)) o.frames
        (λ image left. lone_spared gate under_way was.0 o.within o.frames image (front_only was.0 was.1 image (follows image left)))

    pub lone_kept : (new_content : Option (List ℕ)) → Becomes (IsTorn gate 1) mid_content new_content → option_map (kept_before gate) new_content ≡ option_map (kept_before gate) old_content
    lone_kept new_content becomes = same_kept gate Second old_content new_content (from_first new_content becomes) lone_same

    -- both were done
    module _ (new_content : Option (List ℕ)) (new_images : List ℕ → Type 0) (new : new_content ≡ option_map (overwritten gate (0 ∷ [])) mid_content) (only' : IfSome new_content (Only new_images)) where
      abbrev done : List ℕ → List ℕ
      done was = overwritten gate (0 ∷ []) (take gate was)

      done_map : new_content ≡ option_map done old_content
      done_map = mapped_after (take gate) (overwritten gate (0 ∷ [])) old_content mid_content new_content mid new

      pub shut_order : ForSome new_content (InOrder gate true None new_images)
      shut_order file named =
          let was = map_told done old_content new_content file done_map named in
          let o = order was.0 was.1 in
          ready_order gate (kept_before gate was.0) (take gate was.0) file (length-take-le gate was.0 o.within) o.frames
          (was.2 ∙ closed_is gate under_way was.0 o.within o.frames) new_images (for_some new_content (Only new_images) only' file named)

      done_keeps : (was : List ℕ) → old_content ≡ Some was → kept_before gate (overwritten gate (0 ∷ []) (take gate was)) ≡ kept_before gate was
      done_keeps was named =
          let o = order was named in
          ready_keeps gate (kept_before gate was) (take gate was) (overwritten gate (0 ∷ []) (take gate was)) (length-take-le gate was o.within) o.frames (closed_is gate under_way was o.within o.frames)

      pub shut_kept : option_map (kept_before gate) new_content ≡ option_map (kept_before gate) old_content
      shut_kept = kept_map old_content done_map done_keeps
        where
          kept_map : (old : Option (List ℕ)) → new_content ≡ option_map done old → ((was : List ℕ) → old ≡ Some was → kept_before gate (done was) ≡ kept_before gate was) → option_map (kept_before gate) new_content ≡ option_map (kept_before gate) old
          kept_map None is keeps = ap (λ (o : Option (List ℕ)). option_map (kept_before gate) o) is
          kept_map (Some was) is keeps = ap (λ (o : Option (List ℕ)). option_map (kept_before gate) o) is ∙ ap (λ (l : List (List ℕ)). Some l) (keeps was refl)
