-- What each step of a commit leaves, where the content is told.
use Rattle.std.proofs.Common.{◌≡◌, inl, ℕ, ◌+◌, ◌^◌, ◌<◌, ◌≤◌, Bool, true, false, List, [], ◌∷◌, ◌++◌, length, take, refl, sym, ◌∙◌, ap, subst, arith, Option, Some, None}
use Rattle.std.specs.Prelude.{IfSome}
use Rattle.std.specs.Option.{option_map, ForSome}
use Rattle.std.proofs.lemmas.Bool.{false≢true}
use Rattle.ak_disks.specs.Disks.{Becomes, Follows, IsTorn, Only, overwritten}
use Rattle.ak_journal_forms.specs.Frames.{behind_gate, frame_of, payloads_in}
use Rattle.ak_journal_forms.proofs.Images.{front_kept}
use Rattle.ak_journals.specs.Moments.{LedBy}
use Rattle.ak_journals.specs.States.{StandsWith, IsSpared, InOrder, kept_before}
use Rattle.ak_journals.proofs.Told.{if_some, for_some, was_told, map_told, becomes_after, mapped_after}
use Rattle.ak_journals.proofs.Orders.{same_order, long, ready_stands, ready_order, ready_keeps, staged_spared, staged_within, staged_front, opened_spared, opened_is, opened_size, opened_frames}

-- the same payloads are kept where the front is the same
pub same_kept : (gate : ℕ) (step : List ℕ → List ℕ → Type 0) (old new : Option (List ℕ)) → Becomes step old new → ((was file : List ℕ) → old ≡ Some was → step was file → take gate file ≡ take gate was)
    → option_map (kept_before gate) new ≡ option_map (kept_before gate) old
same_kept gate step None new becomes front = ap (λ (o : Option (List ℕ)). option_map (kept_before gate) o) becomes
same_kept gate step (Some was) new (file, is, so) front =
    ap (λ (o : Option (List ℕ)). option_map (kept_before gate) o) is ∙ ap (λ (l : List ℕ). Some (payloads_in l)) (front was file refl so)

-- and others after a call that was done
pub next_kept : (gate gate' : ℕ) (f : List ℕ → List ℕ) (next : List (List ℕ) → List (List ℕ)) (old new : Option (List ℕ)) → new ≡ option_map f old → ((was : List ℕ) → old ≡ Some was → kept_before gate' (f was) ≡ next (kept_before gate was))
    → option_map (kept_before gate') new ≡ option_map next (option_map (kept_before gate) old)
next_kept gate gate' f next None new is keeps = ap (λ (o : Option (List ℕ)). option_map (kept_before gate') o) is
next_kept gate gate' f next (Some was) new is keeps =
    ap (λ (o : Option (List ℕ)). option_map (kept_before gate') o) is ∙ ap (λ (l : List (List ℕ)). Some l) (keeps was refl)

module _ (gate : ℕ) (ready : Bool) (none : Option (List ℕ)) (payload : List ℕ) (old_content : Option (List ℕ)) (old_images : List ℕ → Type 0) (order : ForSome old_content (InOrder gate ready none old_images)) (is_ready : ready ≡ true) where
  count : ℕ
  count = length (behind_gate payload)

  -- before the first step
  pub now_stands : (image : List ℕ) → old_images image → ForSome old_content (λ (file : List ℕ). StandsWith (Some payload) (kept_before gate file) image)
  now_stands image left file named =
      let o = order file named in
      subst (λ (l : List ℕ). StandsWith (Some payload) (kept_before gate file) l) (sym (o.durable is_ready image left))
      (inl (gate, ready_stands gate payload file o.within o.frames (o.shut is_ready)))

  -- a place stands behind the gate
  pub place_behind : IfSome old_content (λ (file : List ℕ). gate + 1 ≤ length file)
  place_behind =
      if_some old_content (λ (file : List ℕ). gate + 1 ≤ length file)
      (λ file named. let o = order file named in omega (arith, long gate payload file o.within o.frames (o.shut is_ready)))

  staged_each : (file : List ℕ) (o : InOrder gate ready none old_images file) (image : List ℕ) → LedBy (IsTorn (gate + 1) (length (behind_gate payload))) old_images image → IsSpared (Some payload) (kept_before gate file) gate (take gate file) image
  staged_each file o image led =
      staged_spared gate payload file o.within o.frames (o.shut is_ready) (length (behind_gate payload)) image
      (subst (λ (l : List ℕ). IsTorn (gate + 1) (length (behind_gate payload)) l image) (o.durable is_ready led.0 led.1) led.2)

  pub staged_stands : (image : List ℕ) → LedBy (IsTorn (gate + 1) (length (behind_gate payload))) old_images image → ForSome old_content (λ (file : List ℕ). StandsWith (Some payload) (kept_before gate file) image)
  staged_stands image led file named = (staged_each file (order file named) image led).stands

  staged_same : (was file : List ℕ) → old_content ≡ Some was → IsTorn (gate + 1) (length (behind_gate payload)) was file → take gate file ≡ take gate was
  staged_same was file named torn =
      let o = order was named in
      let longer : length was ≡ gate + 1 = long gate payload was o.within o.frames (o.shut is_ready) in
      front_kept gate (length (behind_gate payload)) was file (omega (arith, longer)) torn

  -- the first step was refused
  pub staged_order : (new_content : Option (List ℕ)) (new_images : List ℕ → Type 0) → Becomes (IsTorn (gate + 1) (length (behind_gate payload))) old_content new_content → Follows (IsTorn (gate + 1) (length (behind_gate payload))) old_images new_images
      → ForSome new_content (InOrder gate false (Some payload) new_images)
  staged_order new_content new_images becomes follows file named =
      let was = was_told (IsTorn (gate + 1) (length (behind_gate payload))) old_content new_content file becomes named in
      let o = order was.0 was.1 in
      let longer : length was.0 ≤ length file = was.2.no_shorter in
      same_order gate false false≢true (Some payload) was.0 file new_images (staged_same was.0 file was.1 was.2) (omega (arith, o.within, longer)) o.frames
      (λ image left. staged_each was.0 o image (follows image left))

  pub staged_kept : (new_content : Option (List ℕ)) → Becomes (IsTorn (gate + 1) (length (behind_gate payload))) old_content new_content → option_map (kept_before gate) new_content ≡ option_map (kept_before gate) old_content
  staged_kept new_content becomes = same_kept gate (IsTorn (gate + 1) (length (behind_gate payload))) old_content new_content becomes staged_same

  module _ (small : length payload < 2 ^ 64) (mid_content : Option (List ℕ)) (mid_images : List ℕ → Type 0) (mid : mid_content ≡ option_map (overwritten (gate + 1) (behind_gate payload)) old_content) (only : IfSome mid_content (Only mid_images)) where
    opened_each : (file : List ℕ) → old_content ≡ Some file → (image : List ℕ) → LedBy (IsTorn gate 1) mid_images image → IsSpared (Some payload) (kept_before gate file) gate (take gate file) image
    opened_each file named image led =
        let o = order file named in
        let told : mid_content ≡ Some (overwritten (gate + 1) (behind_gate payload) file) = mid ∙ ap (λ (c : Option (List ℕ)). option_map (overwritten (gate + 1) (behind_gate payload)) c) named in
        let is = for_some mid_content (Only mid_images) only (overwritten (gate + 1) (behind_gate payload) file) told led.0 led.1 in
        opened_spared gate payload file o.within o.frames (o.shut is_ready) small image (subst (λ (l : List ℕ). IsTorn gate 1 l image) is led.2)

    pub opened_stands : (image : List ℕ) → LedBy (IsTorn gate 1) mid_images image → ForSome old_content (λ (file : List ℕ). StandsWith (Some payload) (kept_before gate file) image)
    opened_stands image led file named = (opened_each file named image led).stands

    -- the gate stands within what the first step left
    pub mid_within : IfSome mid_content (λ (file : List ℕ). gate ≤ length file)
    mid_within =
        if_some mid_content (λ (file : List ℕ). gate ≤ length file)
        (λ file named.
        let was = map_told (overwritten (gate + 1) (behind_gate payload)) old_content mid_content file mid named in
        let o = order was.0 was.1 in
        subst (λ (l : List ℕ). gate ≤ length l) (sym was.2) (staged_within gate payload was.0 o.within o.frames (o.shut is_ready)))

    -- of a content after the second step: what it was at first
    abbrev Second : List ℕ → List ℕ → Type 0
    Second was file = IsTorn gate 1 (overwritten (gate + 1) (behind_gate payload) was) file

    from_first : (new_content : Option (List ℕ)) → Becomes (IsTorn gate 1) mid_content new_content → Becomes Second old_content new_content
    from_first new_content becomes = becomes_after (IsTorn gate 1) (overwritten (gate + 1) (behind_gate payload)) old_content mid_content new_content mid becomes

    opened_same : (was file : List ℕ) → old_content ≡ Some was → Second was file → take gate file ≡ take gate was
    opened_same was file named torn = let o = order was named in torn.before ∙ staged_front gate payload was o.within o.frames (o.shut is_ready)

    -- the second step was refused
    pub opened_order : (new_content : Option (List ℕ)) (new_images : List ℕ → Type 0) → Becomes (IsTorn gate 1) mid_content new_content → Follows (IsTorn gate 1) mid_images new_images → ForSome new_content (InOrder gate false (Some payload) new_images)
    opened_order new_content new_images becomes follows file named =
        let was = was_told Second old_content new_content file (from_first new_content becomes) named in
        let o = order was.0 was.1 in
        let longer : length (overwritten (gate + 1) (behind_gate payload) was.0) ≤ length file = was.2.no_shorter in
        let within = staged_within gate payload was.0 o.within o.frames (o.shut is_ready) in
        same_order gate false false≢true (Some payload) was.0 file new_images
        (opened_same was.0 file was.1 was.2) (omega (arith, longer, within)) o.frames
        (λ image left. opened_each was.0 was.1 image (follows image left))

    pub opened_kept : (new_content : Option (List ℕ)) → Becomes (IsTorn gate 1) mid_content new_content → option_map (kept_before gate) new_content ≡ option_map (kept_before gate) old_content
    opened_kept new_content becomes = same_kept gate Second old_content new_content (from_first new_content becomes) opened_same

    -- both were done
    module _ (gate' : ℕ) (next : gate' ≡ gate + (9 + length payload)) (new_content : Option (List ℕ)) (new_images : List ℕ → Type 0) (new : new_content ≡ option_map (overwritten gate (1 ∷ [])) mid_content) (only' : IfSome new_content (Only new_images)) where
      abbrev done : List ℕ → List ℕ
      done was = overwritten gate (1 ∷ []) (overwritten (gate + 1) (behind_gate payload) was)

      done_map : new_content ≡ option_map done old_content
      done_map = mapped_after (overwritten (gate + 1) (behind_gate payload)) (overwritten gate (1 ∷ [])) old_content mid_content new_content mid new

      pub done_order : ForSome new_content (InOrder gate' true None new_images)
      done_order file named =
          let was = map_told done old_content new_content file done_map named in
          let o = order was.0 was.1 in
          let shut = o.shut is_ready in
          ready_order gate' (kept_before gate was.0 ++ payload ∷ []) (take gate was.0 ++ frame_of payload) file
          (opened_size gate payload was.0 o.within o.frames shut ∙ sym next)
          (opened_frames gate payload was.0 o.within o.frames shut small)
          (was.2 ∙ opened_is gate payload was.0 o.within o.frames shut) new_images
          (for_some new_content (Only new_images) only' file named)

      done_keeps : (was : List ℕ) → old_content ≡ Some was → kept_before gate' (overwritten gate (1 ∷ []) (overwritten (gate + 1) (behind_gate payload) was)) ≡ kept_before gate was ++ payload ∷ []
      done_keeps was named =
          let o = order was named in
          let shut = o.shut is_ready in
          ready_keeps gate' (kept_before gate was ++ payload ∷ []) (take gate was ++ frame_of payload) (overwritten gate (1 ∷ []) (overwritten (gate + 1) (behind_gate payload) was))
          (opened_size gate payload was o.within o.frames shut ∙ sym next)
          (opened_frames gate payload was o.within o.frames shut small)
          (opened_is gate payload was o.within o.frames shut)

      pub done_kept : option_map (kept_before gate') new_content ≡ option_map (λ (payloads : List (List ℕ)). payloads ++ payload ∷ []) (option_map (kept_before gate) old_content)
      done_kept = next_kept gate gate' done (λ (payloads : List (List ℕ)). payloads ++ payload ∷ []) old_content new_content done_map done_keeps
