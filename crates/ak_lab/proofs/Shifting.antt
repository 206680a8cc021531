-- The clocks of the devices after a session, whose device was elsewhere meanwhile.
use Rattle.std.proofs.Common.{◌≡◌, ◌<◌, ℕ, zero, suc, ℤ, ◌+ℤ◌, Bool, ◌&&◌, List, [], ◌∷◌, length, map, Some, refl, sym, ap, subst, ◌∙◌, slice_get, slice_set}
use Rattle.std.specs.List.{list_all}
use Rattle.ak_client.specs.declared.outcomes.Outcome.{Outcome}
use Rattle.ak_lab.specs.LabStates.{IsReady, LabState}
use Rattle.ak_lab.specs.LabSyncs.{RunsAt}
use Rattle.ak_lab_devices.proofs.Placing.{put_back}
use Rattle.ak_lab_devices.specs.Devices.{are_in_time, is_clock_moment}
use Rattle.ak_lab_devices.specs.declared.devices.Device.{Device}
use Rattle.ak_faults.specs.Calls.{names_none}
use Rattle.ak_lab_wires.proofs.Kept.{Face, StaysLab, faces, session_lab}
use Rattle.ak_lab_wires.specs.CrossedSyncs.{CrossState, cross_state}
use Rattle.ak_lab_wires.specs.declared.lab_sessions.SessionKind.{SessionKind}

abbrev shifts : List Device → List ℤ
shifts devices = map (λ (d : Device). d.shift) devices

-- ---- one of them changes
set_shift : (devices : List Device) (place : ℕ) (made : Device) → shifts (slice_set devices place made) ≡ slice_set (shifts devices) place made.shift
set_shift [] zero made = refl
set_shift [] (suc place) made = refl
set_shift (device ∷ devices) zero made = refl
set_shift (device ∷ devices) (suc place) made = ap (λ (l : List ℤ). device.shift ∷ l) (set_shift devices place made)

-- one with the same clock takes the place of another
same_shift : (devices : List Device) (place : ℕ) (d made : Device) → slice_get devices place ≡ Some d → made.shift ≡ d.shift → slice_set (shifts devices) place made.shift ≡ shifts devices
same_shift devices place d made at same =
    ap (λ (z : ℤ). slice_set (shifts devices) place z) same ∙ sym (set_shift devices place d) ∙ ap shifts (put_back devices place d at)

shifts_by_face : (a b : List Device) → faces a ≡ faces b → shifts a ≡ shifts b
shifts_by_face a b same = of_faces a ∙ ap (λ (l : List Face). map (λ (f : Face). f.shift) l) same ∙ sym (of_faces b)
  where
    of_faces : (devices : List Device) → shifts devices ≡ map (λ (f : Face). f.shift) (faces devices)
    of_faces [] = refl
    of_faces (device ∷ devices) = ap (λ (l : List ℤ). device.shift ∷ l) (of_faces devices)

in_time_by_shift : (clock : ℤ) (devices : List Device) → list_all (λ (d : Device). is_clock_moment (clock +ℤ d.shift)) devices ≡ list_all (λ (z : ℤ). is_clock_moment (clock +ℤ z)) (shifts devices)
in_time_by_shift clock [] = refl
in_time_by_shift clock (device ∷ devices) = ap (λ (b : Bool). is_clock_moment (clock +ℤ device.shift) && b) (in_time_by_shift clock devices)

same_in_time : (clock : ℤ) (a b : List Device) → shifts a ≡ shifts b → are_in_time clock a ≡ are_in_time clock b
same_in_time clock a b same =
    ap (λ (t : Bool). is_clock_moment clock && t)
    (in_time_by_shift clock a ∙ ap (λ (l : List ℤ). list_all (λ (z : ℤ). is_clock_moment (clock +ℤ z)) l) same ∙ sym (in_time_by_shift clock b))

-- ---- how many there are
set_length : (devices : List Device) (place : ℕ) (made : Device) → length (slice_set devices place made) ≡ length devices
set_length [] zero made = refl
set_length [] (suc place) made = refl
set_length (device ∷ devices) zero made = refl
set_length (device ∷ devices) (suc place) made = ap suc (set_length devices place made)

length_faces : (devices : List Device) → length (faces devices) ≡ length devices
length_faces [] = refl
length_faces (device ∷ devices) = ap suc (length_faces devices)

-- a place of the list before is one of the list after
pub still_within : (devices then : List Device) (place : ℕ) (stand_in : Device) → faces then ≡ faces (slice_set devices place stand_in) → place < length devices → place < length then
still_within devices then place stand_in same within =
    subst (λ (n : ℕ). place < n)
    (sym (set_length devices place stand_in) ∙ sym (length_faces (slice_set devices place stand_in)) ∙ ap length (sym same) ∙ length_faces then) within

-- ---- the lab after a session
module _ (kind : SessionKind) (place : ℕ) (s t : LabState) (crossed : List (List ℕ)) (outcome : Outcome) (runs : RunsAt kind place s t crossed outcome) where
  stays : StaysLab (cross_state runs.was.lab) (cross_state runs.became.lab)
  stays = session_lab kind _ _ _ _ _ runs.made runs.was runs.became _ _ outcome runs.session

  pub faces_then : faces runs.became.lab.devices.items ≡ faces (slice_set s.devices place runs.begins.stand_in)
  faces_then = stays.faces ∙ ap (λ (x : CrossState). faces x.devices) runs.begins.lab

  shifts_then : runs.made.shift ≡ runs.d.shift → shifts (slice_set runs.became.lab.devices.items place runs.made) ≡ shifts s.devices
  shifts_then same =
      set_shift runs.became.lab.devices.items place runs.made
      ∙ ap (λ (l : List ℤ). slice_set l place runs.made.shift)
      (shifts_by_face runs.became.lab.devices.items (slice_set s.devices place runs.begins.stand_in) faces_then
      ∙ set_shift s.devices place runs.begins.stand_in
      ∙ same_shift s.devices place runs.d runs.begins.stand_in runs.at runs.begins.shift)
      ∙ same_shift s.devices place runs.d runs.made runs.at same

  pub ready_after : runs.made.shift ≡ runs.d.shift → IsReady s → IsReady t
  ready_after same ready = record {
    clocks = ap (λ (x : LabState). are_in_time x.clock x.devices) runs.left
        ∙ same_in_time s.clock (slice_set runs.became.lab.devices.items place runs.made) s.devices (shifts_then same) ∙ ready.clocks;
    calm = ap names_none runs.rests;
  }
