-- What a refused write leaves of a disk that tears.
use Rattle.std.proofs.Common.{◌≡◌, ⊎_elim, ℕ, ◌+◌, ◌-◌, ◌/◌, ◌≤◌, Bool, true, false, if◌then◌else◌, List, ◌∷◌, length, drop, refl, sym, ◌∙◌, ap, subst, arith, length-take}
use Rattle.std.proofs.lemmas.List.{drop-drop}
use Rattle.ak_disks.specs.Disks.{Becomes, Follows, IsTorn, overwritten}
use Rattle.ak_disks.specs.Images.{DiskState, Event, Wrote, MayLeave, content_of, file_after, file_of, front_of, images}
use Rattle.ak_disks.specs.Moments.{leaves_file}
use Rattle.ak_disks.proofs.Events.{follows_refused}
use Rattle.ak_disks.proofs.Torn.{torn_middle, torn_nothing}

fewer : (bytes : List ℕ) → length (front_of bytes) ≤ length bytes
fewer bytes = omega (arith, length-take (length bytes / 2) bytes)

-- a front of the bytes leaves the range torn
torn_front : (place : ℕ) (bytes old : List ℕ) → place ≤ length old → IsTorn place (length bytes) old (overwritten place (front_of bytes) old)
torn_front place bytes old within = torn_middle place (length bytes) (place + length (front_of bytes)) (front_of bytes) old refl (fewer bytes) within

-- what is torn in a range is torn in a longer one
torn_more : (place few many : ℕ) (old new : List ℕ) → few ≤ many → IsTorn place few old new → IsTorn place many old new
torn_more place few many old new le torn =
    let more : (place + few) + (many - few) ≡ place + many = omega (arith, le) in
    record {
      before = torn.before;
      behind =
          ap (λ (n : ℕ). drop n new) (sym more)
          ∙ sym (drop-drop (many - few) (place + few) new)
          ∙ ap (λ (l : List ℕ). drop (many - few) l) torn.behind
          ∙ drop-drop (many - few) (place + few) old
          ∙ ap (λ (n : ℕ). drop n old) more;
      no_shorter = torn.no_shorter;
      no_longer = omega (arith, torn.no_longer, le);
    }

follows_front : (first : List ℕ) (events : List Event) (place : ℕ) (bytes : List ℕ) → place ≤ length (file_after first events)
    → Follows (IsTorn place (length bytes)) (MayLeave first events) (MayLeave first (Wrote place (front_of bytes) ∷ events))
follows_front first events place bytes within image left =
    ⊎_elim
    (λ now. (file_after first events, leaves_file first events, subst (λ (l : List ℕ). IsTorn place (length bytes) (file_after first events) l) (sym now) (torn_front place bytes (file_after first events) within)))
    (λ led. (led.0, led.1, torn_more place (length (front_of bytes)) (length bytes) led.0 image (fewer bytes) led.2)) left

module _ (s : DiskState) (place : ℕ) (bytes : List ℕ) (within : place ≤ length (file_of s)) where
  -- the disk with such a front, or without it
  abbrev left_by : Bool → DiskState
  left_by torn =
      if torn then record s {
        events = Wrote place (front_of bytes) ∷ s.events;
        places = s.places - 1;
        room = s.room - length (front_of bytes);
      }
      else s

  pub torn_follows : (torn : Bool) → Follows (IsTorn place (length bytes)) (images s) (images (left_by torn))
  torn_follows true = follows_front s.first s.events place bytes within
  torn_follows false = follows_refused s.first s.events place (length bytes)

  pub torn_becomes : (torn : Bool) → Becomes (IsTorn place (length bytes)) (content_of s) (content_of (left_by torn))
  torn_becomes true = (overwritten place (front_of bytes) (file_of s), refl, torn_front place bytes (file_of s) within)
  torn_becomes false = (file_of s, refl, torn_nothing place (length bytes) (file_of s))
