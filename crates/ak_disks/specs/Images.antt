-- A disk in memory: what it keeps of its calls, and which image of its file a number picks.
use Rattle.std.specs.Prelude.{◌≡◌, ◌⊎◌, ℕ, ◌+◌, ◌-◌, ◌/◌, ◌%◌, ◌^◌, ◌≤◌, Bool, false, ◌==◌, nat_le, nat_lt, ◌&&◌, ◌||◌, if◌then◌else◌, List, [], ◌∷◌, ◌++◌, length, take, drop, replicate, Option, Some}
use Rattle.ak_faults.specs.Calls.{is_named}
use Rattle.ak_faults.specs.Causes.{Health, one_more}
use Rattle.ak_disks.specs.Disks.{overwritten, IsTorn, IsCutOrWhole}

-- ---- the record of its calls
-- a call that was not refused: it looked at the file, wrote bytes at a place, cut the file to a size, or synced it
pub data Event : Type 0 where
  Looked : Event
  Wrote : ℕ → List ℕ → Event
  Shortened : ℕ → Event
  Synced : Event

-- what such a call makes of the file as it is read
abbrev pub applied : Event → List ℕ → List ℕ
applied Looked file = file
applied (Wrote place bytes) file = overwritten place bytes file
applied (Shortened size) file = take size file
applied Synced file = file

-- the file as it is read after these calls, the newest of them first, on a disk that held `first`
abbrev pub file_after : List ℕ → List Event → List ℕ
file_after first [] = first
file_after first (event ∷ earlier) = applied event (file_after first earlier)

-- ---- what a crash may leave
-- what a crash may make of an image in such a call, where `file` is what is read
abbrev pub Leads : Event → List ℕ → List ℕ → List ℕ → Type 0
Leads Looked file was image = image ≡ was
Leads (Wrote place bytes) file was image = IsTorn place (length bytes) was image
Leads (Shortened size) file was image = IsCutOrWhole size was image
Leads Synced file was image = image ≡ file

-- the images that a crash after these calls may leave: the file as it is read, or what the last call led to
abbrev pub MayLeave : List ℕ → List Event → List ℕ → Type 0
MayLeave first [] image = image ≡ first
MayLeave first (event ∷ earlier) image =
    (image ≡ applied event (file_after first earlier))
    ⊎ ((was : List ℕ) × MayLeave first earlier was × Leads event (file_after first earlier) was image)

-- those that a crash might have left since so many calls had come
abbrev pub MayHaveLeft : List ℕ → List Event → ℕ → List ℕ → Type 0
MayHaveLeft first [] since image = MayLeave first [] image
MayHaveLeft first (event ∷ earlier) since image =
    MayLeave first (event ∷ earlier) image ⊎ ((since ≤ length earlier) × MayHaveLeft first earlier since image)

-- ---- the image that a number picks
-- the file as it is read, an image of it, and what is left of the number
pub record Draw : Type 0 where
  pub file : List ℕ
  pub image : List ℕ
  pub pick : ℕ

-- the image after a write of which so many bytes came, and behind them so many wrong ones of this value
abbrev pub patched : ℕ → List ℕ → ℕ → ℕ → ℕ → List ℕ → List ℕ
patched place bytes came wrong value image =
    take place image ++ (take came bytes ++ replicate wrong value) ++ drop (place + (came + wrong)) image

-- the image that a write leaves, by three digits of the number, the least first: how many bytes came, how many wrong
-- ones stand behind them, which byte these are. A write that begins past the end of the image does nothing to it.
abbrev pub drawn_write : ℕ → List ℕ → Draw → Draw
drawn_write place bytes draw =
    if nat_le place (length draw.image) then
    (let came = draw.pick % (length bytes + 1) in
    let rest = draw.pick / (length bytes + 1) in
    let wrong = rest % (length bytes - came + 1) in
    let last = rest / (length bytes - came + 1) in
    record {
      file = overwritten place bytes draw.file;
      image = patched place bytes came wrong (last % 256) draw.image;
      pick = last / 256;
    })
    else record { file = overwritten place bytes draw.file; image = draw.image; pick = draw.pick }

-- the next draw after a call. A cut is left undone by an even digit. A sync leaves the file as it is read, and begins the number anew.
abbrev pub drawn : ℕ → Event → Draw → Draw
drawn pick Looked draw = draw
drawn pick (Wrote place bytes) draw = drawn_write place bytes draw
drawn pick (Shortened size) draw = record {
  file = take size draw.file;
  image = if draw.pick % 2 == 0 then draw.image else take size draw.image;
  pick = draw.pick / 2;
}
drawn pick Synced draw = record { file = draw.file; image = draw.file; pick = pick }

-- the draw after all of these calls, the newest of them first
abbrev pub draw_after : List ℕ → ℕ → List Event → Draw
draw_after first pick [] = record { file = first; image = first; pick = pick }
draw_after first pick (event ∷ earlier) = drawn pick event (draw_after first pick earlier)

-- the image of the file that the number picks
abbrev pub picked : List ℕ → ℕ → List Event → List ℕ
picked first pick events = (draw_after first pick events).image

-- ---- the disk
-- what it held when it was made; its calls, the newest first; for how many more written bytes and calls it has room,
-- and had when it was made; how many calls came, which of them fail, and how many did; whether a refused write leaves a
-- front of its bytes
pub record DiskState : Type 0 where
  pub first : List ℕ
  pub events : List Event
  pub room : ℕ
  pub places : ℕ
  pub all_room : ℕ
  pub all_places : ℕ
  pub calls : ℕ
  pub fails : List ℕ
  pub fault_count : ℕ
  pub tears : Bool

-- a disk that holds this file, and to which no call came
abbrev pub new_disk : List ℕ → ℕ → ℕ → List ℕ → DiskState
new_disk first room places fails = record {
  first = first;
  events = [];
  room = room;
  places = places;
  all_room = room;
  all_places = places;
  calls = 0;
  fails = fails;
  fault_count = 0;
  tears = false;
}

-- the file as it is read
abbrev pub file_of : DiskState → List ℕ
file_of disk = file_after disk.first disk.events

-- that file, which it tells
abbrev pub content_of : DiskState → Option (List ℕ)
content_of disk = Some (file_of disk)

-- the images that a crash now may leave
abbrev pub images : DiskState → List ℕ → Type 0
images disk = MayLeave disk.first disk.events

-- a moment is the number of calls so far
abbrev pub moment_of : DiskState → ℕ
moment_of disk = length disk.events

-- the images that a crash since that moment might have left
abbrev pub images_since : DiskState → ℕ → List ℕ → Type 0
images_since disk = MayHaveLeft disk.first disk.events

-- it is never calm, since its room may end
abbrev pub disk_health : DiskState → Health
disk_health disk = record { faults = disk.fault_count; calm = false }

-- whether a call is refused that writes so many bytes at this place: the list names it, or there is no room for it,
-- or its end would pass the last `u64`
abbrev pub refuses : DiskState → ℕ → ℕ → Bool
refuses disk place count =
    is_named disk.calls disk.fails || (disk.places == 0 || (nat_lt disk.room count || nat_le (2 ^ 64) (place + count)))

-- the disk after a call that it refused: the call and the fault are counted, and nothing else changes
abbrev pub after_refusal : DiskState → DiskState
after_refusal disk = record disk { calls = one_more disk.calls; fault_count = one_more disk.fault_count }

-- the disk after a call that writes so many bytes
abbrev pub after_event : Event → ℕ → DiskState → DiskState
after_event event count disk = record disk {
  calls = one_more disk.calls;
  events = event ∷ disk.events;
  places = disk.places - 1;
  room = disk.room - count;
}

-- the bytes of a refused write that a disk which tears leaves: the first half of them
abbrev pub front_of : List ℕ → List ℕ
front_of bytes = take (length bytes / 2) bytes

-- whether it leaves them: it tears, and has room for them
abbrev pub is_torn : List ℕ → DiskState → Bool
is_torn bytes disk = disk.tears && (nat_lt 0 disk.places && nat_le (length (front_of bytes)) disk.room)

-- the disk after such a write
abbrev pub after_torn : ℕ → List ℕ → DiskState → DiskState
after_torn place bytes disk =
    if is_torn bytes disk then record disk {
      events = Wrote place (front_of bytes) ∷ disk.events;
      places = disk.places - 1;
      room = disk.room - length (front_of bytes);
    }
    else disk

-- the disk after a write of these bytes at this place, refused or not
abbrev pub after_write : ℕ → List ℕ → DiskState → DiskState
after_write place bytes disk =
    if refuses disk place (length bytes) then after_torn place bytes (after_refusal disk) else after_event (Wrote place bytes) (length bytes) disk

-- the disk after a call at this place that writes so many bytes, refused or not
abbrev pub after_call : Event → ℕ → ℕ → DiskState → DiskState
after_call event place count disk = if refuses disk place count then after_refusal disk else after_event event count disk
