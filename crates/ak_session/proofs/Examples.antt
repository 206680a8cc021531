-- Worked examples: what requests are refused for, at the edges of each rule, and what small sessions give and commit. Each computes.
use Rattle.std.specs.Prelude.{◌≡◌, ℕ, ℤ, pos, negsuc, true, false, List, [], ◌∷◌, replicate, codes, Option, Some, None}
use Rattle.std.proofs.Common.{refl}
use Rattle.ak_base.specs.Columns.{id_fault, code_fault}
use Rattle.ak_base.specs.declared.heads.Head.{Head}
use Rattle.ak_base.specs.declared.heads.Tag.{Tag}
use Rattle.ak_base.specs.declared.keys.HostKey.{HostKey}
use Rattle.ak_base.specs.declared.keys.SessionKey.{SessionKey}
use Rattle.ak_base.specs.declared.reviews.Review.{Review}
use Rattle.ak_base.specs.declared.rows.Row.{Row}
use Rattle.ak_base.specs.declared.rows.Row.TheVariants as rows
use Rattle.ak_keep.specs.Collections.{Rows, Collection}
use Rattle.ak_messages.specs.declared.requests.Ask.{Ask}
use Rattle.ak_messages.specs.declared.requests.Ask.TheVariants as asks
use Rattle.ak_messages.specs.declared.requests.Newer.{Newer}
use Rattle.ak_messages.specs.declared.requests.Request.{Request}
use Rattle.ak_messages.specs.MessageForms.{no_counts}
use Rattle.ak_session.specs.Contents.{refusal, closed}
use Rattle.ak_session.specs.Objections.{MayNotCome, WrongUsn, NoNumber, TooManyRows, WrongRow, WrongNewer}
use Rattle.ak_session.specs.Refusals.{is_conf_in_range}

-- ---- what a session is asked
module _ (host : HostKey) (session : SessionKey) (held : Rows) (any : Head) where
  -- a request of the session; its step and its base are tested before
  abbrev asked : Ask → Request
  asked ask = record { host = host; session = session; step = 0; base = pos 0; ask = ask }

  -- a committed collection with this number and this moment
  abbrev committed : ℤ → ℤ → Collection
  committed usn moment = record { rows = held; head = record any { usn = usn; moment = moment } }

  -- the opening collection of an account: the number 1, and the moment 1,700,000,000,000
  abbrev opening : Collection
  opening = committed (pos 1) (pos 1_700_000_000_000)

  abbrev start : ℤ → ℤ → Request
  start min_usn lmod = asked (asks.Start min_usn lmod)

  abbrev started : List Request
  started = start (pos 1) (pos 5) ∷ []

  -- no rows, no tags, and these settings
  abbrev changed : Option Newer → Request
  changed newer = asked (asks.ApplyChanges (record { models = []; decks = []; options = []; tags = []; newer = newer }))

  abbrev own_settings : Newer
  own_settings = record { conf = any.conf; crt = pos 0 }

  -- ---- a first session, request by request
  -- a chunk may not come before a start
  a_chunk_comes_too_early : refusal opening [] (asked asks.Chunk) ≡ Some MayNotCome
  unfolding refusal
  a_chunk_comes_too_early = refl

  -- a start that asks from 2 on is refused, since the server's number is 1
  a_start_asks_past_the_number : refusal opening [] (start (pos 2) (pos 5)) ≡ Some WrongUsn
  unfolding refusal
  a_start_asks_past_the_number = refl

  a_start_asks_from_the_number : refusal opening [] (start (pos 1) (pos 5)) ≡ None
  unfolding refusal
  a_start_asks_from_the_number = refl

  a_start_asks_from_below : refusal opening [] (start (negsuc 0) (pos 5)) ≡ Some WrongUsn
  unfolding refusal
  a_start_asks_from_below = refl

  -- settings of a device that was changed at 5 are refused, since 5 is not over the committed moment
  settings_of_the_older_side : is_conf_in_range any.conf ≡ true → refusal opening started (changed (Some own_settings)) ≡ Some WrongNewer
  unfolding refusal
  settings_of_the_older_side fits = rw fits refl

  -- ---- numbers and moments at their last values
  the_last_number_but_one : refusal (committed (pos 2_147_483_645) (pos 9)) [] (start (pos 1) (pos 5)) ≡ None
  unfolding refusal
  the_last_number_but_one = refl

  the_last_number : refusal (committed (pos 2_147_483_646) (pos 9)) [] (start (pos 1) (pos 5)) ≡ Some NoNumber
  unfolding refusal
  the_last_number = refl

  -- a start past the server's number is told so first
  the_number_comes_first : refusal (committed (pos 2_147_483_646) (pos 9)) [] (start (pos 2_147_483_647) (pos 5)) ≡ Some WrongUsn
  unfolding refusal
  the_number_comes_first = refl

  the_last_moment_but_one : refusal (committed (pos 1) (pos 4_294_967_295_998)) [] (start (pos 1) (pos 4_294_967_295_998)) ≡ None
  unfolding refusal
  the_last_moment_but_one = refl

  the_last_committed_moment : refusal (committed (pos 1) (pos 4_294_967_295_999)) [] (start (pos 1) (pos 5)) ≡ Some NoNumber
  unfolding refusal
  the_last_committed_moment = refl

  the_last_moment_of_a_device : refusal (committed (pos 1) (pos 9)) [] (start (pos 1) (pos 4_294_967_295_999)) ≡ Some NoNumber
  unfolding refusal
  the_last_moment_of_a_device = refl

  -- a start raises no schema moment, and the device's moment may be below 0
  a_last_schema_moment_may_start : refusal (record { rows = held; head = record any { usn = pos 1; moment = pos 9; schema = pos 4_294_967_295_999 } }) [] (start (pos 1) (negsuc 0)) ≡ None
  unfolding refusal
  a_last_schema_moment_may_start = refl

  -- ---- entries
  graves : ℕ → ℕ → ℕ → Request
  graves notes cards decks = asked (asks.ApplyGraves (record { cards = replicate cards (pos 1); notes = replicate notes (pos 1); decks = replicate decks (pos 1) }))

  two_hundred_and_fifty_graves : refusal opening started (graves 84 83 83) ≡ None
  unfolding refusal graves
  two_hundred_and_fifty_graves = refl

  one_grave_more : refusal opening started (graves 84 84 83) ≡ Some TooManyRows
  unfolding refusal graves
  one_grave_more = refl

  a_grave_of_no_row : refusal opening started (asked (asks.ApplyGraves (record { cards = []; notes = pos 0 ∷ []; decks = [] }))) ≡ Some WrongRow
  unfolding refusal
  a_grave_of_no_row = refl

  -- a review with this ease, which is in its range up to 4
  abbrev review : ℤ → Review
  review ease = record { id = pos 5; cid = pos 8; usn = pos 1; ease = ease; ivl = pos 1; last_ivl = pos 1; factor = pos 2500; time = pos 1; kind = pos 0 }

  abbrev pushed : ℕ → ℤ → Request
  pushed count ease = asked (asks.ApplyChunk (record { done = true; reviews = replicate count (review ease); cards = []; notes = [] }))

  -- a chunk came that is not done, so another may come
  abbrev pushing : List Request
  pushing = asked (asks.ApplyChunk (record { done = false; reviews = []; cards = []; notes = [] })) ∷ []

  a_review_in_its_ranges : refusal opening pushing (pushed 1 (pos 4)) ≡ None
  unfolding refusal id_fault code_fault
  a_review_in_its_ranges = refl

  a_review_out_of_its_ranges : refusal opening pushing (pushed 1 (pos 5)) ≡ Some WrongRow
  unfolding refusal id_fault code_fault
  a_review_out_of_its_ranges = refl

  -- 250 rows are few enough: what is wrong with these is their ease
  two_hundred_and_fifty_rows : refusal opening pushing (pushed 250 (pos 5)) ≡ Some WrongRow
  unfolding refusal id_fault code_fault
  two_hundred_and_fifty_rows = refl

  one_row_more : refusal opening pushing (pushed 251 (pos 5)) ≡ Some TooManyRows
  unfolding refusal
  one_row_more = refl

  -- a bad row by a method that may not come is told the latter
  the_method_comes_first : refusal opening started (pushed 1 (pos 5)) ≡ Some MayNotCome
  unfolding refusal
  the_method_comes_first = refl

  -- ---- the newer side
  abbrev started_at : ℤ → List Request
  started_at lmod = start (pos 1) lmod ∷ []

  at_one_moment_the_server_is_newer : refusal (committed (pos 1) (pos 9)) (started_at (pos 9)) (changed None) ≡ None
  unfolding refusal
  at_one_moment_the_server_is_newer = refl

  a_newer_device_must_send_its_settings : refusal (committed (pos 1) (pos 9)) (started_at (pos 10)) (changed None) ≡ Some WrongNewer
  unfolding refusal
  a_newer_device_must_send_its_settings = refl

  a_newer_device_sends_its_settings : is_conf_in_range any.conf ≡ true → refusal (committed (pos 1) (pos 9)) (started_at (pos 10)) (changed (Some own_settings)) ≡ None
  unfolding refusal
  a_newer_device_sends_its_settings fits = rw fits refl

  an_empty_tag : refusal (committed (pos 1) (pos 9)) (started_at (pos 9)) (asked (asks.ApplyChanges (record { models = []; decks = []; options = []; tags = [] ∷ []; newer = None }))) ≡ Some WrongRow
  unfolding refusal
  an_empty_tag = refl

  -- an empty tag is told before settings of the older side
  rows_come_before_settings : refusal (committed (pos 1) (pos 9)) (started_at (pos 9)) (asked (asks.ApplyChanges (record { models = []; decks = []; options = []; tags = [] ∷ []; newer = Some own_settings }))) ≡ Some WrongRow
  unfolding refusal
  rows_come_before_settings = refl

  -- 251 graves of no row are too many first
  many_graves_of_no_row : refusal opening started (asked (asks.ApplyGraves (record { cards = replicate 251 (pos 0); notes = []; decks = [] }))) ≡ Some TooManyRows
  unfolding refusal
  many_graves_of_no_row = refl

  -- ---- methods that may not come
  a_second_start : refusal opening started (start (pos 1) (pos 5)) ≡ Some MayNotCome
  unfolding refusal
  a_second_start = refl

  an_upload_after_a_start : refusal opening started (asked (asks.Upload (record { rows = []; crt = pos 0; moment = pos 1; schema = pos 1; usn = pos 0; conf = any.conf; tags = [] }))) ≡ Some MayNotCome
  unfolding refusal
  an_upload_after_a_start = refl

  graves_after_changes : refusal opening (start (pos 1) (pos 5) ∷ changed None ∷ []) (graves 1 0 0) ≡ Some MayNotCome
  unfolding refusal graves
  graves_after_changes = refl

  a_check_before_all_came : refusal opening pushing (asked (asks.SanityCheck2 no_counts)) ≡ Some MayNotCome
  unfolding refusal
  a_check_before_all_came = refl

  a_second_check : refusal opening (asked (asks.SanityCheck2 no_counts) ∷ []) (asked (asks.SanityCheck2 no_counts)) ≡ Some MayNotCome
  unfolding refusal
  a_second_check = refl

  anything_after_a_download : refusal opening (asked asks.Download ∷ []) (start (pos 1) (pos 5)) ≡ Some MayNotCome
  unfolding refusal
  anything_after_a_download = refl

  a_download_may_come : refusal opening [] (asked asks.Download) ≡ None
  unfolding refusal
  a_download_may_come = refl

  -- ---- uploads
  abbrev upload : List Row → List Tag → ℤ → ℤ → Request
  upload list tags schema moment = asked (asks.Upload (record { rows = list; crt = pos 0; moment = moment; schema = schema; usn = pos 0; conf = any.conf; tags = tags }))

  abbrev now_at_nine : Collection
  now_at_nine = record { rows = held; head = record any { usn = pos 1; moment = pos 9; schema = pos 9 } }

  tag : ℤ → Tag
  tag usn = record { name = codes "verb"; usn = usn }

  an_upload_may_come : is_conf_in_range any.conf ≡ true → refusal now_at_nine [] (upload [] (tag (pos 0) ∷ []) (pos 3) (negsuc 4)) ≡ None
  unfolding refusal tag
  an_upload_may_come fits = rw fits refl

  a_last_schema_moment_may_not_be_raised : refusal now_at_nine [] (upload [] [] (pos 4_294_967_295_999) (pos 3)) ≡ Some NoNumber
  unfolding refusal
  a_last_schema_moment_may_not_be_raised = refl

  two_rows_of_one_name : is_conf_in_range any.conf ≡ true → refusal now_at_nine [] (upload (rows.Review (review (pos 3)) ∷ rows.Review (review (pos 4)) ∷ []) [] (pos 3) (pos 3)) ≡ Some WrongRow
  unfolding refusal id_fault code_fault
  two_rows_of_one_name fits = rw fits refl

  -- two equal graves, with a review between them
  grave : Row
  grave = rows.Grave (record { usn = negsuc 0; oid = pos 5; kind = pos 0 })

  two_graves_of_one_name : is_conf_in_range any.conf ≡ true → refusal now_at_nine [] (upload (grave ∷ rows.Review (review (pos 3)) ∷ grave ∷ []) [] (pos 3) (pos 3)) ≡ Some WrongRow
  unfolding refusal id_fault code_fault grave
  two_graves_of_one_name fits = rw fits refl

  -- a review and a grave of one id, and a tag that was not sent yet, at the last number of a server
  an_upload_at_the_last_number : is_conf_in_range any.conf ≡ true
      → refusal (record { rows = held; head = record any { usn = pos 2_147_483_646; moment = pos 9; schema = pos 9 } }) [] (upload (rows.Review (review (pos 3)) ∷ grave ∷ []) (tag (negsuc 0) ∷ []) (pos 3) (pos 3)) ≡ None
  unfolding refusal id_fault code_fault grave tag
  an_upload_at_the_last_number fits = rw fits refl

  two_tags_of_one_name : is_conf_in_range any.conf ≡ true → refusal now_at_nine [] (upload [] (tag (pos 0) ∷ tag (pos 1) ∷ []) (pos 3) (pos 3)) ≡ Some WrongRow
  unfolding refusal tag
  two_tags_of_one_name fits = rw fits refl

  a_tag_past_its_numbers : refusal now_at_nine [] (upload [] (tag (pos 2_147_483_648) ∷ []) (pos 3) (pos 3)) ≡ Some WrongRow
  unfolding refusal tag
  a_tag_past_its_numbers = refl

  -- ---- moments of commits
  abbrev finish : Request
  finish = asked asks.Finish

  the_clock_is_ahead : (closed (committed (pos 4) (pos 5)) (started_at (pos 7)) finish (pos 9)).head.moment ≡ pos 9
  unfolding closed
  the_clock_is_ahead = refl

  the_device_is_ahead : (closed (committed (pos 4) (pos 5)) (started_at (pos 7)) finish (pos 3)).head.moment ≡ pos 8
  unfolding closed
  the_device_is_ahead = refl

  the_server_is_ahead : (closed (committed (pos 4) (pos 5)) (started_at (pos 2)) finish (pos 3)).head.moment ≡ pos 6
  unfolding closed
  the_server_is_ahead = refl

  the_number_rises : (closed (committed (pos 4) (pos 5)) (started_at (pos 2)) finish (pos 3)).head.usn ≡ pos 5
  unfolding closed
  the_number_rises = refl

  an_upload_begins_anew : (closed now_at_nine [] (upload [] (tag (pos 7) ∷ []) (pos 20) (pos 3)) (pos 12)).head.schema ≡ pos 21
  unfolding closed
  an_upload_begins_anew = refl

  an_upload_gives_zero : (closed now_at_nine [] (upload [] (tag (pos 7) ∷ []) (pos 20) (pos 3)) (pos 12)).head.tags ≡ tag (pos 0) ∷ []
  unfolding closed tag
  an_upload_gives_zero = refl
