-- The rows that are arrays: notes, cards, reviews and graves.
use Rattle.serde_json.specs.Data.{Data}
use Rattle.ak_json.specs.Cells.{integer_at, text_at}
use Rattle.ak_json.specs.Forms.{note_form, card_form, review_form, grave_form}
use Rattle.ak_base.specs.declared.notes.Note.{Note}
use Rattle.ak_base.specs.declared.cards.Card.{Card}
use Rattle.ak_base.specs.declared.reviews.Review.{Review}
use Rattle.ak_base.specs.declared.graves.Grave.{Grave}

-- the note that an array of its form stands for
unfoldable pub note_at : Data → Note
note_at d = record {
  id = integer_at note_form 0 d;
  guid = text_at note_form 1 d;
  mid = integer_at note_form 2 d;
  stamp = integer_at note_form 3 d;
  usn = integer_at note_form 4 d;
  tags = text_at note_form 5 d;
  flds = text_at note_form 6 d;
  sfld = text_at note_form 7 d;
  csum = integer_at note_form 8 d;
  flags = integer_at note_form 9 d;
  extra = text_at note_form 10 d;
}

-- the card that an array of its form stands for
unfoldable pub card_at : Data → Card
card_at d = record {
  id = integer_at card_form 0 d;
  nid = integer_at card_form 1 d;
  did = integer_at card_form 2 d;
  ord = integer_at card_form 3 d;
  stamp = integer_at card_form 4 d;
  usn = integer_at card_form 5 d;
  kind = integer_at card_form 6 d;
  queue = integer_at card_form 7 d;
  due = integer_at card_form 8 d;
  ivl = integer_at card_form 9 d;
  factor = integer_at card_form 10 d;
  reps = integer_at card_form 11 d;
  lapses = integer_at card_form 12 d;
  left = integer_at card_form 13 d;
  odue = integer_at card_form 14 d;
  odid = integer_at card_form 15 d;
  flags = integer_at card_form 16 d;
  extra = text_at card_form 17 d;
}

-- the review that an array of its form stands for
unfoldable pub review_at : Data → Review
review_at d = record {
  id = integer_at review_form 0 d;
  cid = integer_at review_form 1 d;
  usn = integer_at review_form 2 d;
  ease = integer_at review_form 3 d;
  ivl = integer_at review_form 4 d;
  last_ivl = integer_at review_form 5 d;
  factor = integer_at review_form 6 d;
  time = integer_at review_form 7 d;
  kind = integer_at review_form 8 d;
}

-- the grave that an array of its form stands for
unfoldable pub grave_at : Data → Grave
grave_at d = record {
  usn = integer_at grave_form 0 d;
  oid = integer_at grave_form 1 d;
  kind = integer_at grave_form 2 d;
}
