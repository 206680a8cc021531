-- The cards that are made of a seed, and their reviews, each by its number, which counts from 0.
use Rattle.std.specs.Prelude.{ℕ, ℤ, pos, ◌+◌, ◌*◌, ◌/◌, ◌%◌, neg_ℤ, []}
use Rattle.ak_base.specs.declared.cards.Card.{Card}
use Rattle.ak_base.specs.declared.reviews.Review.{Review}
use Rattle.ak_made_collections.specs.RowIds.{made_id, made_stamp, made_review_id}
use Rattle.ak_made_collections.specs.RowNumbers.{note_of_card, place_of_card, words_before_card, words_before_review}
use Rattle.ak_made_collections.specs.SeedWords.{nth_word}

-- ---- cards
-- how many days lie between its reviews: 1 to 100
abbrev pub ivl_of : ℕ → ℕ → ℤ
ivl_of seed card = pos (1 + nth_word seed (words_before_card card) % 100)

-- the day on which it is due: 0, or up to nine days before
abbrev pub due_of : ℕ → ℕ → ℤ
due_of seed card = neg_ℤ (pos (nth_word seed (words_before_card card + 1) % 10))

-- its factor, in permille: 1300 to 2500
abbrev pub factor_of : ℕ → ℕ → ℤ
factor_of seed card = pos (1_300 + 50 * (nth_word seed (words_before_card card + 2) % 25))

-- a card that is reviewed, in the deck 1
abbrev pub made_card : ℕ → ℕ → Card
made_card seed number = record {
  id = made_id number;
  nid = made_id (note_of_card number);
  did = pos 1;
  ord = pos (place_of_card number);
  stamp = made_stamp;
  usn = pos 0;
  kind = pos 2;
  queue = pos 2;
  due = due_of seed number;
  ivl = ivl_of seed number;
  factor = factor_of seed number;
  reps = pos 4;
  lapses = pos 0;
  left = pos 0;
  odue = pos 0;
  odid = pos 0;
  flags = pos 0;
  extra = [];
}

-- ---- reviews
-- a review, four of which each card has: the button was Hard, Good or Easy, and it took less than ten seconds
abbrev pub made_review : ℕ → ℕ → Review
made_review seed number = record {
  id = made_review_id number;
  cid = made_id (number / 4);
  usn = pos 0;
  ease = pos (2 + nth_word seed (words_before_review number) % 3);
  ivl = ivl_of seed (number / 4);
  last_ivl = pos 1;
  factor = factor_of seed (number / 4);
  time = pos (1_000 + nth_word seed (words_before_review number + 1) % 9_000);
  kind = pos 1;
}
