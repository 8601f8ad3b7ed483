-- Writing text piece by piece into a buffer that may be too short for it.
use Rattle.std.specs.Prelude.{ℕ, ◌+◌, ◌*◌, ◌≤◌, ◌≡◌, List, length}
use Rattle.std.proofs.lemmas.List.Edits.{sets}

-- The most bytes that each part of a listing takes. No listing is longer than this. The code has the same name in src/lib.rt of the
-- crate listing_text.
abbrev pub text_room : ℕ
text_room = 1_048_576

-- The digits of a number of 64 bits, and with the space before them.
abbrev pub digit_room : ℕ
digit_room = 20

abbrev pub number_room : ℕ
number_room = 1 + digit_room

-- A line: a word, numbers, and the newline.
abbrev pub line_room : (word numbers : ℕ) → ℕ
line_room word numbers = word + number_room * numbers + 1

abbrev pub sizes_room : ℕ
sizes_room = line_room 5 3

abbrev pub span_room : ℕ
span_room = line_room 4 7

abbrev pub step_room : ℕ
step_room = line_room 4 3

abbrev pub energy_room : ℕ
energy_room = line_room 6 1

-- Some bytes, `most` at most, were put into a buffer from a place on: those that have room are in it, and the next place is the
-- one after all of them. (`sets` leaves out what lies past the end.)
pub record Appended (before : List ℕ) (place : ℕ) (bytes : List ℕ) (most : ℕ) (after : List ℕ) (next : ℕ) : Type 0 where
  pub after_is : after ≡ sets before place bytes
  pub next_is : next ≡ place + length bytes
  pub few : length bytes ≤ most
