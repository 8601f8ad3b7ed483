-- The buffer has the length that it is made with.
use Rattle.std.proofs.Common.{ℕ, sym}
use Rattle.std.proofs.lemmas.List.{length-replicate}
use Rattle.listing_lines.specs.Appending.{text_room}
use Rattle.listing.proofs.text_buffer.Goals as goal

pub returns : goal.returns
returns c = sym (length-replicate {A = ℕ} text_room 0)
