-- A split in a table of four segments, by its words as a run leaves them: who owns each eighth of the hashes after each
-- store. And five wrong stores, each of which leaves a frame that is not sound.
use Rattle.std.proofs.Common.{◌≡◌, ℕ, ◌*◌, ◌^◌, ◌<◌, ◌≤◌, Option, Some, List, [], ◌∷◌, refl, sym, lit<, arith}
use Rattle.std.specs.Prelude.{◌==◌, if◌then◌else◌}
use Rattle.trace.specs.Events.{Words, with_word}
use Rattle.sound_image.specs.Segments.{frame_of, CoversHash}
use Rattle.segment_table.specs.Claims.{named_for, HasSoundFrame}
use Rattle.segment_table.specs.Owner.{owner, owner_below}
use Rattle.segment_table.proofs.frames.SoundFrames.{way_begins}
use Rattle.segment_table.proofs.WorkedSplit.{eight, formatted}

-- FOUR SEGMENTS: slot 0 with the pattern 0, slot 1 with 10, slot 2 with 110 and slot 3 with 111, and the root at depth 3
abbrev four : Words
four i =
    if i == 8 then 3
    else if i == 16 then 1
    else if i == 43 then 1
    else if i == 44 then 1
    else if i == 45 then 2
    else if i == 46 then 3
    else if i == 65 then 65793
    else if i == 66 then 2
    else if i == 2209 then 8590065921
    else if i == 2210 then 3
    else if i == 4353 then 25770000641
    else if i == 4354 then 4
    else if i == 6497 then 30064967937
    else 0

-- its slot 0 is split, and slot 4 takes the hashes with the top bits 01
abbrev linked : Words
linked = with_word four 66 5

abbrev split : Words
split = with_word linked 65 66049

abbrev taken : Words
taken = with_word split 8641 4295099137

abbrev shared : Words
shared = with_word taken 8641 4295098625

abbrev named : Words
named = with_word shared 41 4

abbrev all_named : Words
all_named = with_word named 42 4

abbrev ended : Words
ended = with_word all_named 65 131329

-- the owner of the first hash of each eighth
abbrev owner_at : Words → ℕ → Option ℕ
owner_at word t = owner (frame_of eight word) (t * 2 ^ 61)

abbrev owners : Words → List (Option ℕ)
owners word =
    owner_at word 0 ∷ owner_at word 1 ∷ owner_at word 2 ∷ owner_at word 3 ∷ owner_at word 4 ∷ owner_at word 5 ∷ owner_at word 6 ∷ owner_at word 7 ∷ []

abbrev by_four : List (Option ℕ)
by_four = Some 0 ∷ Some 0 ∷ Some 0 ∷ Some 0 ∷ Some 1 ∷ Some 1 ∷ Some 2 ∷ Some 3 ∷ []

abbrev by_five : List (Option ℕ)
by_five = Some 0 ∷ Some 0 ∷ Some 4 ∷ Some 4 ∷ Some 1 ∷ Some 1 ∷ Some 2 ∷ Some 3 ∷ []

until_shared : (owners four ≡ by_four) × (owners linked ≡ by_four) × (owners split ≡ by_four) × (owners taken ≡ by_four)
unfolding owner_below
until_shared = (refl, refl, refl, refl)

from_shared : (owners shared ≡ by_five) × (owners named ≡ by_five) × (owners all_named ≡ by_five) × (owners ended ≡ by_five)
unfolding owner_below
from_shared = (refl, refl, refl, refl)

-- FIVE WRONG STORES. In a sound frame the segment that an entry names covers the hashes of the entry
named_covers : (word : Words) (h : ℕ) → h < 2 ^ 64 → HasSoundFrame eight word → CoversHash (frame_of eight word) (named_for (frame_of eight word) h) h
named_covers word h fits sound = (way_begins (frame_of eight word) h (named_for (frame_of eight word) h) (sound.leads h fits)).covers

above : (a b : ℕ) → b < a → a ≡ b → ⊥
above a b less e = omega (arith, less, e)

-- slot 0 is normal one deeper, while entries 2 and 3 still name it
ends_too_early : HasSoundFrame eight (with_word shared 65 131329) → ⊥
ends_too_early sound = above 1 0 (lit< tt) (named_covers (with_word shared 65 131329) (2 * 2 ^ 61) (lit< tt) sound)

-- and while the repair has skipped entry 3
skips_an_entry : HasSoundFrame eight (with_word named 65 131329) → ⊥
skips_an_entry sound = above 1 0 (lit< tt) (named_covers (with_word named 65 131329) (3 * 2 ^ 61) (lit< tt) sound)

-- slot 4 was split in its turn, and slot 5 has the pattern 011, before slot 0 is repaired: entry 3 is not for slot 4
abbrev split_again : Words
split_again = with_word (with_word (with_word all_named 10785 12885098753) 8641 8590131457) 42 5

names_a_deeper_one : HasSoundFrame eight (with_word split_again 42 4) → ⊥
names_a_deeper_one sound = above 3 2 (lit< tt) (named_covers (with_word split_again 42 4) (3 * 2 ^ 61) (lit< tt) sound)

-- a free slot with a link behind the last slot becomes new
has_a_link : HasSoundFrame eight (with_word (with_word split 8642 9) 8641 4295099137) → ⊥
has_a_link sound = wrong (sound.link 4 (lit< tt) (λ e. omega (arith, e)))
  where
    wrong : 9 ≤ 8 → ⊥
    wrong e = omega (arith, e)

-- two segments of depth 1, and an area of depth 2 that is filled with the area of depth 1 and once more with it
abbrev doubled_wrong : Words
doubled_wrong = with_word (with_word (with_word (with_word (with_word (with_word formatted 34 1) 65 65793) 2209 4295033089) 36 1) 38 1) 8 2

fills_from_the_other_half : HasSoundFrame eight doubled_wrong → ⊥
fills_from_the_other_half sound = above 1 0 (lit< tt) (sym (named_covers doubled_wrong (2 ^ 62) (lit< tt) sound))
