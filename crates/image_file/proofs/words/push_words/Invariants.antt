use Rattle.std.proofs.Common.{◌≡◌, ◌+◌, ◌*◌, ◌/◌, ◌≤◌, ◌++◌, length, take, vec_len, vec_capacity}
use Rattle.sound_image.specs.Image.{image_bytes}
use Rattle.image_file.proofs.words.push_words.Given as goal

abbrev pub invariant-loop-index : goal.invariant-loop-index
invariant-loop-index l =
    (image_bytes l.words.items ≡ image_bytes l.fn.words.items ++ take (8 * l.index) l.piece)
    × (vec_len l.words ≡ vec_len l.fn.words + l.index) × (vec_len l.fn.words + length l.piece / 8 ≤ vec_capacity l.words)
