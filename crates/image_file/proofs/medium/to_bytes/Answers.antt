-- As many bytes are written as there is room for.
use Rattle.std.proofs.Common.{◌≡◌, ℕ, List, ◌++◌, length, take, drop, ap, ◌∙◌, arith}
use Rattle.std.proofs.Math.Seq.{take-append_seam}
use Rattle.sound_image.specs.Image.{image_bytes}
use Rattle.image_file.proofs.FileWords.{length-image_bytes}
use Rattle.image_file.proofs.medium.to_bytes.Goals as goal

all_written : (n : ℕ) (written held : List ℕ) → length written ≡ n → take n (written ++ drop (length written) held) ≡ written
all_written n written held whole = rw (← whole) (take-append_seam written (drop (length written) held))

pub returns-clause-file : goal.returns-clause-file
returns-clause-file c =
    let whole : length c.write_u64_into.new.dst ≡ c.in_ok-bytes.bytes.len = omega arith in
    all_written c.in_ok-bytes.bytes.len c.write_u64_into.new.dst c.in_ok-bytes.bytes.items whole ∙ (c.write_u64_into.ensures ∙ ap image_bytes c.as_slice-words.ensures.value)

pub returns-clause-len : goal.returns-clause-len
returns-clause-len c = ap length (returns-clause-file c) ∙ length-image_bytes c.args.medium.now.words
