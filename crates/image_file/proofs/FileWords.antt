-- The words that an image's file spells are its words, and bytes that spell words are their file.
use Rattle.std.proofs.Common.{◌≡◌, ℕ, zero, suc, ◌+◌, ◌*◌, ◌<◌, ◌≤◌, ◌^◌, refl, sym, ap, subst, ◌∙◌, arith, List, [], ◌∷◌, ◌++◌, length, take, drop, length-append, length-drop, append_assoc, ⊎_elim}
use Rattle.std.proofs.lemmas.Bool.{cases_lt}
use Rattle.std.proofs.Math.Seq.{take-add}
use Rattle.std.proofs.lemmas.Grind.{flat_map-append}
use Rattle.std.specs.Prelude.{slice_index}
use Rattle.std.specs.Int.{w64, from_le_bytes}
use Rattle.std.proofs.lemmas.List.{drop_at, drop-drop, drop_all, get_or-drop, get_or-take, get_or_past, length-take-le}
use Rattle.std.proofs.lemmas.Nat.{le_bytes_8}
use Rattle.byteorder.specs.Endian.{little_bytes, little_number}
use Rattle.byteorder.specs.Numbers.{little_number-reads_back, little_from-take}
use Rattle.sound_image.specs.Image.{image_bytes}
use Rattle.image_file.specs.Fault.{word_in_file}

pub length-image_bytes : (words : List ℕ) → length (image_bytes words) ≡ 8 * length words
length-image_bytes [] = refl
length-image_bytes (w ∷ words) = length-append (little_bytes 8 w) (image_bytes words) ∙ omega (arith, length-image_bytes words)

-- WORDS of a file
pub word_there : (words : List ℕ) (i : ℕ) → ((k : ℕ) → slice_index words k < 2 ^ 64) → word_in_file (image_bytes words) i ≡ slice_index words i
word_there [] i fits = ap (little_number 8) (drop_all (8 * i) [] (omega arith))
word_there (w ∷ words) zero fits = little_number-reads_back 8 w (image_bytes words) (fits 0)
word_there (w ∷ words) (suc i) fits =
    let further : 8 * suc i ≡ 8 + 8 * i = omega arith in
    ap (λ n. little_number 8 (drop n (image_bytes (w ∷ words)))) further
    ∙ ap (little_number 8) (sym (drop-drop (8 * i) 8 (image_bytes (w ∷ words))) ∙ ap (drop (8 * i)) (drop_at (little_bytes 8 w) (image_bytes words) 8 refl))
    ∙ word_there words i (λ k. fits (suc k))

pub words_there : (words : List ℕ) → ((k : ℕ) → slice_index words k < 2 ^ 64) → word_in_file (image_bytes words) ≡ slice_index words
words_there words fits = λ j. λ i. word_there words i fits j

-- BYTES that spell words
front_fits : (bytes : List ℕ) (k : ℕ) → 8 ≤ length bytes → ((i : ℕ) → slice_index bytes i < 256) → slice_index (take 8 bytes) k < 256
front_fits bytes k long fits =
    ⊎_elim (λ (within : k < 8). subst (λ n. n < 256) (sym (get_or-take 8 bytes k 0 within)) (fits k))
    (λ (past : 8 ≤ k). let short : length (take 8 bytes) ≤ k = omega (arith, length-take-le 8 bytes long) in
    subst (λ n. n < 256) (sym (get_or_past (take 8 bytes) k 0 short)) (omega arith))
    (cases_lt k 8)

first_word : (bytes : List ℕ) (w : ℕ) → 8 ≤ length bytes → ((k : ℕ) → slice_index bytes k < 256) → w ≡ little_number 8 bytes → take 8 bytes ≡ little_bytes 8 w
first_word bytes w long fits is =
    let front = take 8 bytes in
    let same : from_le_bytes w64 front ≡ little_number 8 front = omega arith in
    sym (le_bytes_8 front w (length-take-le 8 bytes long) (λ k. front_fits bytes k long fits)
    (is ∙ sym (little_from-take 0 8 8 bytes (omega arith)) ∙ sym same))

-- a word more of a piece that is added
pub word_more : (words old piece : List ℕ) (i w : ℕ) → 8 * i + 8 ≤ length piece → ((k : ℕ) → slice_index piece k < 256) → w ≡ word_in_file piece i
    → image_bytes words ≡ image_bytes old ++ take (8 * i) piece → image_bytes (words ++ w ∷ []) ≡ image_bytes old ++ take (8 * (i + 1)) piece
word_more words old piece i w long fits is before =
    let rest = drop (8 * i) piece in
    let there : 8 ≤ length rest = omega (arith, long, length-drop (8 * i) piece) in
    let front : take 8 rest ≡ little_bytes 8 w = first_word rest w there (λ k. subst (λ n. n < 256) (sym (get_or-drop (8 * i) piece k 0)) (fits (8 * i + k)))
    is in
    let further : 8 * i + 8 ≡ 8 * (i + 1) = omega arith in
    flat_map-append (little_bytes 8) words (w ∷ [])
    ∙ ap (λ bs. bs ++ little_bytes 8 w) before
    ∙ append_assoc (image_bytes old) (take (8 * i) piece) (little_bytes 8 w)
    ∙ ap (λ bs. image_bytes old ++ (take (8 * i) piece ++ bs)) (sym front)
    ∙ ap (λ bs. image_bytes old ++ bs) (sym (take-add (8 * i) 8 piece) ∙ ap (λ n. take n piece) further)
