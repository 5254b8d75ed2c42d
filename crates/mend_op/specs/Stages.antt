-- The three stages in which words are stored: which words each may change, one after another, and what they are to be.
use Rattle.std.specs.Prelude.{ℕ, ◌+◌, ◌*◌, ◌/◌, ◌%◌, List}
use Rattle.bucket_meta.specs.Bucket.{mark_place}
use Rattle.image_layout.specs.Places.{Shape, buckets, note_words, home_of_note, place_of_note, words_of_buckets, word_among_buckets}
use Rattle.whole_segment.specs.Words.{words_by}
use Rattle.mend_op.specs.declared.stage.Stage.{Stage}
use Rattle.mend_op.specs.declared.stage.Stage.TheVariants.{Clear, Mend, Note}
use Rattle.mend_op.specs.Words.{halved, mended, noted}

-- how many words of a bucket the second stage may change: those from its first, which is its lock word, to its metadata word
abbrev pub mended_words_of_bucket : ℕ
mended_words_of_bucket = mark_place + 1

-- how many words it may change: word 1 of each bucket, the lock word and word 1 of each, words 1 and 3 of each home
abbrev pub most : Stage → ℕ
most Clear = buckets
most Mend = mended_words_of_bucket * buckets
most Note = note_words

-- which word of the buckets is the one of this number among them. In the second stage the remainder is the number of the word itself in its bucket:
-- a sum with `lock_place` would be another term
abbrev pub place : Stage → ℕ → ℕ
place Clear n = word_among_buckets n mark_place
place Mend n = word_among_buckets (n / mended_words_of_bucket) (n % mended_words_of_bucket)
place Note n = word_among_buckets (home_of_note n) (place_of_note n)

-- the word that it makes, by all words before it and the header
abbrev pub made_word : Stage → Shape → ℕ → List ℕ → ℕ → ℕ
made_word Clear shape head words = halved words shape head
made_word Mend shape head words = mended words shape head
made_word Note shape head words = noted words shape head

-- ALL WORDS THAT IT MAKES
abbrev pub made : Stage → Shape → ℕ → List ℕ → List ℕ
made stage shape head words = words_by words_of_buckets (made_word stage shape head words)
