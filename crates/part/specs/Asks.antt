-- What an event may ask of the memory: words of the image and those behind it, and stores of words.
use Rattle.std.specs.Prelude.{◌≡◌, ℕ, ◌^◌, ◌<◌}
use Rattle.trace.specs.Events.{HasLine}
use Rattle.op_core.specs.declared.want.Want.{Want}
use Rattle.op_core.specs.declared.want.Want.TheVariants.{Store, Exchange, Flush}
use Rattle.image_layout.specs.Places.{Shape, words_of}
use Rattle.image_layout.specs.Volatile.{all_words_of}
use Rattle.world.specs.Wants.{word_of}

-- the word is one of the image or one behind it, and a line that is flushed is one of the image
pub record IsWithin (shape : Shape) (want : Want) : Type 0 where
  pub word : word_of shape want < all_words_of shape
  pub line : (l : ℕ) → want ≡ Flush l → HasLine (words_of shape) l

-- what is stored, or put in place of another value, is a word
pub record PutsWord (want : Want) : Type 0 where
  pub stores : (i x : ℕ) → want ≡ Store i x → x < 2 ^ 64
  pub exchanges : (i a b : ℕ) → want ≡ Exchange i a b → b < 2 ^ 64
