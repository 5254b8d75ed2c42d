-- Each word is the last that was written to it, and a word that was not written is zero.
use Rattle.std.proofs.Common.{◌≡◌, ◌≢◌, ℕ, ◌≤◌, List, get_or, slice_set, ◌∙◌, arith, rules}
use Rattle.std.proofs.lemmas.Grind.{common_steps}
use Rattle.std.proofs.lemmas.List.{get_or-set_other}
use Rattle.image_file.proofs.formatted.empty_words.Goals as goal

unwritten : (words : List ℕ) (header a b c d e f i : ℕ) → 4 ≤ i → i ≢ 16 → i ≢ header
    → get_or (slice_set (slice_set (slice_set (slice_set (slice_set (slice_set words 0 a) 1 b) 2 c) 3 d) 16 e) header f) i 0 ≡ get_or words i 0
unwritten words header a b c d e f i behind not_state not_header =
    get_or-set_other _ header i f 0 not_header
    ∙ get_or-set_other _ 16 i e 0 not_state
    ∙ get_or-set_other _ 3 i d 0 (omega arith)
    ∙ get_or-set_other _ 2 i c 0 (omega arith)
    ∙ get_or-set_other _ 1 i b 0 (omega arith)
    ∙ get_or-set_other words 0 i a 0 (omega arith)

pub returns : goal.returns
returns c = record {
  whole = rw c.new.ensures (search rules);
  says_shape = rw c.new.ensures (record { magic_word = search rules; format = search rules; segments = search rules; depth = search rules });
  status = rw c.new.ensures (search rules);
  header = rw c.new.ensures (search rules);
  others = λ i behind not_state not_header.
      rw c.new.ensures (unwritten c.in_ok-words.words.items c.header_word.result _ _ _ _ _ _ i behind not_state (rw c.header_word.ensures.is not_header) ∙ grind (arith, common_steps));
}
