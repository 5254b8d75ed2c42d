-- What a mending asks of the memory: words of the image and those behind it, and stores of words.
use Rattle.std.proofs.Common.{◌≡◌, ℕ, ◌+◌, ◌*◌, ◌/◌, ◌^◌, ◌<◌, ◌≤◌, Option, None, Some, refl, sym, ◌∙◌, subst, arith}
use Rattle.trace.specs.Events.{line_of}
use Rattle.segment_head.specs.SplitHeads.{finished_head}
use Rattle.op_core.specs.declared.want.Want.{Want}
use Rattle.op_core.specs.declared.want.Want.TheVariants as wants
use Rattle.image_layout.specs.Places.{first_segment, head_at as header_at, words_of, segment_words, words_of_buckets}
use Rattle.image_layout.specs.Volatile.{all_words_of, counter_word}
use Rattle.world.specs.declared.site.Site.{Site}
use Rattle.world.specs.Ground.{Ground, IsGround}
use Rattle.world.specs.Views.{View, Has}
use Rattle.world.specs.Wants.{word_of}
use Rattle.world.specs.areas.Areas.{header_word}
use Rattle.part.specs.Asks.{IsWithin, PutsWord}
use Rattle.part.proofs.Asking.{store_puts, flush_puts, load_puts, fence_puts, done_puts}
use Rattle.rounds.specs.declared.rounds.Rounds.{Rounds}
use Rattle.rounds.specs.Steps.{event_wanted}
use Rattle.rounds.proofs.Wanted.{by_wanted}
use Rattle.repair_op.specs.Guarded.{guard_of}
use Rattle.mend_op.specs.declared.stage.Stage.{Stage}
use Rattle.mend_op.specs.declared.stage.Stage.TheVariants as stage
use Rattle.mend_op.specs.declared.op.MendStep.{MendStep}
use Rattle.mend_op.specs.declared.op.MendStep.TheVariants.{Fill, Round, Finish, FinishFlush, FinishFence, Note, Renew, RenewFlush, RenewFence, Give, Ended}
use Rattle.mend_op.specs.declared.op.MendOp.{MendOp}
use Rattle.mend_op.specs.Words.{renewed_head}
use Rattle.mend_op.specs.Stages.{most, place}
use Rattle.mend_op.specs.Steps.{own_head_word, word_at, due, store_wanted, wanted_in}
use Rattle.mend_op.specs.Stands.{place_of, IsStageLine, SuitsStep}
use Rattle.mend_op.specs.MendPart.{IsOf}
use Rattle.mend_op.proofs.Dues.{due_is}
use Rattle.mend_op.proofs.stages.Placing.{place_low}
use Rattle.mend_op.proofs.whole.Located.{word_is, head_is, guard_is}
use Rattle.mend_op.proofs.steps.Heads.{finished_small, renewed_small}

module _ (site : Ground) (good : IsGround site) (here : Site) (op : MendOp) (is : IsOf site here op) (v : View) where
  abbrev s : ℕ
  s = op.guarded.segment

  layout : op.guarded.site.geometry ≡ site.shape
  layout = is.here_is.shape

  -- the words of the slot are words of the image, and so are their lines
  slot_low : (f s n w : ℕ) → s < n → w < segment_words → f + segment_words * s + w < f + segment_words * n
  slot_low f s n w inside low = omega (arith, inside, low)

  word_low : (w : ℕ) → w < segment_words → header_at site.shape s + w < words_of site.shape
  word_low w low = slot_low (first_segment site.shape) s site.shape.segments w is.old.within low

  in_image : (i : ℕ) → i < words_of site.shape → i < all_words_of site.shape
  in_image i low = omega (arith, low)

  place_within : (i : ℕ) → i < words_of_buckets → place_of site op.guarded i < words_of site.shape
  place_within i low = subst (λ j. j < words_of site.shape) (by (header_at site.shape s) i) (word_low (32 + i) (omega (arith, low)))
    where
      by : (f i : ℕ) → f + (32 + i) ≡ f + 32 + 32 * 0 + i
      by f i = omega arith

  head_within : header_word site.shape s < words_of site.shape
  head_within = word_low 1 (omega arith)

  -- the line of a word before the last eight of the slot
  line_within : (w : ℕ) → w + 8 < segment_words → 8 * line_of (header_at site.shape s + w) + 8 ≤ words_of site.shape
  line_within w low = by (header_at site.shape s + w) (words_of site.shape) (subst (λ j. j < words_of site.shape) (more (header_at site.shape s) w) (word_low (w + 8) low))
    where
      more : (f w : ℕ) → f + (w + 8) ≡ f + w + 8
      more f w = omega arith

      by : (i end : ℕ) → i + 8 < end → 8 * (i / 8) + 8 ≤ end
      by i end low = omega (arith, low)

  head_line : 8 * line_of (header_word site.shape s) + 8 ≤ words_of site.shape
  head_line = line_within 1 (omega arith)

  -- words that a stage may change stand in front of their bucket
  stage_low : (t : Stage) (n : ℕ) → n < most t → place t n ≤ 2081
  stage_low stage.Clear n low = omega (arith, low)
  stage_low stage.Mend n low = omega (arith, low)
  stage_low stage.Note n low = omega (arith, low)

  stage_line : (t : Stage) (n : ℕ) → n < most t → 8 * line_of (place_of site op.guarded (place t n)) + 8 ≤ words_of site.shape
  stage_line t n low = let near = stage_low t n low in
      subst (λ j. 8 * line_of j + 8 ≤ words_of site.shape) (by (header_at site.shape s) (place t n)) (line_within (32 + place t n) (omega (arith, near)))
    where
      by : (f i : ℕ) → f + (32 + i) ≡ f + 32 + 32 * 0 + i
      by f i = omega arith

  store_in : (i x : ℕ) → i < words_of site.shape → IsWithin site.shape (wants.Store i x)
  store_in i x low = record { word = in_image i low; line = λ n same. absurd (cc) }

  flush_in : (line : ℕ) → 8 * line + 8 ≤ words_of site.shape → IsWithin site.shape (wants.Flush line)
  flush_in line low = record {
    word = omega (arith, low);
    line = λ n same. (let is : line ≡ n = cc in subst (λ m. 8 * m + 8 ≤ words_of site.shape) is low);
  }

  none_in : (w : Want) → word_of site.shape w ≡ counter_word site.shape → ((n : ℕ) → w ≡ wants.Flush n → ⊥) → IsWithin site.shape w
  none_in w is no_flush = record { word = subst (λ i. i < all_words_of site.shape) (sym is) (omega arith); line = λ n same. absurd (no_flush n same) }

  -- ---- in the rounds
  due_within : (t : Stage) (n i x : ℕ) → due op t n ≡ Some (i, x) → IsWithin site.shape (wants.Store i x)
  due_within t n i x same = let d = due_is op t n i x same in
      store_in i x (subst (λ j. j < words_of site.shape) (sym (d.word_is ∙ word_is site op layout is.old.within (place t n))) (place_within (place t n) (place_low t n d.low)))

  round_within : (t : Stage) (n : ℕ) (rounds : Rounds) → ((line : ℕ) → Has line rounds.round → IsStageLine site op.guarded op.words t line) → IsWithin site.shape (event_wanted rounds (due op t n))
  round_within t n rounds lines = by_wanted rounds (due op t n) (IsWithin site.shape) (none_in wants.Done refl (λ n same. absurd (cc)))
      (λ p same. due_within t n p.0 p.1 same)
      (λ line has. let q = lines line has in flush_in line (subst (λ m. 8 * m + 8 ≤ words_of site.shape) (sym q.2) (stage_line t q.0 q.1)))
      (none_in wants.Fence refl (λ n same. absurd (cc)))

  stored_within : (o : Option (ℕ × ℕ)) (n : ℕ) → due op stage.Note n ≡ o → IsWithin site.shape (store_wanted o)
  stored_within (Some next) n same = due_within stage.Note n next.0 next.1 same
  stored_within None n same = none_in wants.Done refl (λ n same. absurd (cc))

  guard_within : guard_of op.guarded < all_words_of site.shape
  guard_within = subst (λ i. i < all_words_of site.shape) (sym (guard_is site op layout is.old.within)) (let low = is.old.within in omega (arith, low))

  pub within_at : (t : MendStep) → SuitsStep site op t v → IsWithin site.shape (wanted_in op t)
  within_at (Fill i) c = record { word = in_image (word_at op i) (subst (λ j. j < words_of site.shape) (sym (word_is site op layout is.old.within i)) (place_within i c.0)); line = λ n same. absurd (cc) }
  within_at (Round t n rounds) c = round_within t n rounds c.1.lines
  within_at Finish c = store_in (own_head_word op) (finished_head op.guarded.head) (subst (λ i. i < words_of site.shape) (sym (head_is site op layout is.old.within)) head_within)
  within_at FinishFlush c = flush_in _ (subst (λ i. 8 * line_of i + 8 ≤ words_of site.shape) (sym (head_is site op layout is.old.within)) head_line)
  within_at FinishFence c = none_in wants.Fence refl (λ n same. absurd (cc))
  within_at (Note n) c = stored_within (due op stage.Note n) n refl
  within_at Renew c = store_in (own_head_word op) (renewed_head op.guarded.site.version op.guarded.head) (subst (λ i. i < words_of site.shape) (sym (head_is site op layout is.old.within)) head_within)
  within_at RenewFlush c = flush_in _ (subst (λ i. 8 * line_of i + 8 ≤ words_of site.shape) (sym (head_is site op layout is.old.within)) head_line)
  within_at RenewFence c = none_in wants.Fence refl (λ n same. absurd (cc))
  within_at Give c = record { word = guard_within; line = λ n same. absurd (cc) }
  within_at Ended c = none_in wants.Done refl (λ n same. absurd (cc))

-- ---- what it puts into the memory
module _ (site : Ground) (here : Site) (op : MendOp) (is : IsOf site here op) (small : op.guarded.site.version < 2 ^ 8) where
  due_puts : (t : Stage) (n i x : ℕ) → due op t n ≡ Some (i, x) → PutsWord (wants.Store i x)
  due_puts t n i x same = let d = due_is op t n i x same in store_puts i x (subst (λ y. y < 2 ^ 64) (sym d.value_is) (is.next_small (place t n)))

  round_puts : (t : Stage) (n : ℕ) (rounds : Rounds) → PutsWord (event_wanted rounds (due op t n))
  round_puts t n rounds = by_wanted rounds (due op t n) PutsWord done_puts (λ p same. due_puts t n p.0 p.1 same)
      (λ line has. flush_puts line)
      fence_puts

  stored_puts : (o : Option (ℕ × ℕ)) (n : ℕ) → due op stage.Note n ≡ o → PutsWord (store_wanted o)
  stored_puts (Some next) n same = due_puts stage.Note n next.0 next.1 same
  stored_puts None n same = done_puts

  pub puts_at : (t : MendStep) → PutsWord (wanted_in op t)
  puts_at (Fill i) = load_puts _
  puts_at (Round t n rounds) = round_puts t n rounds
  puts_at Finish = store_puts _ (finished_head op.guarded.head) (finished_small op.guarded.head)
  puts_at FinishFlush = flush_puts _
  puts_at FinishFence = fence_puts
  puts_at (Note n) = stored_puts (due op stage.Note n) n refl
  puts_at Renew = store_puts _ (renewed_head op.guarded.site.version op.guarded.head) (renewed_small op.guarded.site.version op.guarded.head small is.old.fits)
  puts_at RenewFlush = flush_puts _
  puts_at RenewFence = fence_puts
  puts_at Give = store_puts _ 0 (omega arith)
  puts_at Ended = done_puts
