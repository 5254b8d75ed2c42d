-- The rest of a split is a part of a call.
use Rattle.std.proofs.Common.{◌≡◌, ◌≢◌, ℕ, ◌+◌, ◌*◌, ◌%◌, ◌/◌, ◌^◌, ◌<◌, ◌≤◌, Bool, true, false, Option, None, Some, List, [], inl, inr, refl, sym, ap, ◌∙◌, subst, arith}
use Rattle.std.specs.Prelude.{◌==◌, if◌then◌else◌, slice_index}
use Rattle.std.proofs.lemmas.Bool.{cases_eq, lt-ltb, le-ltb}
use Rattle.trace.specs.Events.{Words, line_of}
use Rattle.op_core.specs.declared.want.Want.{Want}
use Rattle.op_core.specs.declared.want.Want.TheVariants as wants
use Rattle.op_core.specs.declared.want.Ans.{Ans}
use Rattle.segment_head.specs.HeadWord.{depth_in, pattern_in, version_in, normal}
use Rattle.segment_head.specs.SplitHeads.{finished_head}
use Rattle.segment_head.proofs.Headers.{header_below}
use Rattle.image_layout.specs.Places.{Shape, first_segment, head_at, bucket_at, words_of, homes, buckets, block, segment_words, place_of_note}
use Rattle.image_layout.specs.Volatile.{all_words_of, counter_word}
use Rattle.map_model.specs.declared.call.Call.{Call}
use Rattle.way.specs.Ways.{head_word}
use Rattle.world.specs.declared.site.Site.{Site}
use Rattle.frame_facts.specs.Facts.{Fact}
use Rattle.world.specs.Ground.{Ground, IsGround}
use Rattle.world.specs.Views.{View, Has}
use Rattle.world.specs.Wants.{answer_to, word_of}
use Rattle.world.specs.Kinds.{cuts_power}
use Rattle.world.specs.Attempts.{HoldsOnly, EntersReply}
use Rattle.world.specs.areas.Areas.{header_word}
use Rattle.world.specs.StepKinds.{of_call, wanted_of, view_by, MayTake}
use Rattle.world.specs.StepLaws.{IsPublishingStep}
use Rattle.part.specs.Outcomes.{reply_of}
use Rattle.part.specs.Part.{LeavesKnown, IsPart}
use Rattle.part.specs.Asks.{IsWithin, PutsWord}
use Rattle.part.proofs.Asking.{store_puts, flush_puts, fence_puts, done_puts}
use Rattle.enclose_op.specs.Phases.{IsLocated}
use Rattle.enclose_op.proofs.Handing.{same_more}
use Rattle.rounds.specs.declared.rounds.Rounds.{Rounds}
use Rattle.rounds.specs.Steps.{begun, rounds_wanted, event_wanted}
use Rattle.rounds.specs.Stands.{rounds_kind}
use Rattle.rounds.proofs.Wanted.{event_of, by_wanted, event_none}
use Rattle.rounds.proofs.Silent.{round_makes, round_still, round_power}
use Rattle.rounds.proofs.Settling.{rounds_settle}
use Rattle.enclose_op.specs.declared.enclosed.Enclosed.{Enclosed}
use Rattle.enclose_op.specs.declared.give.Give.{Give as Giving}
use Rattle.enclose_op.specs.declared.give.Give.TheVariants as giving
use Rattle.enclose_op.specs.Whole.{IsOf, IsWhole, kept_word, kept_third}
use Rattle.enclose_op.specs.Giving.{given}
use Rattle.enclose_op.specs.GiveLaws.{SuitsNext}
use Rattle.enclose_op.specs.Splitting.{KeepsSplit}
use Rattle.enclose_op.proofs.Places.{lock_is, head_is, kept_there}
use Rattle.enclose_op.proofs.Backing.{give_wants, give_may, give_next}
use Rattle.enclose_op.proofs.Giving.{give_some, give_answer, give_puts, give_makes, give_power, give_own, give_seen, give_plan, lock_low, give_in}
use Rattle.rest_op.specs.declared.op.RestOp.{RestOp}
use Rattle.rest_op.specs.declared.op.RestStep.{RestStep}
use Rattle.rest_op.specs.declared.op.RestStep.TheVariants.{Clear, Head, HeadFlush, HeadFence, Note, Open, Give, Ended}
use Rattle.rest_op.specs.Steps.{due, clear_from, is_cleared, clearing_by, noting, note_from, note_home, note_word, note_value, given_by, wanted_in, next_in, wanted, at_step, begun_in, end_at}
use Rattle.rest_op.specs.Reckoned.{IsReckoned}
use Rattle.rest_op.specs.Stands.{value_of, cleared_before, kind_at, HasAll, IsClearing, SuitsStep}
use Rattle.rest_op.specs.RestPart.{outcome_at, rest_part, BeginsAsPart, BeginsUndecided, EndsAsSplit}
use Rattle.rest_op.proofs.whole.Words.{other_value}
use Rattle.rounds.proofs.Seeking.{seek_within}
use Rattle.rest_op.proofs.whole.Known.{all_same}
use Rattle.rest_op.proofs.Clearing.{passed_over}
use Rattle.rest_op.proofs.Rounding.{due_is, clearing_suits, round_may, round_stands}
use Rattle.rest_op.proofs.Ending.{head_may, head_stands, flush_stands, fence_may, fence_all, fence_settled}
use Rattle.rest_op.proofs.Noting.{note_goes, noting_suits, none_noted}
use Rattle.rest_op.proofs.Opens.{open_may, open_wants, open_stands}
use Rattle.rest_op.proofs.Counting.{falls_at, most_at, waits_few, flushes_at, keeps_at, ends_waiting}

-- ---- one step
module _ (site : Ground) (ground : IsGround site) (here : Site) (call : Call) (op : RestOp) (is : IsOf site here call op.whole) (whole : IsWhole site op.whole) (reckoned : IsReckoned op) (v : View) where
  abbrev e : Enclosed
  e = op.whole

  abbrev l : IsLocated site e.site e.segment
  l = is.located

  abbrev Suited : RestStep → Type 0
  Suited s = SuitsStep site op s v

  -- what the rounds want, where there is anything
  clear_wants_by : (b : ℕ) (rounds : Rounds) → Suited (Clear b rounds) → (o : Option Want) → rounds_wanted rounds (due op b) ≡ o
      → event_wanted rounds (due op b) ≡ wanted_of site.shape (rounds_kind rounds (due op b) [])
  clear_wants_by b rounds s (Some want) wants = event_of rounds (due op b) want s.0.stands.few wants ∙ rounds_settle.wants site.shape [] rounds (due op b) want wants
  clear_wants_by b rounds s None wants = absurd (s.1 wants)

  wants_at : (s : RestStep) → Suited s → wanted_in op s ≢ wants.Done → wanted_in op s ≡ wanted_of site.shape (kind_at op s)
  wants_at (Clear b rounds) s asks = clear_wants_by b rounds s (rounds_wanted rounds (due op b)) refl
  wants_at Head s asks = ap (λ i. wants.Store i (finished_head e.head)) (head_is site e l)
  wants_at HeadFlush s asks = refl
  wants_at HeadFence s asks = refl
  wants_at (Note n) s asks = refl
  wants_at Open s asks = open_wants site ground here call op is whole reckoned v s
  wants_at (Give give) s asks = give_wants site e l v give s
  wants_at Ended s asks = absurd (asks refl)

  may_at : (s : RestStep) → Suited s → MayTake site (kind_at op s) v
  may_at (Clear b rounds) s = round_may site op l ground whole.small reckoned b rounds v s.0
  may_at Head s = head_may site ground here call op is whole v s.0 s.1
  may_at HeadFlush s = (tt, tt)
  may_at HeadFence s = fence_may site ground here call op is whole v s
  may_at (Note n) s = (note_goes site ground op l reckoned v n s.0 s.1).may
  may_at Open s = open_may site ground here call op is whole reckoned v s
  may_at (Give give) s = give_may site e l v give s
  may_at Ended s = (tt, tt)

  abbrev next_view : RestStep → ℕ → View
  next_view s n = view_by site.shape (kind_at op s) n v

  abbrev Stood : RestStep → ℕ → Type 0
  Stood s n = SuitsStep site op (next_in op s (answer_to (wanted_in op s) n)) (next_view s n)

  clear_stands_by : (b : ℕ) (rounds : Rounds) (n : ℕ) → Suited (Clear b rounds) → (o : Option Want) → rounds_wanted rounds (due op b) ≡ o → Stood (Clear b rounds) n
  clear_stands_by b rounds n s (Some want) wants = round_stands site op l ground whole.small reckoned b rounds v s.0 n want wants
  clear_stands_by b rounds n s None wants = absurd (s.1 wants)

  given_suits : (o : Option Giving) (u : View) → SuitsNext site e o u → SuitsStep site op (given_by o) u
  given_suits (Some more) u s = s
  given_suits None u s = s

  note_stands : (m n : ℕ) (s : Suited (Note m)) → n ≡ (note_goes site ground op l reckoned v m s.0 s.1).old → Stood (Note m) n
  note_stands m n s found =
      let u : View = next_view (Note m) n in
      subst (λ t. SuitsStep site op (if t then noting (note_from op (m + 1)) else Open) u) (sym (lt-ltb m (2 * homes) s.0))
      (noting_suits site ground op l (m + 1) u (let low = s.0 in omega (arith, low)) ((note_goes site ground op l reckoned v m s.0 s.1).stands n found))

  -- THE VIEW AFTER stands for the next step, where what is known is the newest
  stands_at : (s : RestStep) (n : ℕ) → Suited s → wanted_in op s ≢ wants.Done → (words : Words) → words (word_of site.shape (wanted_in op s)) ≡ n
      → ((i x : ℕ) → Has (i, x) v.known → words i ≡ x) → Stood s n
  stands_at (Clear b rounds) n s asks words found knows = clear_stands_by b rounds n s (rounds_wanted rounds (due op b)) refl
  stands_at Head n s asks words found knows = head_stands site ground here call op is whole v s.0 s.1 n
  stands_at HeadFlush n s asks words found knows = flush_stands site ground here call op is whole v s n
  stands_at HeadFence n s asks words found knows =
      let u : View = next_view HeadFence n in
      noting_suits site ground op l 0 u (omega arith) (none_noted site ground op l u (fence_all site ground here call op is whole v s n) (fence_settled site ground here call op is whole v s n))
  stands_at (Note m) n s asks words found knows =
      let goes = note_goes site ground op l reckoned v m s.0 s.1 in
      note_stands m n s (sym found ∙ knows (note_word op m) goes.old goes.known)
  stands_at Open n s asks words found knows = (omega arith, omega arith, open_stands site ground here call op is whole reckoned v s n)
  stands_at (Give give) n s asks words found knows =
      let u : View = next_view (Give give) n in
      subst (λ (a : Ans). SuitsStep site op (next_in op (Give give) a) u) (sym (give_answer e give n)) (given_suits (given give) u (give_next site e l v give n s))
  stands_at Ended n s asks words found knows = absurd (asks refl)

-- how a view stands is said of what is kept, and not of the step that the machine has
still_suits : (site : Ground) (op : RestOp) (t s : RestStep) (v : View) → SuitsStep site op s v → SuitsStep site (at_step op t) s v
still_suits site op t (Clear b rounds) v s = (record { split = s.0.split; near = s.0.near; stands = s.0.stands; lines = s.0.lines; loose = s.0.loose }, s.1)
still_suits site op t Head v s = s
still_suits site op t HeadFlush v s = record { all = s.all; flushed = s.flushed; loose = s.loose }
still_suits site op t HeadFence v s = record { all = s.all; dirty = s.dirty }
still_suits site op t (Note n) v s = (s.0, record { all = s.1.all; settled = s.1.settled })
still_suits site op t Open v s = record { all = s.all; settled = s.settled }
still_suits site op t (Give give) v s = s
still_suits site op t Ended v s = s

-- ---- replies: it has none, and enters none
none_replied : (s : RestStep) → reply_of (outcome_at s) ≡ None
none_replied Ended = refl
none_replied s = refl

same_own : (shape : Shape) (op : RestOp) (s : RestStep) (n : ℕ) (v : View) → (view_by shape (kind_at op s) n v).own ≡ v.own
same_own shape op (Clear b rounds) n v = (round_still shape n v [] (rounds_wanted rounds (due op b))).own
same_own shape op Head n v = refl
same_own shape op HeadFlush n v = refl
same_own shape op HeadFence n v = refl
same_own shape op (Note m) n v = refl
same_own shape op Open n v = refl
same_own shape op (Give give) n v = give_own shape op.whole give n v
same_own shape op Ended n v = refl

same_seen : (shape : Shape) (op : RestOp) (s : RestStep) (n : ℕ) (v : View) → (view_by shape (kind_at op s) n v).seen ≡ v.seen
same_seen shape op (Clear b rounds) n v = (round_still shape n v [] (rounds_wanted rounds (due op b))).seen
same_seen shape op Head n v = refl
same_seen shape op HeadFlush n v = refl
same_seen shape op HeadFence n v = refl
same_seen shape op (Note m) n v = refl
same_seen shape op Open n v = refl
same_seen shape op (Give give) n v = give_seen shape op.whole give n v
same_seen shape op Ended n v = refl

enters_at : (shape : Shape) (call : Call) (op : RestOp) (before v : View) (s t : RestStep) (n : ℕ) → EntersReply call (reply_of (outcome_at s)) before v
    → EntersReply call (reply_of (outcome_at t)) before (view_by shape (kind_at op s) n v)
enters_at shape call op before v s t n enters =
    subst (λ o. EntersReply call o before (view_by shape (kind_at op s) n v)) (sym (none_replied t))
    (same_more call before v None (view_by shape (kind_at op s) n v) (subst (λ o. EntersReply call o before v) (none_replied s) enters) (same_own shape op s n v) (same_seen shape op s n v))

-- ---- it makes no change, and cuts no power
makes_none : (op : RestOp) (s : RestStep) → IsPublishingStep (kind_at op s) → ⊥
makes_none op (Clear b rounds) p = round_makes [] (rounds_wanted rounds (due op b)) p
makes_none op Head p = p
makes_none op HeadFlush p = p
makes_none op HeadFence p = p
makes_none op (Note n) p = p
makes_none op Open p = p
makes_none op (Give give) p = give_makes op.whole give p
makes_none op Ended p = p

power_at : (op : RestOp) (s : RestStep) → kind_at op s ≢ of_call cuts_power
power_at op (Clear b rounds) same = round_power [] (rounds_wanted rounds (due op b)) same
power_at op Head same = absurd (cc)
power_at op HeadFlush same = absurd (cc)
power_at op HeadFence same = absurd (cc)
power_at op (Note n) same = absurd (cc)
power_at op Open same = absurd (cc)
power_at op (Give give) same = give_power op.whole give same
power_at op Ended same = absurd (cc)

-- ---- what it asks of the memory
module _ (site : Ground) (good : IsGround site) (op : RestOp) (l : IsLocated site op.whole.site op.whole.segment) (v : View) where
  abbrev at : ℕ → ℕ
  at b = bucket_at site.shape op.whole.segment b

  -- the words of the slot are words of the image, and so are their lines
  slot_low : (f s n w : ℕ) → s < n → w < segment_words → f + segment_words * s + w < f + segment_words * n
  slot_low f s n w inside low = omega (arith, inside, low)

  word_low : (w : ℕ) → w < segment_words → head_at site.shape op.whole.segment + w < words_of site.shape
  word_low w low = slot_low (first_segment site.shape) op.whole.segment site.shape.segments w l.within low

  in_image : (i : ℕ) → i < words_of site.shape → i < all_words_of site.shape
  in_image i low = omega (arith, low)

  bucket_low : (b m : ℕ) → b < buckets → m < block → at b + m < words_of site.shape
  bucket_low b m near low = subst (λ i. i < words_of site.shape) (by (head_at site.shape op.whole.segment) b m) (word_low (32 + 32 * b + m) (omega (arith, near, low)))
    where
      by : (f b m : ℕ) → f + (32 + 32 * b + m) ≡ f + 32 + 32 * b + m
      by f b m = omega arith

  header_low : header_word site.shape op.whole.segment < words_of site.shape
  header_low = word_low 1 (omega arith)

  -- eight words from the line's first on
  eight_low : (i far end : ℕ) → far < end → i + 8 ≤ far → 8 * (i / 8) + 8 ≤ end
  eight_low i far end low near = omega (arith, low, near)

  line_low : (b : ℕ) → b < buckets → 8 * line_of (at b + 1) + 8 ≤ words_of site.shape
  line_low b near = eight_low (at b + 1) (at b + 9) (words_of site.shape) (bucket_low b 9 near (omega arith)) (omega arith)

  header_line : 8 * line_of (header_word site.shape op.whole.segment) + 8 ≤ words_of site.shape
  header_line = eight_low (header_word site.shape op.whole.segment) (head_at site.shape op.whole.segment + 9) (words_of site.shape) (word_low 9 (omega arith)) (omega arith)

  store_in : (i x : ℕ) → i < words_of site.shape → IsWithin site.shape (wants.Store i x)
  store_in i x low = record { word = in_image i low; line = λ n same. absurd (cc) }

  flush_in : (line : ℕ) → 8 * line + 8 ≤ words_of site.shape → IsWithin site.shape (wants.Flush line)
  flush_in line low = record {
    word = omega (arith, low);
    line = λ n same. (let is : line ≡ n = cc in subst (λ m. 8 * m + 8 ≤ words_of site.shape) is low);
  }

  none_in : (w : Want) → word_of site.shape w ≡ counter_word site.shape → ((n : ℕ) → w ≡ wants.Flush n → ⊥) → IsWithin site.shape w
  none_in w is no_flush = record { word = subst (λ i. i < all_words_of site.shape) (sym is) (omega arith); line = λ n same. absurd (no_flush n same) }

  clear_within : (b : ℕ) (rounds : Rounds) → IsClearing site op b rounds v → IsWithin site.shape (event_wanted rounds (due op b))
  clear_within b rounds c = by_wanted rounds (due op b) (IsWithin site.shape) (none_in wants.Done refl (λ n same. absurd (cc)))
      (λ p due. let d = due_is op b p.0 p.1 due in
      store_in p.0 p.1 (subst (λ i. i < words_of site.shape) (sym (d.1 ∙ ap (λ i. i + 1) (lock_is site op.whole l b d.0))) (bucket_low b 1 d.0 (omega arith))))
      (λ line has. let q = c.lines line has in flush_in line (subst (λ m. 8 * m + 8 ≤ words_of site.shape) (sym q.2) (line_low q.0 q.1)))
      (none_in wants.Fence refl (λ n same. absurd (cc)))

  place_low : (n : ℕ) → place_of_note n < block
  place_low n = omega arith

  note_low : (n : ℕ) → note_word op n < words_of site.shape
  note_low n =
      let near : note_home n < buckets = omega arith in
      subst (λ i. i + place_of_note n < words_of site.shape) (sym (lock_is site op.whole l (note_home n) near)) (bucket_low (note_home n) (place_of_note n) near (place_low n))

  within_at : (s : RestStep) → SuitsStep site op s v → IsWithin site.shape (wanted_in op s)
  within_at (Clear b rounds) s = clear_within b rounds s.0
  within_at Head s = store_in _ (finished_head op.whole.head) (subst (λ i. i < words_of site.shape) (sym (head_is site op.whole l)) header_low)
  within_at HeadFlush s = flush_in _ (subst (λ i. 8 * line_of i + 8 ≤ words_of site.shape) (sym (head_is site op.whole l)) header_line)
  within_at HeadFence s = none_in wants.Fence refl (λ n same. absurd (cc))
  within_at (Note n) s = store_in (note_word op n) (note_value op n) (note_low n)
  within_at Open s = record { word = lock_low site op.whole l 0 (omega arith); line = λ n same. absurd (cc) }
  within_at (Give give) s = give_in site op.whole l give v s
  within_at Ended s = none_in wants.Done refl (λ n same. absurd (cc))

-- ---- what it puts into the memory
module _ (op : RestOp) (reckoned : IsReckoned op) where
  rest_small : finished_head op.whole.head < 2 ^ 64
  rest_small = header_below (version_in op.whole.head) normal ((depth_in op.whole.head + 1) % 2 ^ 8) (2 * pattern_in op.whole.head % 2 ^ 32) (omega arith) (omega arith) (omega arith) (omega arith)

  note_small : (n : ℕ) (t : Bool) → (if t then slice_index op.notes.first (note_home n) else slice_index op.notes.third (note_home n)) < 2 ^ 64
  note_small n true = reckoned.first_small (note_home n)
  note_small n false = reckoned.third_small (note_home n)

  clear_puts : (b : ℕ) (rounds : Rounds) → PutsWord (event_wanted rounds (due op b))
  clear_puts b rounds = by_wanted rounds (due op b) PutsWord done_puts
      (λ p due. store_puts p.0 p.1 (subst (λ x. x < 2 ^ 64) (sym (due_is op b p.0 p.1 due).2) (reckoned.cleared_small b)))
      (λ line has. flush_puts line)
      fence_puts

  puts_at : (s : RestStep) → PutsWord (wanted_in op s)
  puts_at (Clear b rounds) = clear_puts b rounds
  puts_at Head = store_puts _ (finished_head op.whole.head) rest_small
  puts_at HeadFlush = flush_puts _
  puts_at HeadFence = fence_puts
  puts_at (Note n) = store_puts (note_word op n) (note_value op n) (note_small n (n % 2 == 0))
  puts_at Open = give_puts op.whole (giving.Lock 0 buckets)
  puts_at (Give give) = give_puts op.whole give
  puts_at Ended = done_puts

-- ---- nothing is planned, and nothing held at the end
no_plan : (site : Ground) (op : RestOp) (s : RestStep) (v : View) → SuitsStep site op s v → v.planned ≡ []
no_plan site op (Clear b rounds) v s = s.0.split.all.idle.planned
no_plan site op Head v s = s.0.all.idle.planned
no_plan site op HeadFlush v s = s.all.idle.planned
no_plan site op HeadFence v s = s.all.idle.planned
no_plan site op (Note n) v s = s.1.all.idle.planned
no_plan site op Open v s = s.all.idle.planned
no_plan site op (Give give) v s = give_plan site op.whole give v s
no_plan site op Ended v s = s.planned

-- while buckets are cleared something is wanted
clear_some : (site : Ground) (op : RestOp) (b : ℕ) (rounds : Rounds) (v : View) → SuitsStep site op (Clear b rounds) v → event_wanted rounds (due op b) ≡ wants.Done → ⊥
clear_some site op b rounds v s done = s.1 (event_none rounds (due op b) s.0.stands.few done)

ended_at : (site : Ground) (op : RestOp) (s : RestStep) (v : View) → SuitsStep site op s v → wanted_in op s ≡ wants.Done → s ≡ Ended
ended_at site op (Clear b rounds) v s done = absurd (clear_some site op b rounds v s done)
ended_at site op Head v s done = absurd (let no : wants.Store (head_word op.whole.site.geometry op.whole.segment) (finished_head op.whole.head) ≡ wants.Done = done in cc)
ended_at site op HeadFlush v s done = absurd (let no : wants.Flush (line_of (head_word op.whole.site.geometry op.whole.segment)) ≡ wants.Done = done in cc)
ended_at site op HeadFence v s done = absurd (let no : wants.Fence ≡ wants.Done = done in cc)
ended_at site op (Note n) v s done = absurd (let no : wants.Store (note_word op n) (note_value op n) ≡ wants.Done = done in cc)
ended_at site op Open v s done = absurd (give_some op.whole (giving.Lock 0 buckets) done)
ended_at site op (Give give) v s done = absurd (give_some op.whole give done)
ended_at site op Ended v s done = refl

bare_at : (site : Ground) (op : RestOp) (s : RestStep) (v : View) → SuitsStep site op s v → wanted_in op s ≡ wants.Done → HoldsOnly [] v
bare_at site op s v suits done = subst (λ (t : RestStep). SuitsStep site op t v) (ended_at site op s v suits done) suits

-- THE REST OF A SPLIT IS A PART of a call
-- it never ends since a segment is stale
known_at : (site : Ground) (s : RestStep) (facts : List Fact) → LeavesKnown site (outcome_at s) facts
known_at site Ended facts = tt
known_at site s facts = tt

pub rest_is_part : IsPart rest_part
rest_is_part = record {
  steps = λ site here call words views j op before v h at s asks.
      let n : ℕ = words (word_of site.shape (wanted op)) in
      let st = s.stands in
      record {
        wants = wants_at site h.site_is here call op st.is st.whole st.reckoned v op.step st.view asks;
        may = may_at site h.site_is here call op st.is st.whole st.reckoned v op.step st.view;
        stands = λ small. record {
          is = st.is;
          whole = st.whole;
          reckoned = record { cleared = st.reckoned.cleared; records = st.reckoned.records; exact = st.reckoned.exact; cleared_small = st.reckoned.cleared_small; first_small = st.reckoned.first_small; third_small = st.reckoned.third_small };
          view = still_suits site op (next_in op op.step (answer_to (wanted op) n)) (next_in op op.step (answer_to (wanted op) n)) (view_by site.shape (kind_at op op.step) n v)
              (stands_at site h.site_is here call op st.is st.whole st.reckoned v op.step n st.view asks words refl (λ i x known. (h.known.knows j v i x at known).0));
        };
        enters = λ small. enters_at site.shape call op before v op.step (next_in op op.step (answer_to (wanted op) n)) n s.enters;
        makes = λ p. absurd (makes_none op op.step p);
      };
  ends = λ site here call op v s done closed on. bare_at site op op.step v s.view done;
  time = record { falls = λ op a i. inl (falls_at op op.step a i); most = λ op. most_at op.step };
  within = λ site here call op before v good s. within_at site good op s.stands.is.located v op.step s.stands.view;
  words = λ site here call op before v s. puts_at op s.stands.reckoned op.step;
  flushes = record {
    most = λ op. waits_few op.step;
    flushes = λ op a line i flush. flushes_at op op.step a line i flush;
    keeps = λ op a i no_fence. keeps_at op op.step a i no_fence;
    ends = λ op done. ends_waiting op op.step done;
  };
  made = record { stays = λ op a i made. absurd made; done = λ op made done. absurd made };
  plans = λ site here call op before v planned s has. absurd (subst (λ (l : List Call). Has planned l) (no_plan site op op.step v s.stands.view) has);
  relies = λ site here call op v s. known_at site op.step v.facts;
  hands = λ op hands. absurd (let no : false ≡ true = hands in cc);
  power = λ op n. power_at op op.step;
}

-- ---- where it begins
module _ (site : Ground) (here : Site) (call : Call) (op : RestOp) (v : View) (k : KeepsSplit site here call op.whole v) where
  abbrev b : ℕ
  b = clear_from op 0

  -- all words are as they were kept
  kept_value : (c m : ℕ) → value_of op.whole (cleared_before op 0) (kept_third op.whole) c m ≡ kept_word op.whole c m
  kept_value c m = elim (cases_eq m 1) [
    | inl one ↦ ap (value_of op.whole (cleared_before op 0) (kept_third op.whole) c) one ∙ ap (λ t. if t then slice_index op.cleared c else kept_word op.whole c 1) (le-ltb c 0 (omega arith)) ∙ ap (kept_word op.whole c) (sym one)
    | inr not_one ↦ elim (cases_eq m 3) [
      | inl three ↦ ap (value_of op.whole (cleared_before op 0) (kept_third op.whole) c) three ∙ ap (kept_word op.whole c) (sym three)
      | inr not_three ↦ other_value op.whole (cleared_before op 0) (kept_third op.whole) c m not_one not_three
    ]
  ]

  begins_all : HasAll site op.whole (cleared_before op 0) (kept_third op.whole) k.head v
  begins_all = record {
    areas = k.areas;
    locks = k.locks;
    words = λ c m near from low. subst (λ x. Has (bucket_at site.shape op.whole.segment c + m, x) v.known) (kept_there site op.whole k.is.located c m ∙ sym (kept_value c m)) (k.buckets_are c m near from low).known;
    header = k.header.known;
    link = (k.link.0, k.link.1.known);
    known = k.known;
    idle = record { planned = k.quiet.planned; moving = k.quiet.moving; owed = k.quiet.owed };
  }

  begins_clearing : IsClearing site op b begun v
  begins_clearing = record {
    split = record {
      head = k.head;
      is_head = k.is_head;
      all = all_same site op.whole (cleared_before op 0) (kept_third op.whole) (cleared_before op b) (kept_third op.whole) k.head v (λ c _. passed_over op 0 c) (λ c _. refl) begins_all;
      lacks = k.lacks;
      deep = k.deep;
    };
    near = seek_within (is_cleared op) buckets 0 (omega arith);
    stands = rounds_settle.begins v (record { dirty = k.quiet.dirty; flushed = k.quiet.flushed });
    lines = λ line none. absurd none;
    loose = λ p loose. elim loose [
      | inl dirty ↦ absurd (subst (λ (l : List (ℕ × ℕ)). Has p l) k.quiet.dirty dirty)
      | inr flushed ↦ absurd (subst (λ (l : List (ℕ × ℕ)). Has p l) k.quiet.flushed flushed)
    ];
  }

  begins_suits : SuitsStep site op (begun_in op) v
  begins_suits = clearing_suits site op k.is.located b begun v begins_clearing

pub begins_as_part : BeginsAsPart
begins_as_part site here call op v k reckoned step = record {
  is = k.is;
  whole = k.whole;
  reckoned = reckoned;
  view = subst (λ (s : RestStep). SuitsStep site op s v) (sym step) (begins_suits site here call op v k);
}

begun_by : (op : RestOp) (b : ℕ) (rounds : Rounds) (o : Option Want) → outcome_at (clearing_by op o b rounds) ≡ None
begun_by op b rounds (Some want) = refl
begun_by op b rounds None = refl

pub begins_undecided : BeginsUndecided
begins_undecided op = begun_by op (clear_from op 0) begun (rounds_wanted begun (due op (clear_from op 0)))

-- ---- how it ends
pub ends_as_split : EndsAsSplit
ends_as_split site here call op v s done =
    let last = ended_at site op op.step v s.view done in
    (ap outcome_at last, ap end_at last)
