-- What it asks for, what it plans, how it begins and ends, and what it hands on.
use Rattle.std.proofs.Common.{◌≡◌, ℕ, ◌+◌, ◌-◌, ◌*◌, ◌/◌, ◌^◌, ◌<◌, ◌≤◌, true, false, Some, List, [], refl, sym, ap, ◌∙◌, subst, arith}
use Rattle.std.proofs.lemmas.Option.{none-some, same_Some}
use Rattle.op_core.specs.declared.want.Want.TheVariants as want
use Rattle.segment_head.specs.HeadWord.{depth_in}
use Rattle.image_layout.specs.Places.{Shape, root_word, first_segment, bucket_at, words_of, segment_words}
use Rattle.image_layout.specs.Volatile.{directory_guard}
use Rattle.way.specs.Ways.{head_word}
use Rattle.map_model.specs.declared.call.Call.{Call}
use Rattle.world.specs.declared.site.Site.{Site}
use Rattle.frame_facts.specs.Facts.{Fact}
use Rattle.world.specs.Ground.{Ground, IsGround}
use Rattle.world.specs.Views.{View, Has}
use Rattle.world.specs.Holders.{KnowsWord}
use Rattle.world.specs.areas.Areas.{header_word}
use Rattle.world.specs.areas.Splitting.{link_word}
use Rattle.world.proofs.holders.directing.Known.{front_far}
use Rattle.world.proofs.moving.Known.{slot_within}
use Rattle.world.proofs.fitting.OneHolder.{head_in_slot}
use Rattle.part.specs.Asks.{IsWithin, PutsWord}
use Rattle.part.specs.Part.{AsksWithin, PutsWords, EndsAsDone, PlansItsCall, LeavesKnown, KnowsStale, HandsOnAtEnd, KeepsPower}
use Rattle.rounds.specs.Steps.{event_wanted}
use Rattle.rounds.proofs.Events.{events_end}
use Rattle.rounds.proofs.Wanted.{by_wanted, event_none}
use Rattle.split_op.specs.Splitting.{KeepsSplit}
use Rattle.split_op.specs.declared.copied.Copied.{Copied}
use Rattle.split_op.specs.Copied.{split_head, side_head, copied_words}
use Rattle.directory_op.specs.declared.op.DirectoryEnd.TheVariants.{Published, Off}
use Rattle.directory_op.specs.declared.op.Stage.{Stage}
use Rattle.directory_op.specs.declared.op.Stage.TheVariants.{Fill, Filled, Deepen, Deepened, GoLive, Live, Enter, Entered}
use Rattle.directory_op.specs.declared.op.DirectoryStep.{DirectoryStep}
use Rattle.directory_op.specs.declared.op.DirectoryStep.TheVariants.{LoadHead, LoadSideHead, TakeGuard, AskPower, LoadRoot, LoadEntry, Store, GiveGuard, Ended}
use Rattle.directory_op.specs.declared.op.DirectoryOp.{DirectoryOp}
use Rattle.directory_op.specs.Places.{entry_word_at, live_head}
use Rattle.directory_op.specs.Steps.{shape_of, next_store, wanted_in}
use Rattle.directory_op.specs.Fits.{SuitsStage, SuitsStore, SuitsStep, KeepsPublished}
use Rattle.directory_op.specs.DirectoryPart.{HandsOnSplit, goes_on, outcome_at, directory_part, BeginsAsPart, BeginsUndecided, HandsOnPublished, EndsOff}
use Rattle.part.specs.Outcomes.{off}
use Rattle.part.proofs.Asking.{store_puts, flush_puts, load_puts, fence_puts, done_puts}
use Rattle.directory_op.proofs.Sides.{head_kept, split_header, bucket_kept}
use Rattle.directory_op.proofs.Words.{doubled, head_is}
use Rattle.directory_op.proofs.stages.Rounding.{next_near, entry_near}
use Rattle.directory_op.proofs.Suiting.{never_cuts}

-- ---- words of the image and those behind it
module _ (site : Ground) (ground : IsGround site) where
  abbrev shape : Shape
  shape = site.shape

  some_words : 32 ≤ words_of shape
  some_words = by (first_segment shape) (front_far shape) shape.segments
    where
      by : (f : ℕ) → 32 ≤ f → (s : ℕ) → 32 ≤ f + segment_words * s
      by f far s = omega (arith, far)

  load_within : (i : ℕ) → i < words_of shape → IsWithin shape (want.Load i)
  load_within i low = record { word = omega (arith, low); line = λ l e. absurd (cc) }

  store_within : (i x : ℕ) → i < words_of shape → IsWithin shape (want.Store i x)
  store_within i x low = record { word = omega (arith, low); line = λ l e. absurd (cc) }

  flush_within : (line : ℕ) → 8 * line + 8 ≤ words_of shape → IsWithin shape (want.Flush line)
  flush_within line low = record { word = omega (arith, low); line = λ l e. subst (λ k. 8 * k + 8 ≤ words_of shape) (let z : want.Flush line ≡ want.Flush l = e in cc) low }

  fence_within : IsWithin shape want.Fence
  fence_within = record { word = omega arith; line = λ l e. absurd (cc) }

  done_within : IsWithin shape want.Done
  done_within = record { word = omega arith; line = λ l e. absurd (cc) }

  module _ (here : Site) (call : Call) (op : DirectoryOp) (v : View) where
    head_near : (s : ℕ) → shape_of op ≡ shape → s < shape.segments → head_word (shape_of op) s < words_of shape
    head_near s same low = subst (λ i. i < words_of shape) (sym (head_is (shape_of op) shape s same low)) (slot_within shape s (header_word shape s) low (head_in_slot shape s))

    stage_within : (stage : Stage) → SuitsStore site here op call stage v → IsWithin shape (event_wanted op.rounds (next_store op stage))
    stage_within stage s = by_wanted op.rounds (next_store op stage) (IsWithin shape) done_within
        (λ p e. store_within p.0 p.1 (next_near site ground here call op v stage s.at p.0 p.1 e))
        (λ line has. flush_within line (s.storing.lines line has))
        fence_within

    within_in : (step : DirectoryStep) → SuitsStep site here op call step v → IsWithin shape (wanted_in op step)
    within_in LoadHead s = load_within (head_word (shape_of op) op.copied.whole.segment) (head_near op.copied.whole.segment s.is.located.shape s.there.within)
    within_in LoadSideHead s = load_within (head_word (shape_of op) op.copied.side) (head_near op.copied.side s.keeps.is.located.shape s.keeps.copy.slot)
    within_in TakeGuard s = subst (λ (g : Shape). IsWithin shape (want.Exchange (directory_guard g) 0 op.copied.whole.site.caller)) (sym s.keeps.is.located.shape) (record { word = omega arith; line = λ l e. absurd (cc) })
    within_in AskPower s = record { word = omega arith; line = λ l e. absurd (cc) }
    within_in LoadRoot s = load_within root_word (let some = some_words in omega (arith, some))
    within_in (LoadEntry place) s =
        let doubles = s.filling.doubles in
        let root = doubles.root in
        let deep = doubles.deep in
        let near = s.low in
        let twice : 2 ^ op.root ≡ 2 * 2 ^ depth_in op.copied.whole.head = ap (λ k. 2 ^ k) root ∙ doubled (depth_in op.copied.whole.head) in
        let one : op.root - 1 ≡ depth_in op.copied.whole.head = omega (arith, root) in
        load_within (entry_word_at (shape_of op) (op.root - 1) (place / 2))
        (entry_near site ground here call op s.filling.new.split.is.located.shape (op.root - 1) (place / 2) (omega (arith, deep)) (subst (λ k. place / 2 < 2 ^ k) (sym one) (omega (arith, near, twice))))
    within_in (Store stage) s = stage_within stage s
    within_in GiveGuard s = subst (λ (g : Shape). IsWithin shape (want.Store (directory_guard g) 0)) (sym s.live.split.is.located.shape) (record { word = omega arith; line = λ l e. absurd (cc) })
    within_in (Ended end) s = done_within

pub asks_within : AsksWithin directory_part
asks_within site here call op before v ground s = within_in site ground here call op v op.step s.stands

-- ---- words alone are put
module _ (site : Ground) (here : Site) (call : Call) (op : DirectoryOp) (v : View) where
  -- the header of the side is a word, so it is one as that of a live segment
  live_small : op.side_head ≡ side_head op.copied.whole → op.copied.whole.site.version < 2 ^ 8 → live_head op.side_head < 2 ^ 64
  live_small is small = subst (λ h. live_head h < 2 ^ 64) (sym is) (below (side_head op.copied.whole) (omega (arith, small)))
    where
      below : (h : ℕ) → h < 2 ^ 64 → live_head h < 2 ^ 64
      below h low = omega (arith, low)

  store_small : (stage : Stage) → SuitsStore site here op call stage v → (p : ℕ × ℕ) → next_store op stage ≡ Some p → p.1 < 2 ^ 64
  store_small (Fill place value) s p e = subst (λ (q : ℕ × ℕ). q.1 < 2 ^ 64) (same_Some _ _ e) s.at.small
  store_small Filled s p e = absurd (none-some _ e)
  store_small Deepen s p e = subst (λ (q : ℕ × ℕ). q.1 < 2 ^ 64) (same_Some _ _ e) (let root = s.at.doubles.root in omega (arith, root))
  store_small Deepened s p e = absurd (none-some _ e)
  store_small GoLive s p e = subst (λ (q : ℕ × ℕ). q.1 < 2 ^ 64) (same_Some _ _ e) (live_small s.storing.heads.side (let version = s.at.new.split.is.version in omega (arith, version)))
  store_small Live s p e = absurd (none-some _ e)
  store_small (Enter index) s p e = subst (λ (q : ℕ × ℕ). q.1 < 2 ^ 64) (same_Some _ _ e) s.at.small
  store_small Entered s p e = absurd (none-some _ e)

  puts_in : (step : DirectoryStep) → SuitsStep site here op call step v → PutsWord (wanted_in op step)
  puts_in LoadHead s = load_puts (head_word (shape_of op) op.copied.whole.segment)
  puts_in LoadSideHead s = load_puts (head_word (shape_of op) op.copied.side)
  puts_in TakeGuard s = record {
    stores = λ k y e. absurd (cc);
    exchanges = λ k a b e. (let same : op.copied.whole.site.caller ≡ b = (let z : want.Exchange (directory_guard (shape_of op)) 0 op.copied.whole.site.caller ≡ want.Exchange k a b = e in cc) in subst (λ z. z < 2 ^ 64) same s.keeps.is.caller);
  }
  puts_in AskPower s = record { stores = λ k y e. absurd (cc); exchanges = λ k a b e. absurd (cc) }
  puts_in LoadRoot s = load_puts root_word
  puts_in (LoadEntry place) s = load_puts (entry_word_at (shape_of op) (op.root - 1) (place / 2))
  puts_in (Store stage) s = by_wanted op.rounds (next_store op stage) PutsWord done_puts (λ p e. store_puts p.0 p.1 (store_small stage s p e)) (λ line has. flush_puts line) fence_puts
  puts_in GiveGuard s = store_puts (directory_guard (shape_of op)) 0 (omega arith)
  puts_in (Ended end) s = done_puts

  -- ---- nothing is planned
  stage_plans : (stage : Stage) → SuitsStage site here op call stage v → v.planned ≡ []
  stage_plans (Fill place value) s = s.filling.new.split.planned
  stage_plans Filled s = s.new.split.planned
  stage_plans Deepen s = s.new.split.planned
  stage_plans Deepened s = s.new.split.planned
  stage_plans GoLive s = s.new.split.planned
  stage_plans Live s = s.split.planned
  stage_plans (Enter index) s = s.entering.live.split.planned
  stage_plans Entered s = s.live.split.planned

  no_plan : (step : DirectoryStep) → SuitsStep site here op call step v → v.planned ≡ []
  no_plan LoadHead s = s.quiet.planned
  no_plan LoadSideHead s = s.keeps.quiet.planned
  no_plan TakeGuard s = s.keeps.quiet.planned
  no_plan AskPower s = s.keeps.quiet.planned
  no_plan LoadRoot s = s.new.split.planned
  no_plan (LoadEntry place) s = s.filling.new.split.planned
  no_plan (Store stage) s = stage_plans stage s.at
  no_plan GiveGuard s = s.live.split.planned
  no_plan (Ended Published) s = s.quiet.planned
  no_plan (Ended Off) s = s.keeps.quiet.planned

pub puts_words : PutsWords directory_part
puts_words site here call op before v s = puts_in site here call op v op.step s.stands

pub plans_its_call : PlansItsCall directory_part
plans_its_call site here call op before v planned s has = absurd (subst (λ (l : List Call). Has planned l) (no_plan site here call op v op.step s.stands) has)

pub ends_as_done : EndsAsDone directory_part
ends_as_done = record { stays = λ op a i made. made; done = λ op made. absurd made }

-- ---- how it ends
hands_in : (op : DirectoryOp) (step : DirectoryStep) → goes_on step ≡ true → wanted_in op step ≡ want.Done
hands_in op (Ended end) e = refl
hands_in op LoadHead e = absurd (cc)
hands_in op LoadSideHead e = absurd (cc)
hands_in op TakeGuard e = absurd (cc)
hands_in op AskPower e = absurd (cc)
hands_in op LoadRoot e = absurd (cc)
hands_in op (LoadEntry place) e = absurd (cc)
hands_in op (Store stage) e = absurd (cc)
hands_in op GiveGuard e = absurd (cc)

pub hands_on_at_end : HandsOnAtEnd directory_part
hands_on_at_end op e = hands_in op op.step e

-- it never ends since a segment is stale
known_in : (site : Ground) (step : DirectoryStep) (facts : List Fact) → LeavesKnown site (outcome_at step) facts
known_in site (Ended Off) facts = tt
known_in site step facts = tt

pub knows_stale : KnowsStale directory_part
knows_stale site here call op v s = known_in site op.step v.facts

pub keeps_power : KeepsPower directory_part
keeps_power op n = never_cuts op n

pub begins_as_part : BeginsAsPart
begins_as_part site here call c v keeps = keeps

pub begins_undecided : BeginsUndecided
begins_undecided c = refl

-- what is published is handed on
published_in : (site : Ground) (here : Site) (call : Call) (op : DirectoryOp) (v : View) (step : DirectoryStep) → SuitsStep site here op call step v → goes_on step ≡ true → KeepsPublished site here call op.copied v
published_in site here call op v (Ended Published) s e = s
published_in site here call op v (Ended Off) s e = absurd (cc)
published_in site here call op v LoadHead s e = absurd (cc)
published_in site here call op v LoadSideHead s e = absurd (cc)
published_in site here call op v TakeGuard s e = absurd (cc)
published_in site here call op v AskPower s e = absurd (cc)
published_in site here call op v LoadRoot s e = absurd (cc)
published_in site here call op v (LoadEntry place) s e = absurd (cc)
published_in site here call op v (Store stage) s e = absurd (cc)
published_in site here call op v GiveGuard s e = absurd (cc)

pub hands_on_published : HandsOnPublished
hands_on_published site here call op v s e = published_in site here call op v op.step s e

-- a stage that stands wants an event: behind the last fence of a stage without a store the next one has begun
module _ (site : Ground) (here : Site) (call : Call) (op : DirectoryOp) (v : View) where
  stage_wants_more : (stage : Stage) → SuitsStore site here op call stage v → event_wanted op.rounds (next_store op stage) ≡ want.Done → ⊥
  stage_wants_more stage s done = let e = events_end op.rounds (next_store op stage) (event_none op.rounds (next_store op stage) s.storing.round.few done) in s.open_round e.0 e.1

  off_in : (step : DirectoryStep) → SuitsStep site here op call step v → wanted_in op step ≡ want.Done → goes_on step ≡ false → outcome_at step ≡ Some off
  off_in LoadHead s done other = absurd (cc)
  off_in LoadSideHead s done other = absurd (cc)
  off_in TakeGuard s done other = absurd (cc)
  off_in AskPower s done other = absurd (cc)
  off_in LoadRoot s done other = absurd (cc)
  off_in (LoadEntry place) s done other = absurd (cc)
  off_in (Store stage) s done other = absurd (stage_wants_more stage s done)
  off_in GiveGuard s done other = absurd (cc)
  off_in (Ended Published) s done other = absurd (cc)
  off_in (Ended Off) s done other = refl

pub ends_off : EndsOff
ends_off site here call op v s done other = off_in site here call op v op.step s done other

-- ---- what the rest of the split goes on from
module _ (site : Ground) (ground : IsGround site) (here : Site) (call : Call) (c : Copied) (v : View) (k : KeepsPublished site here call c v) where
  head_as_kept : copied_words c (header_word site.shape c.whole.segment) ≡ split_head c.whole
  head_as_kept = head_kept site ground here call c k.is k.whole k.copy

  pub split_kept : KeepsSplit site here call c.whole v
  split_kept = record {
    is = k.is;
    whole = k.whole;
    areas = k.areas;
    locks = k.locks;
    head = split_head c.whole;
    header = subst (λ x. KnowsWord v (header_word site.shape c.whole.segment) x) head_as_kept k.head.header;
    is_head = split_header site ground here call c k.is k.whole;
    link = (copied_words c (link_word site.shape c.whole.segment), k.head.link);
    buckets_are = λ b m near above inside. subst (λ x. KnowsWord v (bucket_at site.shape c.whole.segment b + m) x) (bucket_kept site ground here call c k.is k.whole k.copy b m near above inside)
        (k.buckets_are b m near above inside);
    known = k.known;
    lacks = k.lacks;
    deep = k.deep;
    quiet = k.quiet;
  }

pub hands_on_split : HandsOnSplit
hands_on_split site here call op v ground s e = split_kept site ground here call op.copied v (published_in site here call op v op.step s e)
