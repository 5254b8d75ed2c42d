-- What it asks for and puts, what it plans and replies, and how it ends.
use Rattle.std.proofs.Common.{◌≡◌, ◌≢◌, ℕ, ◌+◌, ◌*◌, ◌^◌, ◌<◌, ◌≤◌, inl, inr, true, false, cond, None, Some, List, [], refl, sym, ap, ◌∙◌, subst, arith}
use Rattle.std.proofs.lemmas.Bool.{cases_lt, lt-ltb, le-ltb}
use Rattle.std.proofs.lemmas.Option.{none-some, same_Some}
use Rattle.op_core.specs.declared.want.Want.TheVariants as want
use Rattle.image_layout.specs.Places.{Shape, root_word, first_segment, words_of, segment_words}
use Rattle.image_layout.specs.Volatile.{directory_guard, all_words_of}
use Rattle.frame_facts.specs.Facts.{Fact}
use Rattle.way.specs.Ways.{head_word}
use Rattle.map_model.specs.declared.call.Call.{Call}
use Rattle.world.specs.declared.site.Site.{Site}
use Rattle.world.specs.Ground.{Ground, IsGround}
use Rattle.world.specs.Views.{View}
use Rattle.world.specs.Kinds.{cuts_power}
use Rattle.world.specs.Attempts.{HoldsOnly, EntersReply}
use Rattle.world.specs.areas.Areas.{header_word}
use Rattle.world.specs.areas.Kinds.{of_segment, of_directory, StructureKind, takes, gives, reads, finds_entry, finds_begin, settles}
use Rattle.world.specs.StepKinds.{StepKind, of_call, of_structure, view_by}
use Rattle.world.specs.StepLaws.{IsPublishingStep}
use Rattle.world.proofs.holders.directing.Known.{front_far}
use Rattle.world.proofs.mild.Kept.{steps_reply_nothing}
use Rattle.part.specs.Outcomes.{reply_of}
use Rattle.part.specs.Part.{LeavesKnown}
use Rattle.part.specs.Asks.{IsWithin, PutsWord}
use Rattle.part.proofs.Asking.{store_puts, exchange_puts, flush_puts, load_puts, fence_puts, done_puts}
use Rattle.repair_op.proofs.Handing.{same_more}
use Rattle.rounds.specs.Steps.{rounds_wanted}
use Rattle.rounds.proofs.Events.{events_end}
use Rattle.rounds.proofs.Wanted.{by_wanted, event_none}
use Rattle.rounds.proofs.Silent.{IsStill, round_still, round_power}
use Rattle.repair_op.specs.Guarded.{KeepsRedirected}
use Rattle.repair_op.proofs.Words.{guard_low}
use Rattle.redirect_op.specs.declared.step.RedirectEnd.{RedirectEnd}
use Rattle.redirect_op.specs.declared.step.RedirectEnd.TheVariants as ends
use Rattle.redirect_op.specs.declared.step.RedirectStep.{RedirectStep}
use Rattle.redirect_op.specs.declared.step.RedirectStep.TheVariants.{Guard, Root, Entry, Head, Store, Settle, Fence, GiveDirectory, Give, Ended}
use Rattle.redirect_op.specs.declared.op.RedirectOp.{RedirectOp}
use Rattle.redirect_op.specs.Steps.{shape_of, slot_or_zero, store_to, wanted_in, is_redirected}
use Rattle.redirect_op.specs.Stands.{facts_of, kind_at, SuitsStep}
use Rattle.redirect_op.specs.Ends.{outcome_of, outcome_at}
use Rattle.redirect_op.proofs.Rounding.{entry_low}

-- ---- it asks for words of the image and those behind it
module _ (site : Ground) (ground : IsGround site) (here : Site) (call : Call) (op : RedirectOp) (v : View) where
  abbrev shape : Shape
  shape = site.shape

  abbrev Suited : RedirectStep → Type 0
  Suited s = SuitsStep site here call op s v

  some_words : 32 ≤ words_of shape
  some_words = by (first_segment shape) (front_far shape) shape.segments
    where
      by : (f : ℕ) → 32 ≤ f → (s : ℕ) → 32 ≤ f + segment_words * s
      by f far s = omega (arith, far)

  load_within : (i : ℕ) → i < words_of shape → IsWithin shape (want.Load i)
  load_within i low = record { word = omega (arith, low); line = λ l e. absurd (cc) }

  store_within : (i x : ℕ) → i < all_words_of shape → IsWithin shape (want.Store i x)
  store_within i x low = record { word = low; line = λ l e. absurd (cc) }

  flush_within : (line : ℕ) → 8 * line + 8 ≤ words_of shape → IsWithin shape (want.Flush line)
  flush_within line low = record { word = omega (arith, low); line = λ l e. subst (λ k. 8 * k + 8 ≤ words_of shape) (let z : want.Flush line ≡ want.Flush l = e in cc) low }

  fence_within : IsWithin shape want.Fence
  fence_within = record { word = omega arith; line = λ l e. absurd (cc) }

  done_within : IsWithin shape want.Done
  done_within = record { word = omega arith; line = λ l e. absurd (cc) }

  -- the header of a slot, or the root's word where the image has no such slot
  head_near : (s : ℕ) → shape_of op ≡ shape → head_word (shape_of op) s < words_of shape
  head_near s same = subst (λ (t : Shape). head_word t s < words_of shape) (sym same) (elim (cases_lt s shape.segments) [
    | inl low ↦ subst (λ b. cond b (header_word shape s) root_word < words_of shape) (sym (lt-ltb s shape.segments low)) (by (first_segment shape) s shape.segments low)
    | inr high ↦ subst (λ b. cond b (header_word shape s) root_word < words_of shape) (sym (le-ltb s shape.segments high)) (let some = some_words in omega (arith, some))
  ])
    where
      by : (f s n : ℕ) → s < n → f + 2144 * s + 1 < f + 2144 * n
      by f s n low = omega (arith, low)

  pub within_at : (s : RedirectStep) → Suited s → IsWithin shape (wanted_in op s)
  within_at Guard s = subst (λ (t : Shape). IsWithin shape (want.Exchange (directory_guard t) 0 op.guarded.site.caller)) (sym s.0.here_is.shape) (record { word = omega arith; line = λ l e. absurd (cc) })
  within_at Root s = load_within root_word (let some = some_words in omega (arith, some))
  within_at (Entry index) s = load_within _ (entry_low site ground here call op v index s)
  within_at (Head index slot) s = load_within _ (head_near slot s.0.below.rooted.guarding.here_is.shape)
  within_at (Store index) s = by_wanted op.rounds (Some (store_to op index)) (IsWithin shape) done_within
      (λ p e. store_within p.0 p.1 (subst (λ (q : ℕ × ℕ). q.0 < all_words_of shape) (same_Some _ _ e) (let low = entry_low site ground here call op v index s.0 in omega (arith, low))))
      (λ line has. flush_within line (s.0.in_rounds.lines line has))
      fence_within
  within_at Settle s = by_wanted op.rounds None (IsWithin shape) done_within (λ p e. absurd (none-some _ e)) (λ line has. flush_within line (s.in_rounds.lines line has)) fence_within
  within_at Fence s = fence_within
  within_at GiveDirectory s = subst (λ (t : Shape). IsWithin shape (want.Store (directory_guard t) 0)) (sym s.guarding.here_is.shape) (record { word = omega arith; line = λ l e. absurd (cc) })
  within_at (Give end) s = store_within _ 0 (guard_low site op.guarded s.0.shape)
  within_at (Ended end) s = done_within

-- ---- words alone are put
module _ (site : Ground) (here : Site) (call : Call) (op : RedirectOp) (v : View) where
  abbrev Stood : RedirectStep → Type 0
  Stood s = SuitsStep site here call op s v

  pub puts_at : (s : RedirectStep) → Stood s → PutsWord (wanted_in op s)
  puts_at Guard s = exchange_puts _ op.guarded.site.caller s.0.here_is.caller
  puts_at Root s = load_puts root_word
  puts_at (Entry index) s = load_puts _
  puts_at (Head index slot) s = load_puts _
  puts_at (Store index) s = by_wanted op.rounds (Some (store_to op index)) PutsWord done_puts
      (λ p e. store_puts p.0 p.1 (subst (λ (q : ℕ × ℕ). q.1 < 2 ^ 64) (same_Some _ _ e) (subst (λ x. x < 2 ^ 64) (sym (ap slot_or_zero s.0.below.rooted.guarding.side_is)) s.0.below.rooted.guarding.small)))
      (λ line has. flush_puts line) fence_puts
  puts_at Settle s = by_wanted op.rounds None PutsWord done_puts (λ p e. absurd (none-some _ e)) (λ line has. flush_puts line) fence_puts
  puts_at Fence s = fence_puts
  puts_at GiveDirectory s = store_puts _ 0 (omega arith)
  puts_at (Give end) s = store_puts _ 0 (omega arith)
  puts_at (Ended end) s = done_puts

  -- ---- nothing is planned, and nothing held at the end but what is handed on
  end_plan : (end : RedirectEnd) → Stood (Ended end) → v.planned ≡ []
  end_plan (ends.Again why) s = s.planned
  end_plan ends.Guarded s = s.guarded.quiet.planned

  pub no_plan : (s : RedirectStep) → Stood s → v.planned ≡ []
  no_plan Guard s = s.0.quiet.planned
  no_plan Root s = s.0.holds.planned
  no_plan (Entry index) s = s.below.rooted.guarding.holds.planned
  no_plan (Head index slot) s = s.0.below.rooted.guarding.holds.planned
  no_plan (Store index) s = s.0.below.rooted.guarding.holds.planned
  no_plan Settle s = s.below.rooted.guarding.holds.planned
  no_plan Fence s = s.0.rooted.guarding.holds.planned
  no_plan GiveDirectory s = s.guarding.holds.planned
  no_plan (Give end) s = s.2.quiet.planned
  no_plan (Ended end) s = end_plan end s

  end_held : (end : RedirectEnd) → Stood (Ended end) → v.held ≡ []
  end_held (ends.Again why) s = s.held
  end_held ends.Guarded s = s.guarded.no_locks

  pub none_held : (s : RedirectStep) → Stood s → v.held ≡ []
  none_held Guard s = s.0.no_locks
  none_held Root s = s.0.holds.no_locks
  none_held (Entry index) s = s.below.rooted.guarding.holds.no_locks
  none_held (Head index slot) s = s.0.below.rooted.guarding.holds.no_locks
  none_held (Store index) s = s.0.below.rooted.guarding.holds.no_locks
  none_held Settle s = s.below.rooted.guarding.holds.no_locks
  none_held Fence s = s.0.rooted.guarding.holds.no_locks
  none_held GiveDirectory s = s.guarding.holds.no_locks
  none_held (Give end) s = s.2.no_locks
  none_held (Ended end) s = end_held end s

  -- a step that stands wants an event, until it has ended
  pub ended_at : (s : RedirectStep) → Stood s → wanted_in op s ≡ want.Done → (end : RedirectEnd) × (s ≡ Ended end)
  ended_at Guard s done = absurd (let no : want.Exchange (directory_guard (shape_of op)) 0 op.guarded.site.caller ≡ want.Done = done in cc)
  ended_at Root s done = absurd (let no : want.Load root_word ≡ want.Done = done in cc)
  ended_at (Entry index) s done = absurd (cc)
  ended_at (Head index slot) s done = absurd (cc)
  ended_at (Store index) s done = absurd (some_next (event_none op.rounds (Some (store_to op index)) s.0.in_rounds.round.few done))
    where
      some_next : rounds_wanted op.rounds (Some (store_to op index)) ≡ None → ⊥
      some_next none = none-some _ (sym (events_end op.rounds (Some (store_to op index)) none).1)
  ended_at Settle s done = absurd (s.open_round (event_none op.rounds None s.in_rounds.round.few done))
  ended_at Fence s done = absurd (let no : want.Fence ≡ want.Done = done in cc)
  ended_at GiveDirectory s done = absurd (let no : want.Store (directory_guard (shape_of op)) 0 ≡ want.Done = done in cc)
  ended_at (Give end) s done = absurd (cc)
  ended_at (Ended end) s done = (end, refl)

  bare_end : (end : RedirectEnd) → Stood (Ended end) → is_redirected (Ended end) ≡ false → HoldsOnly [] v
  bare_end (ends.Again why) s closed = s
  bare_end ends.Guarded s closed = absurd (let no : true ≡ false = closed in cc)

  pub bare_at : (s : RedirectStep) → Stood s → wanted_in op s ≡ want.Done → is_redirected s ≡ false → HoldsOnly [] v
  bare_at s suits done closed =
      let end = ended_at s suits done in
      bare_end end.0 (subst (λ (t : RedirectStep). Stood t) end.1 suits) (sym (ap is_redirected end.1) ∙ closed)

  -- WHERE IT HANDS ON no entry leads past the side
  redirected_end : (end : RedirectEnd) → Stood (Ended end) → is_redirected (Ended end) ≡ true → KeepsRedirected site here call op.guarded v
  redirected_end (ends.Again why) s hands = absurd (let no : false ≡ true = hands in cc)
  redirected_end ends.Guarded s hands = s

  pub redirected_at : (s : RedirectStep) → Stood s → is_redirected s ≡ true → KeepsRedirected site here call op.guarded v
  redirected_at (Ended end) s hands = redirected_end end s hands
  redirected_at s suits hands = absurd (let no : false ≡ true = hands in cc)

-- ---- it finds no segment stale, and wants nothing more where it hands on
relies_end : (site : Ground) (end : RedirectEnd) (facts : List Fact) → LeavesKnown site (outcome_of end) facts
relies_end site (ends.Again why) facts = tt
relies_end site ends.Guarded facts = tt

pub relies_at : (site : Ground) (s : RedirectStep) (facts : List Fact) → LeavesKnown site (outcome_at s) facts
relies_at site (Give end) facts = relies_end site end facts
relies_at site (Ended end) facts = relies_end site end facts
relies_at site s facts = tt

pub hands_at : (op : RedirectOp) (s : RedirectStep) → is_redirected s ≡ true → wanted_in op s ≡ want.Done
hands_at op (Ended end) hands = refl
hands_at op s hands = absurd (let no : false ≡ true = hands in cc)

-- ---- replies: it has none, and enters none
none_told : (end : RedirectEnd) → reply_of (outcome_of end) ≡ None
none_told (ends.Again why) = refl
none_told ends.Guarded = refl

none_replied : (s : RedirectStep) → reply_of (outcome_at s) ≡ None
none_replied (Give end) = none_told end
none_replied (Ended end) = none_told end
none_replied s = refl

module _ (site : Ground) (op : RedirectOp) (n : ℕ) (v : View) where
  abbrev Still : StepKind → Type 0
  Still kind = IsStill site.shape n v kind

  structure_still : (kind : StructureKind) → (IsPublishingStep (of_structure kind) → ⊥) → Still (of_structure kind)
  structure_still kind none = record { own = steps_reply_nothing.own site kind (λ i. n) v; seen = steps_reply_nothing.seen site kind (λ i. n) v; none = none }

  still_at : (s : RedirectStep) → Still (kind_at op s)
  still_at Guard = structure_still (takes of_directory op.guarded.site.caller) (λ p. p)
  still_at Root = structure_still (reads root_word) (λ p. p)
  still_at (Entry index) = structure_still (finds_entry op.root index) (λ p. p)
  still_at (Head index slot) = structure_still (finds_begin slot) (λ p. p)
  still_at (Store index) = round_still site.shape n v [] (rounds_wanted op.rounds (Some (store_to op index)))
  still_at Settle = round_still site.shape n v (facts_of op.guarded) (rounds_wanted op.rounds None)
  still_at Fence = structure_still (settles (facts_of op.guarded)) (λ p. p)
  still_at GiveDirectory = structure_still (gives of_directory) (λ p. p)
  still_at (Give end) = structure_still (gives (of_segment op.guarded.segment)) (λ p. p)
  still_at (Ended end) = record { own = refl; seen = refl; none = λ p. p }

  pub makes_none : (s : RedirectStep) → IsPublishingStep (kind_at op s) → ⊥
  makes_none s p = (still_at s).none p

  pub enters_at : (call : Call) (before : View) (s t : RedirectStep) → EntersReply call (reply_of (outcome_at s)) before v → EntersReply call (reply_of (outcome_at t)) before (view_by site.shape (kind_at op s) n v)
  enters_at call before s t enters =
      let u : View = view_by site.shape (kind_at op s) n v in
      let same = still_at s in
      subst (λ o. EntersReply call o before u) (sym (none_replied t))
      (same_more call before v None u (subst (λ o. EntersReply call o before v) (none_replied s) enters) same.own same.seen)

-- ---- the power stays on
no_cut : (kind : StructureKind) → of_structure kind ≢ of_call cuts_power
no_cut kind e = cc

pub power_at : (op : RedirectOp) (s : RedirectStep) → kind_at op s ≢ of_call cuts_power
power_at op Guard = no_cut (takes of_directory op.guarded.site.caller)
power_at op Root = no_cut (reads root_word)
power_at op (Entry index) = no_cut (finds_entry op.root index)
power_at op (Head index slot) = no_cut (finds_begin slot)
power_at op (Store index) = round_power [] (rounds_wanted op.rounds (Some (store_to op index)))
power_at op Settle = round_power (facts_of op.guarded) (rounds_wanted op.rounds None)
power_at op Fence = no_cut (settles (facts_of op.guarded))
power_at op GiveDirectory = no_cut (gives of_directory)
power_at op (Give end) = no_cut (gives (of_segment op.guarded.segment))
power_at op (Ended end) = λ e. absurd (cc)
