-- A get is a part of a call.
use Rattle.std.proofs.Common.{◌≡◌, ◌≢◌, ℕ, ◌+◌, ◌%◌, ◌<◌, ◌≤◌, inl, Bool, true, false, List, [], ◌∷◌, ◌++◌, Option, None, refl, sym, ◌∙◌, ap, subst, arith}
use Rattle.std.specs.Prelude.{nat_le, nat_lt, if◌then◌else◌}
use Rattle.op_core.specs.declared.want.Want.TheVariants as want
use Rattle.op_core.specs.declared.want.Ans.{Ans}
use Rattle.op_core.specs.declared.want.Ans.TheVariants.{Value}
use Rattle.op_core.specs.Answers.{IsAnswer, IsReading}
use Rattle.trace.specs.Events.{Words}
use Rattle.hash_word.specs.Hash.{index_of}
use Rattle.image_layout.specs.Places.{IsShape, root_word}
use Rattle.image_layout.specs.Volatile.{counter_word, all_words_of}
use Rattle.way.specs.Ways.{entry_word, head_word}
use Rattle.map_model.specs.declared.call.Call.{Call}
use Rattle.map_model.specs.declared.call.Call.TheVariants.{Get}
use Rattle.map_model.specs.declared.entry.Reply.{Reply}
use Rattle.map_model.specs.declared.entry.Reply.TheVariants as reply
use Rattle.map_model.specs.Map.{is_done}
use Rattle.world.specs.declared.site.Site.{Site}
use Rattle.world.specs.Ground.{Ground}
use Rattle.world.specs.Views.{View, Has, At}
use Rattle.world.specs.Wants.{word_of}
use Rattle.world.specs.Kinds.{Kind, peeks, asks_power, meets_root, meets_entry, meets_head, looks, glances_word, places, validates, cuts_power, wanted as wanted_by, next_entry, view_after}
use Rattle.world.specs.Invariant.{Holds}
use Rattle.world.specs.Pairs.{IsPublishingKind}
use Rattle.world.specs.Attempts.{HoldsOnly, HasNoMore, HasOneMore, EntersReply}
use Rattle.world.specs.StepKinds.{of_call}
use Rattle.world.proofs.stepping.Answers.{load_asked, load_value, load_answer}
use Rattle.world.proofs.calls.deeds.Calls.{calls_leave, calls_may}
use Rattle.part.specs.Outcomes.{reply_of}
use Rattle.part.specs.Part.{Suits, StepsWell, LeavesKnown, IsPart}
use Rattle.phase.specs.declared.walk.Walk.TheVariants as walk
use Rattle.phase.specs.declared.back.Back.TheVariants as back
use Rattle.read_op.specs.declared.step.ReadEnd.TheVariants as ends
use Rattle.read_op.specs.declared.step.ReadStep.{ReadStep}
use Rattle.read_op.specs.declared.step.ReadStep.TheVariants.{Way, Look, Fill, Count, Check, Relook, Ended}
use Rattle.read_op.specs.declared.step.Task.{Task}
use Rattle.read_op.specs.declared.op.ReadOp.{ReadOp}
use Rattle.read_op.specs.Steps.{wanted, wanted_in, taken, lock_of}
use Rattle.read_op.specs.Budget.{most_events, left, Falls, AsksWithin}
use Rattle.read_op.specs.Fits.{leads, kind_in, kind_of, suits_in, EntersAnswer, OwesTheSame, WantsByKind, MayStep, KeepsSuits}
use Rattle.read_op.specs.Causes.{ReadsAlone}
use Rattle.read_op.specs.GetPart.{outcome_in, Stands, get_part}

-- ---- a get that wants something has not replied
open_still : (task : Task) (s : ReadStep) → wanted_in task s ≢ want.Done → outcome_in s ≡ None
open_still task (Ended end) asks = absurd (asks refl)
open_still task s asks = refl

-- ---- a segment that it found stale is known to be live
known_live : (site : Ground) (task : Task) (s : ReadStep) (v : View) → suits_in site task s v → LeavesKnown site (outcome_in s) v.facts
known_live site task (Ended (ends.Stale segment version)) v suits = suits
known_live site task (Ended end) v suits = tt
known_live site task s v suits = tt

-- ---- what it enters
module _ (key : ℕ) (call : Call) (same : call ≡ Get key) (before v w : View) (more : HasNoMore before v) where
  -- a reply more than a view with the same replies
  one_more : (r : Reply) (place : ℕ) → HasOneMore (Get key) r place v w → HasOneMore call r place before w
  one_more r place h =
      let entries : w.own ≡ before.own ++ next_entry before (Get key) r place (is_done r) ∷ [] = h.own ∙ ap (λ own. own ++ next_entry (record v { own = own }) (Get key) r place (is_done r) ∷ []) more.own in
      subst (λ c. HasOneMore c r place before w) (sym same) (record { own = entries; seen = h.seen })

  entered : (s : ReadStep) → EntersAnswer key s v w → EntersReply call (reply_of (outcome_in s)) before w
  entered (Ended (ends.Found x place)) h = one_more (reply.Found x) place h
  entered (Ended (ends.Absent place)) h = one_more reply.Absent place h
  entered s h = record { own = h.own ∙ more.own; seen = h.seen ∙ more.seen }

holds_still : (v w : View) → OwesTheSame v w → w.areas ≡ v.areas → HoldsOnly [] v → HoldsOnly [] w
holds_still v w o same h = record {
  held = o.held ∙ h.held;
  known = o.known ∙ h.known;
  dirty = o.dirty ∙ h.dirty;
  flushed = o.flushed ∙ h.flushed;
  planned = o.planned ∙ h.planned;
  moving = o.moving ∙ h.moving;
  owed = o.owed ∙ h.owed;
  areas = same ∙ h.areas;
}

-- ---- a kind that is one of two is what both are
kind_if : (P : Kind → Type 0) (b : Bool) (k : Kind) (i : ℕ) → P k → P (peeks i) → P (if b then k else peeks i)
kind_if P true k i p q = p
kind_if P false k i p q = q

-- what is said of looks alone is said of each event
module _ (P : Kind → Type 0) (peek : (i : ℕ) → P (peeks i)) (power : P asks_power) (root : P meets_root) (entry : (e i : ℕ) → P (meets_entry e i)) (head : (s version : ℕ) → P (meets_head s version))
    (look : (lock : ℕ) → P (looks lock)) (note : (lock i : ℕ) → P (glances_word lock i)) (place : (k : ℕ) (a : Option ℕ) → P (places k a)) (validate : (i : ℕ) → P (validates i)) where
  of_looks : (task : Task) (s : ReadStep) → P (kind_in task s)
  of_looks task (Way walk.Power) = power
  of_looks task (Way walk.Root) = root
  of_looks task (Way (walk.Entry e)) = kind_if P (nat_le e task.site.geometry.depth) (meets_entry e (index_of e task.hash)) root_word (entry e (index_of e task.hash)) (peek root_word)
  of_looks task (Way (walk.Head e segment)) =
      kind_if P (nat_lt segment task.site.geometry.segments) (meets_head segment task.site.version) root_word (head segment task.site.version) (peek root_word)
  of_looks task (Look s p) = look (lock_of task s p)
  of_looks task (Fill s p load) = note (lock_of task s p) (lock_of task s p + load.next % 32)
  of_looks task (Count s) = kind_if P (leads task s) (places task.key s.value) (counter_word task.site.geometry) (place task.key s.value) (peek (counter_word task.site.geometry))
  of_looks task (Check s placed back.Root) = peek root_word
  of_looks task (Check s placed back.Entry) = peek (entry_word task.site.geometry task.hash s.path.root)
  of_looks task (Check s placed back.Head) = validate (head_word task.site.geometry s.path.segment)
  of_looks task (Relook s placed p) = validate (lock_of task s p)
  of_looks task (Ended end) = peek (counter_word task.site.geometry)

-- ---- no event of it cuts the power
cuts_in : (task : Task) (s : ReadStep) → of_call (kind_in task s) ≢ of_call cuts_power
cuts_in task s = of_looks (λ k. of_call k ≢ of_call cuts_power) (λ i e. cc) (λ e. cc) (λ e. cc) (λ e i f. cc) (λ t version e. cc) (λ lock e. cc) (λ lock i e. cc) (λ k a e. cc) (λ i e. cc) task s

-- nor does any make a change
made_in : (task : Task) (s : ReadStep) → IsPublishingKind (kind_in task s) → ⊥
made_in task s = of_looks (λ k. IsPublishingKind k → ⊥) (λ i f. f) (λ f. f) (λ f. f) (λ e i f. f) (λ t version f. f) (λ lock f. f) (λ lock i f. f) (λ k a f. f) (λ i f. f) task s

module _ (reads : ReadsAlone) (wants : (site : Ground) (op : ReadOp) → WantsByKind site op) (may : (site : Ground) (op : ReadOp) (v : View) → MayStep site op v) (keeps : KeepsSuits)
    (time : Falls) (most : (op : ReadOp) → left op.step ≤ most_events) (inside : AsksWithin) where
  steps : (site : Ground) (here : Site) (call : Call) (words : Words) (views : List View) (j : ℕ) (op : ReadOp) (before v : View) → Holds site words views → At views j v
      → Suits get_part site here call op before v → wanted op ≢ want.Done → StepsWell get_part site here call words op before v
  steps site here call words views j op before v h at s asks =
      let st : Stands site here call op v = s.stands in
      let is : wanted op ≡ wanted_by site.shape (kind_of op) = wants site op st.is_in asks in
      let found : ℕ = words (word_of site.shape (wanted op)) in
      let n : ℕ = words (word_of site.shape (wanted_by site.shape (kind_of op))) in
      let same : n ≡ found = ap (λ x. words (word_of site.shape x)) (sym is) in
      let well = keeps site op words views j v h at st.nothing.areas st.is_in st.suits asks in
      let more : HasNoMore before v = subst (λ o. EntersReply call (reply_of o) before v) (open_still op.task op.step asks) s.enters in
      let Goal : ReadOp → ℕ → Type 0 = λ o m. Stands site here call o (view_after site.shape (kind_of op) m v) × EntersReply call (reply_of (outcome_in o.step)) before (view_after site.shape (kind_of op) m v) in
      let one : Goal (taken op (Value n)) n = (
        record { same = st.same; at = st.at; is_in = well.is_in; suits = well.suits; nothing = holds_still v _ well.owes (calls_leave site.shape (kind_of op) n v) st.nothing },
        entered op.task.key call st.same before v _ more (taken op (Value n)).step well.answers,
      ) in
      let two = subst (λ m. Goal (taken op (Value m)) m) same one in
      let three = subst (λ a. Goal (taken op a) found) (sym (load_value (wanted op) found (load_asked (wanted op) (reads op) asks))) two in
      record { wants = is; may = calls_may site (kind_of op) v st.nothing.areas (may site op v h.site_is st.is_in st.suits); stands = λ small. three.0; enters = λ small. three.1; makes = λ change. absurd (made_in op.task op.step change) }

  falls : (op : ReadOp) (a : Ans) → IsAnswer (wanted op) a → left (taken op a).step < left op.step
  falls op a i =
      let asks : wanted op ≢ want.Done = λ e. absurd (subst (λ u. IsAnswer u a) e i) in
      let is = load_answer (wanted op) a (load_asked (wanted op) (reads op) asks) i in
      subst (λ b. left (taken op b).step < left op.step) (sym is.1) (time op is.0 asks)

  -- it asks for words of the image, and puts none there
  no_flush : (op : ReadOp) (l : ℕ) → wanted op ≢ want.Flush l
  no_flush op l e = absurd (subst (λ w. IsReading w) e (reads op))

  no_store : (op : ReadOp) (i x : ℕ) → wanted op ≢ want.Store i x
  no_store op i x e = absurd (subst (λ w. IsReading w) e (reads op))

  no_exchange : (op : ReadOp) (i x y : ℕ) → wanted op ≢ want.Exchange i x y
  no_exchange op i x y e = absurd (subst (λ w. IsReading w) e (reads op))

  pub get_is_part : IsPart get_part
  get_is_part = record {
    steps = λ site here call words views j op before v h at s asks. steps site here call words views j op before v h at s asks;
    ends = λ site here call op v s done closed on. s.nothing;
    time = record { falls = λ op a i. inl (falls op a i); most = most };
    within = λ site here call op before v is s. record {
      word = subst (λ shape. word_of shape (wanted op) < all_words_of shape) s.stands.is_in.shape (inside op (subst IsShape (sym s.stands.is_in.shape) is.shape) s.stands.is_in.fits);
      line = λ l e. absurd (no_flush op l e);
    };
    words = λ site here call op before v s. record { stores = λ i x e. absurd (no_store op i x e); exchanges = λ i x y e. absurd (no_exchange op i x y e) };
    flushes = record { most = λ op. omega arith; flushes = λ op a l i e. absurd (no_flush op l e); keeps = λ op a i e. omega arith; ends = λ op e. refl };
    made = record { stays = λ op a i made. made; done = λ op made e. absurd made };
    plans = λ site here call op before v planned s has. absurd (subst (λ calls. Has planned calls) s.stands.nothing.planned has);
    relies = λ site here call op v s. known_live site op.task op.step v s.suits;
    hands = λ op h. absurd (let f : false ≡ true = h in cc);
    power = λ op n. cuts_in op.task op.step;
  }
