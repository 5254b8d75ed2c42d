-- What an attempt loaded is still so where nobody else steps, whatever machine asks; so nothing moves for a caller alone.
use Rattle.std.proofs.Common.{◌≡◌, ◌≢◌, ℕ, ◌+◌, ◌^◌, ◌<◌, ◌==◌, Bool, true, false, cond, List, ◌∷◌, inl, inr, ◌⊎◌, refl, sym, ◌∙◌, ap, subst, arith}
use Rattle.std.specs.Prelude.{nat_le, nat_lt, if◌then◌else◌}
use Rattle.std.proofs.lemmas.Bool.{cases_eq, ltb-true, leb-true}
use Rattle.op_core.specs.declared.want.Want.{Want}
use Rattle.op_core.specs.declared.want.Want.TheVariants as want
use Rattle.op_core.specs.declared.want.Ans.TheVariants.{Won, Lost}
use Rattle.op_core.specs.declared.why.Why.TheVariants.{Moved}
use Rattle.hash_word.specs.Hash.{index_of}
use Rattle.trace.specs.Events.{Words, with_word, after}
use Rattle.trace.specs.Events.Event.{loaded, exchanged}
use Rattle.trace.proofs.Replaced.{replaced_other}
use Rattle.image_layout.specs.Places.{Shape, IsShape, root_word, entry_at, head_at, bucket_at, words_of, buckets}
use Rattle.image_layout.specs.Volatile.{counter_word}
use Rattle.image_layout.proofs.Areas.{entry_before}
use Rattle.way.proofs.Indexes.{index_below}
use Rattle.sound_image.specs.Records.{key_hash}
use Rattle.sound_image.proofs.Hashes.{key_hash-fits}
use Rattle.map_model.specs.declared.call.Call.{Call}
use Rattle.map_model.specs.Map.{key_of}
use Rattle.world.specs.Views.{Has}
use Rattle.world.specs.Wants.{answer_to, word_of, words_after}
use Rattle.world.proofs.moving.Known.{possible_now}
use Rattle.part.specs.Doings.{Doings, with_event_of, IsStill, NothingIsStill, OwnEventsKeepStill}
use Rattle.part.specs.Outcomes.{again}
use Rattle.part.specs.Part.{Part}
use Rattle.part.specs.Causes.{EndsByCause, AloneNeverMoved, NeedsBucket, IsOnWay, IsLockThere, IsWatched, AloneNothingMoves}
use Rattle.part.proofs.Leading.{alone_nothing_leads_away}

pub nothing_still : NothingIsStill
nothing_still shape words word value has off = absurd has

-- ---- an event of its own
module _ (shape : Shape) (words : Words) (did : Doings) (c : ℕ) (still : IsStill shape words did) where
  -- a word is changed, and told so
  changes : (i x word value : ℕ) → (words word ≡ value) ⊎ Has word did.changed → (with_word words i x word ≡ value) ⊎ Has word (i ∷ did.changed)
  changes i x word value was = elim (cases_eq word i) [
    | inl same ↦ inr (inl same)
    | inr other ↦ elim was [ inl is ↦ inl (replaced_other words i x word other ∙ is) | inr has ↦ inr (inr has) ]
  ]

  tried : (b : Bool) (i a x word value : ℕ) → Has (word, value) (with_event_of (want.Exchange i a x) (cond b Won (Lost (words i))) did).loads → word ≢ counter_word shape
      → (after (cond b (exchanged c i x) (loaded c i)) words word ≡ value) ⊎ Has word (with_event_of (want.Exchange i a x) (cond b Won (Lost (words i))) did).changed
  tried true i a x word value has off = changes i x word value (still word value has off)
  tried false i a x word value has off = still word value has off

  by_want : (w : Want) → IsStill shape (words_after shape w c words) (with_event_of w (answer_to w (words (word_of shape w))) did)
  by_want (want.Load i) word value has off = elim has [
    | inl new ↦ inl (let word_is = ap (λ p. p.0) new in let value_is = ap (λ p. p.1) new in ap words word_is ∙ sym value_is)
    | inr old ↦ still word value old off
  ]
  by_want (want.Store i x) word value has off = changes i x word value (still word value has off)
  by_want (want.Exchange i a x) word value has off = tried (words i == a) i a x word value has off
  by_want (want.Flush l) word value has off = still word value has off
  by_want want.Fence word value has off = still word value has off
  by_want want.Draw word value has off = elim (still word value has off) [ inl is ↦ inl (replaced_other words (counter_word shape) _ word off ∙ is) | inr own ↦ inr own ]
  by_want want.Power word value has off = still word value has off
  by_want want.Done word value has off = still word value has off

pub own_events_keep_still : OwnEventsKeepStill
own_events_keep_still shape words did w c still = by_want shape words did c still w

-- ---- words that are watched lie in the image, and are no counter
pub bucket_near : (shape : Shape) (hash : ℕ) (loads : List (ℕ × ℕ)) (segment : ℕ) (call : Call) (bucket : ℕ) → NeedsBucket shape hash loads segment call bucket → bucket < buckets
bucket_near shape hash loads segment call bucket (inl home) = subst (λ n. n < buckets) (sym home) (omega arith)
bucket_near shape hash loads segment call bucket (inr (inl probing)) = subst (λ n. n < buckets) (sym probing) (omega arith)
bucket_near shape hash loads segment call bucket (inr (inr (inl stash))) = let at = stash.at in let within = stash.within in omega (arith, at, within)
bucket_near shape hash loads segment call bucket (inr (inr (inr (insert, inl (next, full))))) = subst (λ n. n < buckets) (sym next) (omega arith)
bucket_near shape hash loads segment call bucket (inr (inr (inr (insert, inr (previous, none))))) = subst (λ n. n < buckets) (sym previous) (omega arith)

module _ (shape : Shape) (is : IsShape shape) (hash : ℕ) (fits : hash < 2 ^ 64) where
  first_within : root_word < words_of shape
  first_within = let some = is.some in omega (arith, some)

  entry_by : (root : ℕ) (b : Bool) → nat_le root shape.depth ≡ b → (if b then entry_at root (index_of root hash) else root_word) < words_of shape
  entry_by root true low =
      let most = is.depth in
      let within = leb-true root shape.depth low in
      let index = index_below root hash (omega (arith, within, most)) fits in
      let before = entry_before shape root (index_of root hash) within index in
      omega (arith, before)
  entry_by root false low = first_within

  head_by : (segment : ℕ) (b : Bool) → nat_lt segment shape.segments ≡ b → (if b then head_at shape segment + 1 else root_word) < words_of shape
  head_by segment true low = let under = ltb-true segment shape.segments low in omega (arith, under)
  head_by segment false low = first_within

  lock_by : (segment bucket : ℕ) → bucket < buckets → (b : Bool) → nat_lt segment shape.segments ≡ b → (if b then bucket_at shape segment bucket else root_word) < words_of shape
  lock_by segment bucket close true low = let under = ltb-true segment shape.segments low in omega (arith, under, close)
  lock_by segment bucket close false low = first_within

module _ (shape : Shape) (is : IsShape shape) (hash : ℕ) (fits : hash < 2 ^ 64) (loads : List (ℕ × ℕ)) (call : Call) where
  on_way : (word : ℕ) → IsOnWay shape hash loads word → word < words_of shape
  on_way word (inl root) = subst (λ n. n < words_of shape) (sym root) (first_within shape is hash fits)
  on_way word (inr (inl p)) = subst (λ n. n < words_of shape) (sym p.2) (entry_by shape is hash fits p.0 _ refl)
  on_way word (inr (inr p)) = subst (λ n. n < words_of shape) (sym p.2) (head_by shape is hash fits p.0 _ refl)

  lock_there : (word : ℕ) → IsLockThere shape hash loads call word → word < words_of shape
  lock_there word p = subst (λ n. n < words_of shape) (sym p.4) (lock_by shape is hash fits p.0 p.2 (bucket_near shape hash loads p.0 call p.2 p.3) _ refl)

  watched_within : (word before after : ℕ) → IsWatched shape hash loads call word before after → word < words_of shape
  watched_within word before after (inl way) = on_way word way
  watched_within word before after (inr lock) = lock_there word lock.0

pub alone_nothing_moves : AloneNothingMoves
alone_nothing_moves shape words did call word before after is small still m =
    let fits = key_hash-fits shape (key_of call) small in
    elim (still word before m.loaded (let low = watched_within shape is (key_hash shape (key_of call)) fits did.loads call word before after m.watched in λ same. omega (arith, low, same))) [
      | inl same ↦ m.differ (sym same ∙ m.newest)
      | inr own ↦ m.by_others own
    ]

-- ---- a part whose caller is alone
pub never_moved : {M : Type 0} (p : Part M) → EndsByCause p → AloneNeverMoved p
never_moved p causes site here call words views j op before v did h at s asks small r unsplit key still none word was is some =
    let cause = (causes.steps site here call words views j op before v did h at s asks small r).caused (again (Moved word was is)) none some in
    elim cause.1 [
      | inl moved ↦ alone_nothing_moves site.shape words did call word was is h.site_is.shape key still moved
      | inr away ↦ alone_nothing_leads_away site here.version words did call word was is h.site_is (h.structure.sound words (possible_now site words views h)) unsplit key still away
    ]
