-- What the holder of the buckets of a key has found, by the words that it loaded.
use Rattle.std.proofs.Common.{◌≡◌, ◌⊎◌, ℕ, zero, suc, ◌+◌, ◌-◌, ◌*◌, ◌/◌, ◌^◌, ◌<◌, ◌≤◌, false, Option, None, Some, List, [], inl, inr, refl, sym, ap, ◌∙◌, subst, arith, slice_index}
use Rattle.bucket_meta.specs.Bucket.{allocated, overflow_count}
use Rattle.bucket_meta.specs.Notes.{how_often}
use Rattle.bucket_meta.specs.Search.{lowest_with}
use Rattle.bucket_meta.proofs.Found.{found_with, none_with}
use Rattle.hash_word.specs.Hash.{home_of, probing_of, finger_of}
use Rattle.trace.specs.Events.{Words, with_word}
use Rattle.image_layout.specs.Places.{Shape, bucket_at, homes, buckets}
use Rattle.sound_image.specs.Records.{key_hash, word_in, notes_of}
use Rattle.map_model.specs.declared.call.Call.{Call}
use Rattle.map_model.specs.Map.{key_of}
use Rattle.bucket_words.specs.Hits.{Hit}
use Rattle.bucket_words.specs.HomeNotes.{IsUnnoted}
use Rattle.bucket_words.specs.Owners.{owner_of}
use Rattle.bucket_words.specs.TableChanges.{IsReadyAt}
use Rattle.bucket_words.proofs.segments.Noted.{notes_kept, count_kept}
use Rattle.bucket_words.proofs.segments.Places.{other_word, this_word}
use Rattle.world.specs.declared.site.Site.{Site}
use Rattle.world.specs.Ground.{Ground, IsUnder}
use Rattle.world.specs.Views.{Owed, View, Has, HasLock}
use Rattle.world.specs.Conditions.{IsLed, IsKept, IsUnplanned, HasNoted}
use Rattle.world.specs.Holders.{KnowsBucket, FoundNone, FoundAt, DrawsWell, OwesAsKnown}
use Rattle.world.proofs.basics.Grounds.{one_lock}
use Rattle.phase.specs.declared.role.Role.{Role}
use Rattle.phase.specs.declared.role.Role.TheVariants.{Home, Probing, First, Second, Next, Previous}
use Rattle.phase.specs.declared.held.Held.{Held}
use Rattle.phase.specs.declared.kept.Buckets.{Buckets}
use Rattle.phase.specs.Places.{bucket_of_role, lock_word}
use Rattle.phase.specs.Helds.{free_of}
use Rattle.phase.specs.Buckets.{words_in}
use Rattle.phase.specs.Giving.{IsLocated, IsHeld, IsQuiet, IsOfHeld}
use Rattle.phase.specs.Knows.{Knows, HasNoneLoose, with_loaded}
use Rattle.phase.specs.Finding.{words_of, HasLoadedHeld, HoldsBuckets, SparesStash, StandsNowhere, IsLeft, WordsStand, LoadsAreKnown, KnownWasLoaded, SearchTells, HoldersFind, PreparedStandsNowhere, PublishTells}
use Rattle.phase.proofs.Leading.{pinned_lead}
use Rattle.phase.proofs.locks.Giving.{nothing_left, bucket_near, lock_at, is_lock, locks_apart, held_has, has_not}
use Rattle.phase.proofs.locks.Knowing.{loaded_there, loaded_at, under_at, known_bucket}
use Rattle.phase.proofs.locks.Storing.{hits_back, unnoted_made}

-- ---- the words of the buckets
module _ (site : Ground) (here : Site) (hash segment : ℕ) (bs : Buckets) (l : IsLocated site here segment) where
  abbrev lock : Role → ℕ
  lock place = lock_word here hash segment place

  abbrev word : Words
  word = words_of here hash segment bs

  -- those of the last buckets, one after another
  abbrev one : Words
  one = with_loaded (lock Previous) bs.previous (λ i. 0)

  abbrev two : Words
  two = with_loaded (lock Next) bs.next one

  abbrev three : Words
  three = with_loaded (lock Second) bs.second two

  abbrev four : Words
  four = with_loaded (lock First) bs.first three

  abbrev five : Words
  five = with_loaded (lock Probing) bs.probing four

  -- a word of one bucket is none of another
  away : (place other : Role) → (other ≡ place → ⊥) → (ws : List ℕ) (w : Words) (j : ℕ) → 1 ≤ j → j < 32 → with_loaded (lock other) ws w (lock place + j) ≡ w (lock place + j)
  away place other apart ws w j from low = loaded_there (lock other) ws w (lock place + j) (λ under.
      locks_apart site here hash segment l other place apart
      (one_lock site.shape (lock other) (lock place) (lock place + j) (is_lock site here hash segment l other) (is_lock site here hash segment l place) under (omega (arith, from), omega (arith, low))))

  pub words_stand_at : (place : Role) (j : ℕ) → 1 ≤ j → j < 32 → word (lock place + j) ≡ slice_index (words_in bs place) j
  words_stand_at Home j from low = loaded_at (lock Home) bs.home five j from low
  words_stand_at Probing j from low = away Probing Home (λ e. cc) bs.home five j from low ∙ loaded_at (lock Probing) bs.probing four j from low
  words_stand_at First j from low = away First Home (λ e. cc) bs.home five j from low ∙ away First Probing (λ e. cc) bs.probing four j from low ∙ loaded_at (lock First) bs.first three j from low
  words_stand_at Second j from low =
      away Second Home (λ e. cc) bs.home five j from low
      ∙ away Second Probing (λ e. cc) bs.probing four j from low
      ∙ away Second First (λ e. cc) bs.first three j from low
      ∙ loaded_at (lock Second) bs.second two j from low
  words_stand_at Next j from low =
      away Next Home (λ e. cc) bs.home five j from low
      ∙ away Next Probing (λ e. cc) bs.probing four j from low
      ∙ away Next First (λ e. cc) bs.first three j from low
      ∙ away Next Second (λ e. cc) bs.second two j from low
      ∙ loaded_at (lock Next) bs.next one j from low
  words_stand_at Previous j from low =
      away Previous Home (λ e. cc) bs.home five j from low
      ∙ away Previous Probing (λ e. cc) bs.probing four j from low
      ∙ away Previous First (λ e. cc) bs.first three j from low
      ∙ away Previous Second (λ e. cc) bs.second two j from low
      ∙ away Previous Next (λ e. cc) bs.next one j from low
      ∙ loaded_at (lock Previous) bs.previous (λ i. 0) j from low

  pub loads_known : (held : Held) (v : View) → HasLoadedHeld here hash segment held bs v → Knows (IsOfHeld here hash segment held) word v
  loads_known held v loaded i (place, is, under) =
      let at = under_at (lock place) i under in
      subst (λ (z : ℕ). Has (z, word z) v.known) at.0
      (subst (λ x. Has (lock place + (i - lock place), x) v.known) (sym (words_stand_at place (i - lock place) at.1 at.2)) (loaded place is (i - lock place) at.1 at.2))

  -- and what is known was loaded so
  pub known_loaded : (held : Held) (v : View) → Knows (IsOfHeld here hash segment held) word v → HasLoadedHeld here hash segment held bs v
  known_loaded held v knows place is j from low =
      subst (λ x. Has (lock place + j, x) v.known) (words_stand_at place j from low) (knows (lock place + j) (place, is, (omega (arith, from), omega (arith, low))))

  -- a bucket's words by its number in the segment
  in_bucket : (place : Role) (j : ℕ) → 1 ≤ j → j < 32 → word (bucket_at site.shape segment (bucket_of_role hash place) + j) ≡ slice_index (words_in bs place) j
  in_bucket place j from low = subst (λ (z : ℕ). word (z + j) ≡ slice_index (words_in bs place) j) (lock_at site here hash segment l place) (words_stand_at place j from low)

  key_place : (a t : ℕ) → a + 4 + 2 * t ≡ a + (4 + 2 * t)
  key_place a t = omega arith

  found_hit : (place : Role) (k r : ℕ) → lowest_with (words_in bs place) k ≡ Some r → Hit site.shape word segment (bucket_of_role hash place) r k
  found_hit place k r is =
      let there = found_with (words_in bs place) k r is in
      let low = there.1 in
      record {
        segment = l.within;
        bucket = bucket_near hash place;
        slot = low;
        taken = ap (allocated r) (in_bucket place 1 (omega arith) (omega arith)) ∙ there.0.taken;
        key = ap word (key_place (bucket_at site.shape segment (bucket_of_role hash place)) r) ∙ in_bucket place (4 + 2 * r) (omega arith) (omega (arith, low)) ∙ there.0.has_key;
      }

  none_hit : (place : Role) (k : ℕ) → lowest_with (words_in bs place) k ≡ None → (t : ℕ) → Hit site.shape word segment (bucket_of_role hash place) t k → ⊥
  none_hit place k is t h =
      let low = h.slot in
      none_with (words_in bs place) k is t low (record {
        taken = ap (allocated t) (sym (in_bucket place 1 (omega arith) (omega arith))) ∙ h.taken;
        has_key = sym (in_bucket place (4 + 2 * t) (omega arith) (omega (arith, low))) ∙ sym (ap word (key_place (bucket_at site.shape segment (bucket_of_role hash place)) t)) ∙ h.key;
      })

pub words_stand : WordsStand
words_stand site here hash segment bs place l j from low = words_stand_at site here hash segment bs l place j from low

pub loads_are_known : LoadsAreKnown
loads_are_known site here hash segment held bs v l loaded = loads_known site here hash segment bs l held v loaded

pub known_was_loaded : KnownWasLoaded
known_was_loaded site here hash segment held bs v l knows = known_loaded site here hash segment bs l held v knows

pub search_tells : SearchTells
search_tells = record {
  found = λ site here hash segment bs place k r l is. found_hit site here hash segment bs l place k r is;
  none = λ site here hash segment bs place k l is. none_hit site here hash segment bs l place k is;
}

-- ---- the holder
module _ (site : Ground) (here : Site) (hash segment : ℕ) (held : Held) (word : Words) (k : ℕ) (v : View) (h : HoldsBuckets site here hash segment held word k v) where
  abbrev at : Role → ℕ
  at place = bucket_at site.shape segment (bucket_of_role hash place)

  at_is : (place : Role) → lock_word here hash segment place ≡ at place
  at_is place = lock_at site here hash segment h.located place

  has_lock : (place : Role) → IsHeld held place → HasLock v.held (at place)
  has_lock place is = subst (λ (z : ℕ). HasLock v.held z) (at_is place) (held_has here hash segment held place v h.locks is)

  left : (place : Role) → free_of held place ≡ None → HasLock v.held (at place) → ⊥
  left place none has = has_not site here hash segment held place v h.located h.locks none (subst (λ (z : ℕ). HasLock v.held z) (sym (at_is place)) has)

  led : IsLed site v segment k
  led words n = ap (owner_of site.shape words) (sym h.hashed) ∙ pinned_lead site hash segment v h.leads words n

  module _ (none : HasNoneLoose v) where
    pub bucket_known : (place : Role) → IsHeld held place → KnowsBucket site.shape v segment (bucket_of_role hash place) word
    bucket_known place is = known_bucket (IsOfHeld here hash segment held) word site.shape segment (bucket_of_role hash place) v (has_lock place is) h.knows
        (λ i u. (place, is, subst (λ (z : ℕ). IsUnder z i) (sym (at_is place)) u)) (λ p loose u. none p loose)

    kept_place : (place : Role) → IsHeld held place → IsKept site v (at place)
    kept_place place is = (has_lock place is, λ p loose u. none p loose)

    -- a stash bucket is held, or what holds of one that is not does
    stash_by : (Else : ℕ → Type 0) → (held.first ≡ None → Else 0) → (held.second ≡ None → Else 1) → (c : ℕ) → c < 2
        → IsKept site v (bucket_at site.shape segment (64 + c)) ⊎ (IsLeft site v segment c × Else c)
    stash_by Else first second zero small = by held.first refl
      where
        by : (o : Option ℕ) → held.first ≡ o → IsKept site v (bucket_at site.shape segment 64) ⊎ (IsLeft site v segment 0 × Else 0)
        by (Some free) e = inl (kept_place First (free, e))
        by None e = inr (left First e, first e)
    stash_by Else first second (suc zero) small = by held.second refl
      where
        by : (o : Option ℕ) → held.second ≡ o → IsKept site v (bucket_at site.shape segment 65) ⊎ (IsLeft site v segment 1 × Else 1)
        by (Some free) e = inl (kept_place Second (free, e))
        by None e = inr (left Second e, second e)
    stash_by Else first second (suc (suc c)) small = absurd (omega (arith, small))

    pub stash_kept : (c : ℕ) → c < 2 → IsKept site v (bucket_at site.shape segment (64 + c)) ⊎ IsLeft site v segment c
    stash_kept c small = let Any : ℕ → Type 0 = λ c. c ≡ c in elim (stash_by Any (λ e. refl) (λ e. refl) c small) [ inl is ↦ inl is | inr e ↦ inr e.0 ]

    pub stash_spared : SparesStash site.shape hash segment held word → (c : ℕ) → c < 2 → IsKept site v (bucket_at site.shape segment (64 + c))
        ⊎ (IsLeft site v segment c × IsUnnoted site.shape word segment (home_of (key_hash site.shape k)) (finger_of (key_hash site.shape k)) c)
    stash_spared spares c small = subst (λ (g : ℕ). IsKept site v (bucket_at site.shape segment (64 + c)) ⊎ (IsLeft site v segment c × IsUnnoted site.shape word segment (home_of g) (finger_of g) c)) h.hashed
        (stash_by (λ c. IsUnnoted site.shape word segment (home_of hash) (finger_of hash) c) spares.first spares.second c small)

    -- home and probing bucket, by any hash that is the key's
    record Both (g : ℕ) : Type 0 where
      pub home_lock : HasLock v.held (bucket_at site.shape segment (home_of g))
      pub home : KnowsBucket site.shape v segment (home_of g) word
      pub probing : KnowsBucket site.shape v segment (probing_of (home_of g)) word
      pub kept : IsKept site v (bucket_at site.shape segment (probing_of (home_of g)))

    both : Both (key_hash site.shape k)
    both = subst Both h.hashed (record { home_lock = has_lock Home h.home; home = bucket_known Home h.home; probing = bucket_known Probing h.probing; kept = kept_place Probing h.probing })

  firm : IsQuiet v → HasNoneLoose v
  firm q p loose = elim loose [
    | inl d ↦ subst (λ (ps : List (ℕ × ℕ)). Has p ps) q.dirty d
    | inr f ↦ subst (λ (ps : List (ℕ × ℕ)). Has p ps) q.flushed f
  ]

  no_plan : IsQuiet v → IsUnplanned site v k
  no_plan q call has is = subst (λ (calls : List Call). Has call calls) q.planned has

  -- ---- a search
  module _ (q : IsQuiet v) where
    record Nowhere (g : ℕ) : Type 0 where
      pub not_home : (t : ℕ) → Hit site.shape word segment (home_of g) t k → ⊥
      pub not_probing : (t : ℕ) → Hit site.shape word segment (probing_of (home_of g)) t k → ⊥
      pub stash : (c : ℕ) → c < 2 → (KnowsBucket site.shape v segment (64 + c) word × ((t : ℕ) → Hit site.shape word segment (64 + c) t k → ⊥))
          ⊎ IsUnnoted site.shape word segment (home_of g) (finger_of g) c

    module _ (n : StandsNowhere site.shape hash segment held word k) where
      in_stash : (c : ℕ) → c < 2 → (KnowsBucket site.shape v segment (64 + c) word × ((t : ℕ) → Hit site.shape word segment (64 + c) t k → ⊥))
          ⊎ IsUnnoted site.shape word segment (home_of hash) (finger_of hash) c
      in_stash zero small = by held.first refl
        where
          by : (o : Option ℕ) → held.first ≡ o → (KnowsBucket site.shape v segment 64 word × ((t : ℕ) → Hit site.shape word segment 64 t k → ⊥)) ⊎ IsUnnoted site.shape word segment (home_of hash) (finger_of hash) 0
          by (Some free) e = inl (bucket_known (firm q) First (free, e), n.places First (free, e) refl)
          by None e = inr (n.stash.first e)
      in_stash (suc zero) small = by held.second refl
        where
          by : (o : Option ℕ) → held.second ≡ o → (KnowsBucket site.shape v segment 65 word × ((t : ℕ) → Hit site.shape word segment 65 t k → ⊥)) ⊎ IsUnnoted site.shape word segment (home_of hash) (finger_of hash) 1
          by (Some free) e = inl (bucket_known (firm q) Second (free, e), n.places Second (free, e) refl)
          by None e = inr (n.stash.second e)
      in_stash (suc (suc c)) small = absurd (omega (arith, small))

      nowhere : Nowhere (key_hash site.shape k)
      nowhere = subst Nowhere h.hashed (record { not_home = n.places Home h.home refl; not_probing = n.places Probing h.probing refl; stash = in_stash })

      pub found_none : FoundNone site v word segment k
      found_none = let b = both (firm q) in record {
        led = (led, b.home_lock);
        unplanned = no_plan q;
        owes = λ o has e f. subst (λ (owed : List Owed). Has o owed) q.owed has;
        home = b.home;
        probing = b.probing;
        not_home = nowhere.not_home;
        not_probing = nowhere.not_probing;
        stash = nowhere.stash;
      }

    pub found_at : (place : Role) → IsHeld held place → (r : ℕ) → Hit site.shape word segment (bucket_of_role hash place) r k → FoundAt site v word segment (bucket_of_role hash place) r k
    found_at place is r hit = let b = both (firm q) in record {
      led = (led, b.home_lock);
      unplanned = no_plan q;
      still = q.moving;
      home = b.home;
      probing = b.probing;
      there = bucket_known (firm q) place is;
      hit = hit;
    }

draws : (site : Ground) (here : Site) (hash segment : ℕ) (held : Held) (word : Words) (call : Call) (v : View) → HoldsBuckets site here hash segment held word (key_of call) v → HasNoneLoose v
    → Has call v.planned → 0 < v.room → HasNoted v → DrawsWell site v call segment word
draws site here hash segment held word call v h none planned room noted = let b = both site here hash segment held word (key_of call) v h none in record {
  planned = planned;
  room = room;
  noted = noted;
  led = (led site here hash segment held word (key_of call) v h, b.home_lock);
  firm = λ p loose u. none p loose;
  probing = b.kept;
  home_words = b.home;
  probing_words = b.probing;
}

quiet : (v : View) → HasNoneLoose v → v.planned ≡ [] → v.moving ≡ [] → v.owed ≡ [] → IsQuiet v
quiet v none planned moving owed = record {
  dirty = nothing_left v.dirty (λ p d. none p (inl d));
  flushed = nothing_left v.flushed (λ p f. none p (inr f));
  planned = planned;
  moving = moving;
  owed = owed;
}

pub holders_find : HoldersFind
holders_find = record {
  bucket = λ site here hash segment held word k v h none place is. bucket_known site here hash segment held word k v h none place is;
  none = λ site here hash segment held word k v h q n. found_none site here hash segment held word k v h q n;
  at = λ site here hash segment held word k v h q place is r hit. found_at site here hash segment held word k v h q place is r hit;
  draw = draws;
  kept = λ site here hash segment held word k v h none c small. stash_kept site here hash segment held word k v h none c small;
  spared = λ site here hash segment held word k v h none spares c small. stash_spared site here hash segment held word k v h none spares c small;
  quiet = quiet;
}

-- ---- the stores of a change
home_near : (hash : ℕ) → home_of hash < homes
home_near hash = omega arith

pub prepared_nowhere : PreparedStandsNowhere
prepared_nowhere shape hash segment held word k s b lock finger written f n = record {
  places = λ place is near t hit. n.places place is near t (hits_back shape word s b lock finger written f segment (bucket_of_role hash place) t k hit);
  stash = record {
    first = λ e. unnoted_made shape word s b lock finger written f segment (home_of hash) (finger_of hash) 0 (home_near hash) (n.stash.first e);
    second = λ e. unnoted_made shape word s b lock finger written f segment (home_of hash) (finger_of hash) 1 (home_near hash) (n.stash.second e);
  };
}

taken_hit : (shape : Shape) (word : Words) (s b r k x : ℕ) → IsReadyAt shape word s b r k → allocated r x ≡ 1 → Hit shape (with_word word (bucket_at shape s b + 1) x) s b r k
taken_hit shape word s b r k x ready taken = let low = ready.slot in record {
  segment = ready.segment;
  bucket = ready.bucket;
  slot = ready.slot;
  taken = ap (allocated r) (this_word shape word s b 1 x (bucket_at shape s b + 1) ready.bucket (omega arith) refl (bucket_at shape s b + 1) refl) ∙ taken;
  key = other_word shape word s b 1 x (bucket_at shape s b + 1) ready.bucket (omega arith) refl s b (4 + 2 * r) (bucket_at shape s b + 4 + 2 * r) ready.bucket (omega (arith, low)) (omega arith) (λ _ _ e. omega (arith, e))
      ∙ ready.has_key;
}

valued_hit : (shape : Shape) (word : Words) (s b r k x : ℕ) → Hit shape word s b r k → Hit shape (with_word word (bucket_at shape s b + 5 + 2 * r) x) s b r k
valued_hit shape word s b r k x h = let low = h.slot in record {
  segment = h.segment;
  bucket = h.bucket;
  slot = h.slot;
  taken = ap (allocated r)
      (other_word shape word s b (5 + 2 * r) x (bucket_at shape s b + 5 + 2 * r) h.bucket (omega (arith, low)) (omega arith) s b 1 (bucket_at shape s b + 1) h.bucket (omega arith) refl (λ _ _ e. omega (arith, e)))
      ∙ h.taken;
  key = other_word shape word s b (5 + 2 * r) x (bucket_at shape s b + 5 + 2 * r) h.bucket (omega (arith, low)) (omega arith) s b (4 + 2 * r) (bucket_at shape s b + 4 + 2 * r) h.bucket (omega (arith, low)) (omega arith)
      (λ _ _ e. omega (arith, e))
      ∙ h.key;
}

module _ (shape : Shape) (word : Words) (s b x : ℕ) (bucket : b < buckets) (same : x / 2 ^ 28 ≡ word (bucket_at shape s b + 1) / 2 ^ 28) where
  marked_unnoted : (q d g c : ℕ) → d < homes → IsUnnoted shape word q d g c → IsUnnoted shape (with_word word (bucket_at shape s b + 1) x) q d g c
  marked_unnoted q d g c near u = record {
    none = ap (how_often (g, c)) (notes_kept shape word s b x bucket same q d near) ∙ u.none;
    counted = count_kept shape word s b x bucket same q d near ∙ u.counted;
  }

  marked_spares : (hash segment : ℕ) (held : Held) → SparesStash shape hash segment held word → SparesStash shape hash segment held (with_word word (bucket_at shape s b + 1) x)
  marked_spares hash segment held n = record {
    first = λ e. marked_unnoted segment (home_of hash) (finger_of hash) 0 (home_near hash) (n.first e);
    second = λ e. marked_unnoted segment (home_of hash) (finger_of hash) 1 (home_near hash) (n.second e);
  }

still_owed : (site : Ground) (v : View) (word : Words) (s b d x : ℕ) (o : Owed) → b < buckets → d < homes → x / 2 ^ 28 ≡ word (bucket_at site.shape s b + 1) / 2 ^ 28
    → Has o v.owed → o.segment ≡ s → o.home ≡ d → o.added ≡ false → o.notes ≡ notes_of site.shape word s d → o.count ≡ overflow_count (word_in site.shape word s d 1)
    → OwesAsKnown site v (with_word word (bucket_at site.shape s b + 1) x) s d
still_owed site v word s b d x o bucket near same has segment home added notes count = inr (
  o,
  has,
  segment,
  home,
  added,
  notes ∙ sym (notes_kept site.shape word s b x bucket same s d near),
  count ∙ sym (count_kept site.shape word s b x bucket same s d near),
)

pub publish_tells : PublishTells
publish_tells = record {
  taken = taken_hit;
  valued = valued_hit;
  spared = λ shape hash segment held word s b x bucket same n. marked_spares shape word s b x bucket same hash segment held n;
  owed = still_owed;
}
