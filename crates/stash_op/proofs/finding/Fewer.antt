-- A key that stands nowhere, by the words of some of the buckets that are held, and by the notes that name it in no other: what `world`
-- asks of a search is found by those alone. And what is said of it stays where the words of these buckets do.
use Rattle.std.proofs.Common.{◌≡◌, ◌⊎◌, ℕ, zero, suc, ◌+◌, ◌*◌, ◌<◌, ◌≤◌, Option, None, Some, List, inl, inr, refl, sym, ap, ◌∙◌, subst, arith}
use Rattle.bucket_meta.specs.Bucket.{allocated, overflow_count}
use Rattle.bucket_meta.specs.Notes.{how_often}
use Rattle.hash_word.specs.Hash.{home_of, probing_of, finger_of}
use Rattle.trace.specs.Events.{Words}
use Rattle.image_layout.specs.Places.{Shape, bucket_at}
use Rattle.sound_image.specs.Records.{key_hash}
use Rattle.map_model.specs.declared.call.Call.{Call}
use Rattle.bucket_words.specs.Hits.{Hit}
use Rattle.bucket_words.specs.HomeNotes.{IsUnnoted}
use Rattle.bucket_words.specs.Owners.{owner_of}
use Rattle.bucket_words.proofs.segments.Noted.{notes_same}
use Rattle.world.specs.declared.site.Site.{Site}
use Rattle.world.specs.Ground.{Ground}
use Rattle.world.specs.Views.{Owed, View, Has, HasLock}
use Rattle.world.specs.Conditions.{IsNewest, IsLed}
use Rattle.world.specs.Holders.{KnowsBucket, FoundNone}
use Rattle.world.proofs.holding.Known.{newest_same, hit_from}
use Rattle.world.proofs.holding.Placing.{none_newest}
use Rattle.phase.specs.declared.role.Role.{Role}
use Rattle.phase.specs.declared.role.Role.TheVariants.{Home, Probing, First, Second}
use Rattle.phase.specs.declared.held.Held.{Held}
use Rattle.phase.specs.Places.{bucket_of_role}
use Rattle.phase.specs.Giving.{IsHeld, IsQuiet}
use Rattle.phase.specs.Finding.{HoldsBuckets, StandsNowhere}
use Rattle.phase.proofs.Leading.{pinned_lead}
use Rattle.phase.proofs.Handing.{none_loose}
use Rattle.phase.proofs.locks.Giving.{lock_at, held_has}
use Rattle.phase.proofs.locks.Finding.{holders_find}

-- ---- by fewer of the locks that are held
module _ (site : Ground) (here : Site) (hash segment : ℕ) (held before : Held) (word : Words) (k : ℕ) (v : View)
    (h : HoldsBuckets site here hash segment held word k v) (more : (place : Role) → IsHeld before place → IsHeld held place) (q : IsQuiet v)
    (n : StandsNowhere site.shape hash segment before word k) (home : IsHeld before Home) (probing : IsHeld before Probing) where
  known : (place : Role) → IsHeld before place → KnowsBucket site.shape v segment (bucket_of_role hash place) word
  known place is = holders_find.bucket site here hash segment held word k v h (none_loose v q) place (more place is)

  led : IsLed site v segment k
  led words new = ap (owner_of site.shape words) (sym h.hashed) ∙ pinned_lead site hash segment v h.leads words new

  home_lock : HasLock v.held (bucket_at site.shape segment (home_of hash))
  home_lock = subst (λ (z : ℕ). HasLock v.held z) (lock_at site here hash segment h.located Home) (held_has here hash segment held Home v h.locks (more Home home))

  -- by any hash that is the key's
  record Nowhere (g : ℕ) : Type 0 where
    pub lock : HasLock v.held (bucket_at site.shape segment (home_of g))
    pub home_known : KnowsBucket site.shape v segment (home_of g) word
    pub probing_known : KnowsBucket site.shape v segment (probing_of (home_of g)) word
    pub not_home : (t : ℕ) → Hit site.shape word segment (home_of g) t k → ⊥
    pub not_probing : (t : ℕ) → Hit site.shape word segment (probing_of (home_of g)) t k → ⊥
    pub stash : (c : ℕ) → c < 2 → (KnowsBucket site.shape v segment (64 + c) word × ((t : ℕ) → Hit site.shape word segment (64 + c) t k → ⊥))
        ⊎ IsUnnoted site.shape word segment (home_of g) (finger_of g) c

  in_stash : (c : ℕ) → c < 2 → (KnowsBucket site.shape v segment (64 + c) word × ((t : ℕ) → Hit site.shape word segment (64 + c) t k → ⊥))
      ⊎ IsUnnoted site.shape word segment (home_of hash) (finger_of hash) c
  in_stash zero small = by before.first refl
    where
      by : (o : Option ℕ) → before.first ≡ o → (KnowsBucket site.shape v segment 64 word × ((t : ℕ) → Hit site.shape word segment 64 t k → ⊥)) ⊎ IsUnnoted site.shape word segment (home_of hash) (finger_of hash) 0
      by (Some free) e = inl (known First (free, e), n.places First (free, e) refl)
      by None e = inr (n.stash.first e)
  in_stash (suc zero) small = by before.second refl
    where
      by : (o : Option ℕ) → before.second ≡ o → (KnowsBucket site.shape v segment 65 word × ((t : ℕ) → Hit site.shape word segment 65 t k → ⊥)) ⊎ IsUnnoted site.shape word segment (home_of hash) (finger_of hash) 1
      by (Some free) e = inl (known Second (free, e), n.places Second (free, e) refl)
      by None e = inr (n.stash.second e)
  in_stash (suc (suc c)) small = absurd (omega (arith, small))

  nowhere : Nowhere (key_hash site.shape k)
  nowhere = subst Nowhere h.hashed (record {
    lock = home_lock;
    home_known = known Home home;
    probing_known = known Probing probing;
    not_home = n.places Home home refl;
    not_probing = n.places Probing probing refl;
    stash = in_stash;
  })

  pub found_by_fewer : FoundNone site v word segment k
  found_by_fewer = record {
    led = (led, nowhere.lock);
    unplanned = λ call has is. subst (λ (calls : List Call). Has call calls) q.planned has;
    owes = λ o has e f. subst (λ (owed : List Owed). Has o owed) q.owed has;
    home = nowhere.home_known;
    probing = nowhere.probing_known;
    not_home = nowhere.not_home;
    not_probing = nowhere.not_probing;
    stash = nowhere.stash;
  }

  -- so it stands in none that is held
  pub none_held_has : (words : Words) → IsNewest site v words → (place : Role) → IsHeld held place → (t : ℕ) → Hit site.shape word segment (bucket_of_role hash place) t k → ⊥
  none_held_has words new place is t hit = none_newest site v word segment k found_by_fewer words new (bucket_of_role hash place) t
      (hit_from site.shape word words segment (bucket_of_role hash place)
      (newest_same site v words word segment (bucket_of_role hash place) new (holders_find.bucket site here hash segment held word k v h (none_loose v q) place is)) t k hit)

-- ---- where the words of the buckets stay
module _ (shape : Shape) (hash segment : ℕ) (held : Held) (word other : Words) (k : ℕ) (home : IsHeld held Home) (probing : IsHeld held Probing)
    (same : (place : Role) → IsHeld held place → (j : ℕ) → 1 ≤ j → j < 32 → other (bucket_at shape segment (bucket_of_role hash place) + j) ≡ word (bucket_at shape segment (bucket_of_role hash place) + j)) where
  key_place : (a t : ℕ) → a + 4 + 2 * t ≡ a + (4 + 2 * t)
  key_place a t = omega arith

  hit_back : (place : Role) → IsHeld held place → (t : ℕ) → Hit shape other segment (bucket_of_role hash place) t k → Hit shape word segment (bucket_of_role hash place) t k
  hit_back place is t h =
      let low = h.slot in
      record {
        segment = h.segment;
        bucket = h.bucket;
        slot = h.slot;
        taken = ap (allocated t) (sym (same place is 1 (omega arith) (omega arith))) ∙ h.taken;
        key = ap word (key_place (bucket_at shape segment (bucket_of_role hash place)) t) ∙ sym (same place is (4 + 2 * t) (omega arith) (omega (arith, low)))
            ∙ sym (ap other (key_place (bucket_at shape segment (bucket_of_role hash place)) t)) ∙ h.key;
      }

  unnoted_still : (c : ℕ) → IsUnnoted shape word segment (home_of hash) (finger_of hash) c → IsUnnoted shape other segment (home_of hash) (finger_of hash) c
  unnoted_still c u = record {
    none = ap (how_often (finger_of hash, c))
        (notes_same shape word other segment (home_of hash) (λ m from low. same Home home m from (omega (arith, low))) (λ m from low. same Probing probing m from (omega (arith, low))))
        ∙ u.none;
    counted = ap overflow_count (same Home home 1 (omega arith) (omega arith)) ∙ u.counted;
  }

  pub nowhere_still : StandsNowhere shape hash segment held word k → StandsNowhere shape hash segment held other k
  nowhere_still n = record {
    places = λ place is near t hit. n.places place is near t (hit_back place is t hit);
    stash = record { first = λ none. unnoted_still 0 (n.stash.first none); second = λ none. unnoted_still 1 (n.stash.second none) };
  }
