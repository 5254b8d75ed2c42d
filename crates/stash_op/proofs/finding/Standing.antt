-- What is held and known: the locks of the buckets of a key, and the words of each that was loaded; and where the key does not stand once
-- a stash bucket more is loaded.
use Rattle.std.proofs.Common.{◌≡◌, ℕ, ◌+◌, ◌<◌, ◌≤◌, Option, None, Some, List, [], ◌∷◌, inl, inr, refl, sym, ap, ◌∙◌, subst, slice_index}
use Rattle.std.proofs.lemmas.Option.{none-some}
use Rattle.trace.specs.Events.{Words}
use Rattle.image_layout.specs.Places.{bucket_at}
use Rattle.world.specs.Ground.{Ground}
use Rattle.world.specs.Views.{View, At}
use Rattle.world.specs.Conditions.{IsNewest}
use Rattle.world.specs.Invariant.{Holds}
use Rattle.world.proofs.calls.deeds.Calls.{newest_without}
use Rattle.phase.specs.declared.role.Role.{Role}
use Rattle.phase.specs.declared.role.Role.TheVariants as place
use Rattle.phase.specs.declared.held.Held.{Held}
use Rattle.phase.specs.declared.kept.Kept.{Kept}
use Rattle.phase.specs.Places.{bucket_of_role}
use Rattle.phase.specs.Helds.{with_held, free_of}
use Rattle.phase.specs.Buckets.{words_in}
use Rattle.phase.specs.Asked.{index}
use Rattle.phase.specs.Stands.{IsThere, Leads}
use Rattle.phase.specs.Giving.{IsLocated, IsHeld, HoldsLocks}
use Rattle.phase.specs.Knows.{Knows, IsWhole}
use Rattle.phase.specs.Finding.{HasLoadedHeld, HoldsBuckets, StandsNowhere}
use Rattle.phase.specs.Keeps.{IsFull}
use Rattle.phase.proofs.asking.Asked.{one_place, cases_place}
use Rattle.phase.proofs.Wording.{words_this, words_other}
use Rattle.phase.proofs.locks.Giving.{lock_at, held_other}
use Rattle.phase.proofs.locks.Finding.{words_stand, loads_are_known}
use Rattle.stash_op.specs.declared.step.StashBucket.{StashBucket}
use Rattle.stash_op.specs.declared.step.Seen.{Seen}
use Rattle.stash_op.specs.Search.{place_of}
use Rattle.stash_op.specs.Steps.{put_in, lock_of}
use Rattle.stash_op.specs.Fits.{loaded, IsHere, HasLoaded, IsIn}
use Rattle.stash_op.proofs.finding.Fewer.{none_held_has, nowhere_still}

module _ (site : Ground) (kept : Kept) (is : IsIn site kept) where
  pub located : kept.segment < site.shape.segments → IsLocated site kept.site kept.segment
  located within = record { shape = is.shape; within = within }

  -- the words of a bucket, by its number in the segment
  pub word_at : (seen : Seen) → IsLocated site kept.site kept.segment → (p : Role) (j : ℕ) → 1 ≤ j → j < 32
      → loaded kept seen (bucket_at site.shape kept.segment (bucket_of_role kept.hash p) + j) ≡ slice_index (words_in seen.buckets p) j
  word_at seen at p j from low = ap (λ l. loaded kept seen (l + j)) (sym (lock_at site kept.site kept.hash kept.segment at p))
      ∙ words_stand site kept.site kept.hash kept.segment seen.buckets p at j from low

  -- what is held, for any words that are known
  pub holds_for : (seen : Seen) (v : View) → IsThere site kept.segment v.facts → Leads site kept.hash kept.segment v.pinned → HoldsLocks kept.site kept.hash kept.segment seen.held v → IsHeld seen.held place.Home → IsHeld seen.held place.Probing
      → (w : Words) → Knows (IsHere kept seen) w v → HoldsBuckets site kept.site kept.hash kept.segment seen.held w kept.change.key v
  holds_for seen v there leads locks home probing w knows = record {
    located = located there.within;
    hashed = is.hash;
    there = there;
    leads = leads;
    locks = locks;
    home = home;
    probing = probing;
    knows = knows;
  }

  pub holds_loaded : (seen : Seen) (v : View) → HasLoaded site kept seen seen.held v → HoldsBuckets site kept.site kept.hash kept.segment seen.held (loaded kept seen) kept.change.key v
  holds_loaded seen v h = holds_for seen v h.there h.leads h.locks h.home h.probing (loaded kept seen)
      (loads_are_known site kept.site kept.hash kept.segment seen.held seen.buckets v (located h.there.within) h.whole)

  -- ---- the words of a stash bucket are put in, whose lock was taken last
  module _ (seen : Seen) (b : StashBucket) (words : List ℕ) (before : Held) (free : ℕ) (more : seen.held ≡ with_held (place_of b) free before) (out : free_of before (place_of b) ≡ None)
      (u : View) (h : HasLoaded site kept seen before u) (all : IsWhole (lock_of kept (place_of b)) words u) (newest : Words) (new : IsNewest site u newest) where
    abbrev now : Seen
    now = put_in seen b words

    still_held : (p : Role) → IsHeld before p → IsHeld seen.held p
    still_held p was = (
      was.0,
      ap (λ (z : Held). free_of z p) more
          ∙ held_other before free (place_of b) p (λ e. none-some _ (sym out ∙ ap (free_of before) (sym (one_place p (place_of b) e)) ∙ was.1)) ∙ was.1,
    )

    was_held : (p : Role) → (index p ≡ index (place_of b) → ⊥) → IsHeld seen.held p → IsHeld before p
    was_held p apart is_held = (is_held.0, sym (held_other before free (place_of b) p apart) ∙ sym (ap (λ (z : Held). free_of z p) more) ∙ is_held.1)

    apart_of : (p : Role) → IsHeld before p → index p ≡ index (place_of b) → ⊥
    apart_of p was e = none-some _ (sym out ∙ ap (free_of before) (sym (one_place p (place_of b) e)) ∙ was.1)

    now_whole : HasLoadedHeld kept.site kept.hash kept.segment seen.held now.buckets u
    now_whole p is_held = elim (cases_place p (place_of b)) [
      | inl e ↦ subst (λ (z : Role). IsWhole (lock_of kept z) (words_in now.buckets z) u) (sym e)
          (subst (λ (ws : List ℕ). IsWhole (lock_of kept (place_of b)) ws u) (sym (words_this seen.buckets words (place_of b))) all)
      | inr apart ↦ subst (λ (ws : List ℕ). IsWhole (lock_of kept p) ws u) (sym (words_other seen.buckets words (place_of b) p apart)) (h.whole p (was_held p apart is_held))
    ]

    now_holds : HoldsBuckets site kept.site kept.hash kept.segment seen.held (loaded kept now) kept.change.key u
    now_holds = holds_for now u h.there h.leads h.locks (still_held place.Home h.home) (still_held place.Probing h.probing) (loaded kept now)
        (loads_are_known site kept.site kept.hash kept.segment seen.held now.buckets u (located h.there.within) now_whole)

    words_stay : (p : Role) → IsHeld before p → (j : ℕ) → 1 ≤ j → j < 32
        → loaded kept now (bucket_at site.shape kept.segment (bucket_of_role kept.hash p) + j) ≡ loaded kept seen (bucket_at site.shape kept.segment (bucket_of_role kept.hash p) + j)
    words_stay p was j from low =
        word_at now (located h.there.within) p j from low
        ∙ ap (λ (ws : List ℕ). slice_index ws j) (words_other seen.buckets words (place_of b) p (apart_of p was))
        ∙ sym (word_at seen (located h.there.within) p j from low)

    before_nowhere : StandsNowhere site.shape kept.hash kept.segment before (loaded kept now) kept.change.key
    before_nowhere = nowhere_still site.shape kept.hash kept.segment before (loaded kept seen) (loaded kept now) kept.change.key h.home h.probing words_stay h.nowhere

    spared_still : (p : Role) → free_of seen.held p ≡ None → free_of before p ≡ None
    spared_still p none = by (free_of before p) refl
      where
        by : (o : Option ℕ) → free_of before p ≡ o → free_of before p ≡ None
        by (Some value) e = absurd (none-some _ (sym none ∙ (still_held p (value, e)).1))
        by None e = e

    -- the key does not stand there either, or a note would name it
    now_nowhere : StandsNowhere site.shape kept.hash kept.segment seen.held (loaded kept now) kept.change.key
    now_nowhere = record {
      places = λ p is_held near t hit. none_held_has site kept.site kept.hash kept.segment seen.held before (loaded kept now) kept.change.key u now_holds still_held h.quiet before_nowhere h.home h.probing newest new p is_held t hit;
      stash = record { first = λ none. before_nowhere.stash.first (spared_still place.First none); second = λ none. before_nowhere.stash.second (spared_still place.Second none) };
    }

    home_stays : words_in now.buckets place.Home ≡ words_in seen.buckets place.Home
    home_stays = words_other seen.buckets words (place_of b) place.Home (apart_of place.Home h.home)

    probing_stays : words_in now.buckets place.Probing ≡ words_in seen.buckets place.Probing
    probing_stays = words_other seen.buckets words (place_of b) place.Probing (apart_of place.Probing h.probing)

    pub put_loaded : HasLoaded site kept now seen.held u
    put_loaded = record {
      pinned = h.pinned;
      there = h.there;
      leads = h.leads;
      locks = h.locks;
      home = still_held place.Home h.home;
      probing = still_held place.Probing h.probing;
      thirds = record { next = still_held place.Next h.thirds.next; previous = still_held place.Previous h.thirds.previous };
      whole = now_whole;
      nowhere = now_nowhere;
      quiet = h.quiet;
      room = h.room;
      full_home = subst IsFull (sym home_stays) h.full_home;
      full_probing = subst IsFull (sym probing_stays) h.full_probing;
    }

-- ---- what a view knows that learnt a word
module _ (site : Ground) (words : Words) (views : List View) (j : ℕ) (v : View) (h : Holds site words views) (at : At views j v) (none : v.areas ≡ []) (i n : ℕ) (found : n ≡ words i) where
  pub newest_after : IsNewest site (record v { known = (i, n) ∷ v.known }) words
  newest_after = let new = newest_without site words views j v h at none in record {
    structure = new.structure;
    says = new.says;
    pinned = new.pinned;
    table = new.table;
    knows = λ k x known. elim known [
      | inl e ↦ ap words (ap (λ (p : ℕ × ℕ). p.0) e) ∙ sym found ∙ sym (ap (λ (p : ℕ × ℕ). p.1) e)
      | inr old ↦ new.knows k x old
    ];
    own = new.own;
    once = new.once;
    exact = new.exact;
    owes = new.owes;
  }
