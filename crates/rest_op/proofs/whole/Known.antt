-- What is held and known of the whole segment: what keeps it, and what a holder may do by it.
use Rattle.std.proofs.Common.{◌≡◌, ℕ, ◌+◌, ◌<◌, ◌≤◌, List, [], ◌∷◌, inl, inr, refl, sym, ap, ◌∙◌, subst, arith}
use Rattle.std.specs.Prelude.{slice_index}
use Rattle.std.proofs.lemmas.Bool.{cases_eq}
use Rattle.image_layout.specs.Places.{bucket_at, buckets, block}
use Rattle.frame_facts.specs.DeadSlots.{IsInSlot}
use Rattle.world.specs.Ground.{Ground}
use Rattle.world.specs.Views.{View, Has, HasLock, IsLoose}
use Rattle.world.specs.Kinds.{with_store}
use Rattle.world.specs.Holders.{KnowsWord}
use Rattle.world.specs.areas.Areas.{Area, Segment, Side, Whole, header_word}
use Rattle.world.specs.areas.Rows.{finishes, HasNoSides}
use Rattle.world.specs.areas.Kinds.{moves, view_then}
use Rattle.world.specs.areas.Splitting.{link_word, IsSettledHolder, HoldsBucketOf, KnowsHead}
use Rattle.world.proofs.basics.Lists.{pair_same}
use Rattle.world.proofs.basics.Seats.{without_has, without_stays}
use Rattle.enclose_op.specs.Phases.{IsLocated}
use Rattle.enclose_op.specs.declared.enclosed.Enclosed.{Enclosed}
use Rattle.enclose_op.specs.Whole.{KnowsOnlyOf}
use Rattle.rest_op.specs.Stands.{value_of, KnowsAll, HasAll}
use Rattle.enclose_op.proofs.Places.{in_slot, head_in_slot}
use Rattle.enclose_op.proofs.Held.{hold_same}
use Rattle.rest_op.proofs.whole.Places.{no_header, no_link, link_no_header, same_bucket}
use Rattle.rest_op.proofs.whole.Words.{rest_words, same_value, header_here, link_here, bucket_here}

module _ (site : Ground) (e : Enclosed) where
  abbrev s : ℕ
  s = e.segment

  -- where words 1 and 3 of each bucket are the same
  pub all_same : (first third later_first later_third : ℕ → ℕ) (head : ℕ) (v : View) → ((b : ℕ) → b < buckets → later_first b ≡ first b) → ((b : ℕ) → b < buckets → later_third b ≡ third b)
      → HasAll site e first third head v → HasAll site e later_first later_third head v
  all_same first third later_first later_third head v one three a = record {
    areas = a.areas;
    locks = a.locks;
    words = λ b n near from low. subst (λ x. Has (bucket_at site.shape s b + n, x) v.known) (sym (same_value e first third later_first later_third b n (one b near) (three b near))) (a.words b n near from low);
    header = a.header;
    link = a.link;
    known = a.known;
    idle = a.idle;
  }

  -- a view that holds and knows the same, and plans and owes no more
  pub all_kept : (first third : ℕ → ℕ) (head : ℕ) (v u : View) → u.areas ≡ v.areas → u.held ≡ v.held → u.known ≡ v.known → u.planned ≡ v.planned → u.moving ≡ v.moving → u.owed ≡ v.owed
      → HasAll site e first third head v → HasAll site e first third head u
  all_kept first third head v u areas held known planned moving owed a = record {
    areas = areas ∙ a.areas;
    locks = hold_same site e 0 buckets v u e refl refl held a.locks;
    words = λ b n near from low. subst (λ (l : List (ℕ × ℕ)). Has (bucket_at site.shape s b + n, value_of e first third b n) l) (sym known) (a.words b n near from low);
    header = subst (λ (l : List (ℕ × ℕ)). Has (header_word site.shape s, head) l) (sym known) a.header;
    link = (a.link.0, subst (λ (l : List (ℕ × ℕ)). Has (link_word site.shape s, a.link.0) l) (sym known) a.link.1);
    known = λ p has. a.known p (subst (λ (l : List (ℕ × ℕ)). Has p l) known has);
    idle = record { planned = planned ∙ a.idle.planned; moving = moving ∙ a.idle.moving; owed = owed ∙ a.idle.owed };
  }

  -- ---- a store to a word of the slot
  module _ (i n x : ℕ) (v : View) where
    abbrev stored : View
    stored = with_store site.shape i n x v.planned v.moving v.owed v

    still : (j y : ℕ) → (j ≡ i → ⊥) → Has (j, y) v.known → Has (j, y) stored.known
    still j y apart has = inr (without_stays i j y v.known apart has)

    only_more : IsInSlot site.shape s i → KnowsOnlyOf site e v → KnowsOnlyOf site e stored
    only_more inside only p has = elim has [
      | inl same ↦ subst (λ (j : ℕ). IsInSlot site.shape s j) (sym (ap (λ (q : ℕ × ℕ). q.0) same)) inside
      | inr more ↦ only p (without_has i p.0 p.1 v.known more).1
    ]

  -- of a bucket
  module _ (first third later_first later_third : ℕ → ℕ) (head b m x n : ℕ) (v : View) (near : b < buckets) (low : m < block) (is : value_of e later_first later_third b m ≡ x)
      (others : (c k : ℕ) → c < buckets → k < block → (c ≡ b → k ≡ m → ⊥) → value_of e later_first later_third c k ≡ value_of e first third c k) where
    abbrev at : ℕ
    at = bucket_at site.shape s b + m

    words_stored : KnowsAll site e first third v → KnowsAll site e later_first later_third (stored at n x v)
    words_stored all c k there from inside = elim (cases_eq c b) [
      | inl same ↦ elim (cases_eq k m) [
        | inl one ↦ inl (pair_same (bucket_at site.shape s c + k) at (value_of e later_first later_third c k) x (ap (λ d. bucket_at site.shape s d + k) same ∙ ap (λ d. bucket_at site.shape s b + d) one)
            (ap (λ d. value_of e later_first later_third d k) same ∙ ap (value_of e later_first later_third b) one ∙ is))
        | inr apart ↦ other c k there from inside all (λ q r. apart r)
      ]
      | inr apart ↦ other c k there from inside all (λ q r. apart q)
    ]
      where
        other : (c k : ℕ) → c < buckets → 1 ≤ k → k < block → KnowsAll site e first third v → (c ≡ b → k ≡ m → ⊥)
            → Has (bucket_at site.shape s c + k, value_of e later_first later_third c k) (stored at n x v).known
        other c k there from inside all apart = still at n x v (bucket_at site.shape s c + k) (value_of e later_first later_third c k)
            (λ q. (let p = same_bucket site.shape s c b k m inside low q in apart p.0 p.1))
            (subst (λ y. Has (bucket_at site.shape s c + k, y) v.known) (sym (others c k there inside apart)) (all c k there from inside))

    pub all_stored : HasAll site e first third head v → HasAll site e later_first later_third head (with_store site.shape at n x v.planned v.moving v.owed v)
    all_stored a = record {
      areas = a.areas;
      locks = hold_same site e 0 buckets v (stored at n x v) e refl refl refl a.locks;
      words = words_stored a.words;
      header = still at n x v (header_word site.shape s) head (λ q. no_header site.shape s b m (sym q)) a.header;
      link = (a.link.0, still at n x v (link_word site.shape s) a.link.0 (λ q. no_link site.shape s b m (sym q)) a.link.1);
      known = only_more at n x v (in_slot site.shape s b m near low) a.known;
      idle = record { planned = a.idle.planned; moving = a.idle.moving; owed = a.idle.owed };
    }

  -- of the header
  pub head_stored : (first third : ℕ → ℕ) (head x n : ℕ) (v : View) → HasAll site e first third head v → HasAll site e first third x (view_then site.shape (moves finishes s x) n v)
  head_stored first third head x n v a =
      let i : ℕ = header_word site.shape s in
      record {
        areas = a.areas;
        locks = hold_same site e 0 buckets v (view_then site.shape (moves finishes s x) n v) e refl refl refl a.locks;
        words = λ b m near from low. still i n x v (bucket_at site.shape s b + m) (value_of e first third b m) (no_header site.shape s b m) (a.words b m near from low);
        header = inl refl;
        link = (a.link.0, still i n x v (link_word site.shape s) a.link.0 (link_no_header site.shape s) a.link.1);
        known = only_more i n x v (head_in_slot site.shape s) a.known;
        idle = record { planned = a.idle.planned; moving = a.idle.moving; owed = a.idle.owed };
      }

  -- ---- WHAT THE HOLDER HAS
  module _ (first third : ℕ → ℕ) (head : ℕ) (v : View) (a : HasAll site e first third head v) where
    has_whole : Has (Whole s) v.areas
    has_whole = subst (λ (l : List Area). Has (Whole s) l) (sym a.areas) (inl refl)

    pub whole_held : Has (Whole s) v.areas
    whole_held = has_whole

    pub guard_held : Has (Segment s) v.areas
    guard_held = subst (λ (l : List Area). Has (Segment s) l) (sym a.areas) (inr (inl refl))

    no_side : (n : ℕ) → Has (Side n) (Whole s ∷ Segment s ∷ []) → ⊥
    no_side n has = elim has [ inl same ↦ absurd (cc) | inr more ↦ elim more [ inl same ↦ absurd (cc) | inr none ↦ absurd none ] ]

    pub no_sides : HasNoSides v.areas
    no_sides n has = no_side n (subst (λ (l : List Area). Has (Side n) l) a.areas has)

    pub lock_held : (b : ℕ) → b < buckets → HasLock v.held (bucket_at site.shape s b)
    lock_held b near = (slice_index e.locks b + 1, a.locks.has b (omega arith) near)

    module _ (l : IsLocated site e.site e.segment) where
      pub settled_holder : IsSettledHolder site.shape v
      settled_holder = record {
        planned = a.idle.planned;
        moving = a.idle.moving;
        owed = a.idle.owed;
        locks = λ lock has. (let o = a.locks.only (lock, has.0) has.1 in (s, o.0, l.within, o.2, ap (λ (p : ℕ × ℕ). p.0) o.3, has_whole));
      }

      pub holds_bucket : (b : ℕ) → b < buckets → HoldsBucketOf site.shape v s b
      holds_bucket b near = record { slot = l.within; bucket = near; whole = has_whole; lock = lock_held b near; no_side = no_sides s }

    -- and knows, as words of one function
    abbrev pub words_of : ℕ → ℕ
    words_of = rest_words site.shape e first third head a.link.0

    pub knows_word : (b n : ℕ) → b < buckets → 1 ≤ n → n < block → ((y : ℕ) → IsLoose v (bucket_at site.shape s b + n, y) → ⊥)
        → KnowsWord v (bucket_at site.shape s b + n) (words_of (bucket_at site.shape s b + n))
    knows_word b n near from low firm = record {
      known = subst (λ x. Has (bucket_at site.shape s b + n, x) v.known) (sym (bucket_here site.shape e first third head a.link.0 b n low)) (a.words b n near from low);
      firm = firm;
    }

    pub knows_head : IsLocated site e.site e.segment → ((y : ℕ) → IsLoose v (header_word site.shape s, y) → ⊥) → ((y : ℕ) → IsLoose v (link_word site.shape s, y) → ⊥)
        → KnowsHead site.shape v s words_of
    knows_head l head_firm link_firm = record {
      slot = l.within;
      header = record { known = subst (λ x. Has (header_word site.shape s, x) v.known) (sym (header_here site.shape e first third head a.link.0)) a.header; firm = head_firm };
      link = record { known = subst (λ x. Has (link_word site.shape s, x) v.known) (sym (link_here site.shape e first third head a.link.0)) a.link.1; firm = link_firm };
    }
