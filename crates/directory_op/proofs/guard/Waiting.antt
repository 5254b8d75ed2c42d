-- Before the guard is held: what was copied is kept while headers are loaded and the guard is tried; and with the guard the side is new.
use Rattle.std.proofs.Common.{◌≡◌, ℕ, ◌+◌, ◌*◌, ◌⊎◌, inl, inr, List, ◌∷◌, refl, sym, ap, ◌∙◌, subst}
use Rattle.std.specs.Prelude.{⊤}
use Rattle.image_layout.specs.Places.{bucket_at}
use Rattle.frame_facts.specs.Facts.{Lives, Current}
use Rattle.frame_facts.specs.DeadSlots.{IsInSlot}
use Rattle.map_model.specs.declared.call.Call.{Call}
use Rattle.world.specs.declared.site.Site.{Site}
use Rattle.world.specs.Ground.{Ground}
use Rattle.world.specs.Views.{View, Has, IsLoose}
use Rattle.world.specs.Holders.{KnowsWord}
use Rattle.world.specs.areas.Areas.{Area, Directory, header_word}
use Rattle.world.specs.areas.Splitting.{link_word}
use Rattle.rounds.specs.Stands.{IsSettled}
use Rattle.split_op.specs.declared.copied.Copied.{Copied}
use Rattle.split_op.specs.Copied.{copied_words, KeepsCopied}
use Rattle.directory_op.specs.Fits.{IsKeptWord, IsSideWord, SideIsNew}
use Rattle.directory_op.proofs.Keeping.{Keeps, locks_stay}

-- ---- words stay known and settled
module _ (v u : View) (keeps : Keeps (λ i. ⊤) v u) (dirty : u.dirty ≡ v.dirty) (flushed : u.flushed ≡ v.flushed) where
  loose_before : (p : ℕ × ℕ) → IsLoose u p → IsLoose v p
  loose_before p loose = elim loose [
    | inl d ↦ inl (subst (λ (l : List (ℕ × ℕ)). Has p l) dirty d)
    | inr f ↦ inr (subst (λ (l : List (ℕ × ℕ)). Has p l) flushed f)
  ]

  word_stays : (i x : ℕ) → KnowsWord v i x → KnowsWord u i x
  word_stays i x k = record { known = keeps.known i x tt k.known; firm = λ y loose. k.firm y (loose_before (i, y) loose) }

  module _ (site : Ground) (here : Site) (call : Call) (c : Copied) (areas : u.areas ≡ v.areas)
      (only : (p : ℕ × ℕ) → Has p u.known → Has p v.known ⊎ (IsInSlot site.shape c.whole.segment p.0 ⊎ IsInSlot site.shape c.side p.0)) where
    -- WHAT WAS COPIED IS KEPT
    pub copied_stays : KeepsCopied site here call c v → KeepsCopied site here call c u
    copied_stays k = record {
      is = k.is;
      whole = k.whole;
      copy = k.copy;
      there = record { live = record { within = k.there.within; lives = keeps.facts (Lives c.whole.segment) refl k.there.lives }; current = keeps.facts (Current c.whole.segment) refl k.there.current };
      areas = areas ∙ k.areas;
      locks = locks_stay site c v u keeps.held k.locks;
      head = record {
        slot = k.head.slot;
        header = word_stays (header_word site.shape c.whole.segment) (copied_words c (header_word site.shape c.whole.segment)) k.head.header;
        link = word_stays (link_word site.shape c.whole.segment) (copied_words c (link_word site.shape c.whole.segment)) k.head.link;
      };
      side_header = word_stays (header_word site.shape c.side) (copied_words c (header_word site.shape c.side)) k.side_header;
      buckets_are = λ b m near above low. word_stays (bucket_at site.shape c.whole.segment b + m) (copied_words c (bucket_at site.shape c.whole.segment b + m)) (k.buckets_are b m near above low);
      side_buckets = record {
        meta = λ b m near above low. word_stays (bucket_at site.shape c.side b + m) (copied_words c (bucket_at site.shape c.side b + m)) (k.side_buckets.meta b m near above low);
        key = λ b r near small taken. word_stays (bucket_at site.shape c.side b + 4 + 2 * r) (copied_words c (bucket_at site.shape c.side b + 4 + 2 * r)) (k.side_buckets.key b r near small taken);
        value = λ b r near small taken. word_stays (bucket_at site.shape c.side b + 5 + 2 * r) (copied_words c (bucket_at site.shape c.side b + 5 + 2 * r)) (k.side_buckets.value b r near small taken);
      };
      free = λ b near. (let f = k.free b near in (f.0, keeps.known (bucket_at site.shape c.side b) f.0 tt f.1, f.2));
      known = λ p has. elim (only p has) [ inl was ↦ k.known p was | inr new ↦ new ];
      quiet = record {
        dirty = dirty ∙ k.quiet.dirty;
        flushed = flushed ∙ k.quiet.flushed;
        planned = keeps.planned ∙ k.quiet.planned;
        moving = keeps.moving ∙ k.quiet.moving;
        owed = keeps.owed ∙ k.quiet.owed;
      };
    }

-- ---- the guard is won
module _ (site : Ground) (here : Site) (call : Call) (c : Copied) (v : View) (k : KeepsCopied site here call c v) where
  abbrev guarded : View
  guarded = record v { areas = Directory ∷ v.areas }

  kept_known : (i : ℕ) → IsKeptWord site.shape c.whole.segment i → Has (i, copied_words c i) v.known
  kept_known i is = elim is [
    | inl e ↦ subst (λ j. Has (j, copied_words c j) v.known) (sym e) k.head.header.known
    | inr is ↦ elim is [
      | inl e ↦ subst (λ j. Has (j, copied_words c j) v.known) (sym e) k.head.link.known
      | inr w ↦ subst (λ j. Has (j, copied_words c j) v.known) (sym w.5) (k.buckets_are w.0 w.1 w.2 w.3 w.4).known
    ]
  ]

  side_known : (i : ℕ) → IsSideWord site.shape c i → Has (i, copied_words c i) v.known
  side_known i is = elim is [
    | inl e ↦ subst (λ j. Has (j, copied_words c j) v.known) (sym e) k.side_header.known
    | inr is ↦ elim is [
      | inl w ↦ subst (λ j. Has (j, copied_words c j) v.known) (sym w.5) (k.side_buckets.meta w.0 w.1 w.2 w.3 w.4).known
      | inr w ↦ elim w.5 [
        | inl e ↦ subst (λ j. Has (j, copied_words c j) v.known) (sym e) (k.side_buckets.key w.0 w.1 w.2 w.3 w.4).known
        | inr e ↦ subst (λ j. Has (j, copied_words c j) v.known) (sym e) (k.side_buckets.value w.0 w.1 w.2 w.3 w.4).known
      ]
    ]
  ]

  pub new_with_guard : SideIsNew site here call c guarded
  new_with_guard = record {
    split = record {
      is = k.is;
      whole = k.whole;
      copy = k.copy;
      there = k.there;
      areas = ap (λ (l : List Area). Directory ∷ l) k.areas;
      locks = locks_stay site c v guarded refl k.locks;
      known = kept_known;
      planned = k.quiet.planned;
      moving = k.quiet.moving;
      owed = k.quiet.owed;
    };
    side = side_known;
    free = k.free;
  }

  pub settled_with_guard : IsSettled guarded
  settled_with_guard = record { dirty = k.quiet.dirty; flushed = k.quiet.flushed }
