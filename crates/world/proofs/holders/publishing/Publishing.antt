-- The store that makes a side live, by what the holder of the split knows.
use Rattle.std.proofs.Common.{◌≡◌, ℕ, suc, ◌+◌, ◌*◌, ◌<◌, ◌≤◌, Some, inr, sym, ap, subst, ◌∙◌, arith}
use Rattle.trace.specs.Events.{Words, with_word}
use Rattle.trace.proofs.Replaced.{replaced_other}
use Rattle.segment_head.specs.HeadWord.{version_in, state_in, depth_in, pattern_in, normal}
use Rattle.image_layout.specs.Places.{Shape, root_word, state_word}
use Rattle.sound_image.specs.Segments.{Frame, frame_of, InOneSide}
use Rattle.sound_image.specs.Records.{key_hash}
use Rattle.frame_facts.specs.Stores.{GoesLive, StoreHandsOver}
use Rattle.frame_facts.proofs.StoreLaws.{goes_live as side_goes_live}
use Rattle.frame_facts.specs.Owners.{owner_of}
use Rattle.frame_facts.specs.Standing.{IsTable}
use Rattle.frame_facts.specs.TableChanges.{KeepsTable}
use Rattle.frame_facts.specs.Facts.{Fact, Lives, Current, Rooted, Owns, Lacks, Deep, Begins, Used, Taken}
use Rattle.frame_facts.specs.Keeping.{ClaimsNoneOfSide}
use Rattle.frame_facts.specs.Copies.{IsNoBucketWord}
use Rattle.frame_facts.proofs.Owners.{owner_moves}
use Rattle.frame_facts.proofs.Records.{structure_apart, handed_table}
use Rattle.frame_facts.proofs.Copies.{slot_copies}
use Rattle.frame_facts.proofs.Stores.{went_live}
use Rattle.world.specs.Ground.{Ground, IsGround, version_of, IsStructured}
use Rattle.world.specs.Views.{View}
use Rattle.world.specs.areas.Areas.{header_word}
use Rattle.world.specs.areas.Rows.{IsRow, goes_live}
use Rattle.world.specs.areas.Kinds.{moves}
use Rattle.world.specs.areas.Asking.{MayBeNewest, MayStandBeside, KeepsAll, EndsClaims, IsInOrder, MayAt}
use Rattle.world.specs.areas.Splitting.{link_word, IsHeader, IsReadyToLive, MayPublish}
use Rattle.world.proofs.basics.Structures.{header_is}
use Rattle.world.proofs.holders.filling.Known.{slot_far, both_sound}
use Rattle.world.proofs.holders.publishing.Shown.{Shows, shown_now, shown_beside, HasBuckets, shown_buckets}
use Rattle.world.proofs.holders.publishing.Sides.{HasRecords, shown_records, later_records, record_before, notes_there}
use Rattle.world.proofs.holders.publishing.Copied.{hit_in_segment, hit_in_side, inside_there, copy_there}

one_more : (a b : ℕ) → a ≡ suc b → a ≡ b + 1
one_more a b e = omega (arith, e)

no_more : (a b : ℕ) → a ≡ b → a ≤ b
no_more a b e = omega (arith, e)

-- the facts that a side leaves which goes live claim nothing of the 1-side
claims_none : (frame : Frame) (s : ℕ) (fact : Fact) → ((ClaimsNoneOfSide frame s fact → ⊥) → ⊥) → ClaimsNoneOfSide frame s fact
claims_none frame s (Lives t) k = tt
claims_none frame s (Current t) k = tt
claims_none frame s (Rooted e) k = tt
claims_none frame s (Owns t d p) k = λ e h fits covers inside. k (λ none. none e h fits covers inside)
claims_none frame s (Lacks t d p) k = tt
claims_none frame s (Deep f d p) k = tt
claims_none frame s (Begins t h) k = tt
claims_none frame s (Used t) k = tt
claims_none frame s (Taken t) k = tt

module _ (site : Ground) (ground : IsGround site) (v : View) (s n x : ℕ) (word : Words) (ready : IsReadyToLive site v s n word)
    (is : IsHeader x normal (depth_in (word (header_word site.shape n))) (pattern_in (word (header_word site.shape n))) (version_in (word (header_word site.shape n)))) where
  abbrev shape : Shape
  shape = site.shape

  -- the header of the side
  abbrev at : ℕ
  at = header_word shape n

  apart : IsNoBucketWord shape at
  apart = structure_apart shape at (header_is shape n ready.side_slot)

  -- ---- in words that have what is known, and a sound structure
  module _ (w : Words) (shows : Shows v w) (structured : IsStructured site w) where
    abbrev frame : Frame
    frame = frame_of shape w

    abbrev later : Words
    later = with_word w at x

    head : w (header_word shape s) ≡ word (header_word shape s)
    head = shows (header_word shape s) (word (header_word shape s)) ready.head.header

    side_head : w at ≡ word at
    side_head = shows at (word at) ready.side_head

    root : w root_word ≡ ready.root_depth
    root = shows root_word ready.root_depth ready.root

    whole : HasBuckets shape word w s
    whole = shown_buckets shape v word w s shows ready.buckets_are

    side : HasRecords shape word w n
    side = shown_records shape v word w n shows ready.side_buckets

    version : version_in x ≡ version_in (w state_word)
    version = is.version_is ∙ ready.new.version_is ∙ ap version_in (sym (structured.fixed state_word (omega arith) (λ e. omega (arith, e))))

    goes : GoesLive frame s n x
    goes = record {
      slot = ready.head.slot;
      splits = ap state_in head ∙ ready.splits;
      linked = shows (link_word shape s) (word (link_word shape s)) ready.head.link ∙ ready.linked;
      side_slot = ready.side_slot;
      was = ap state_in side_head ∙ ready.new.state_is;
      becomes = is.state_is;
      depth = one_more (depth_in x) (depth_in (w (header_word shape s))) (is.depth_is ∙ ready.new.depth_is ∙ ap (λ z. suc (depth_in z)) (sym head));
      pattern = is.pattern_is ∙ ready.new.pattern_is ∙ ap (λ z. 2 * pattern_in z + 1) (sym head);
      shallow = subst (λ g. depth_in (w (header_word shape s)) < g) (sym root) (subst (λ z. depth_in z < ready.root_depth) (sym head) ready.shallow);
      past = no_more (version_in x) (version_in (w state_word)) version;
    }

    row : IsRow site w (goes_live s) n x
    row = (goes, is.version_is ∙ ready.new.version_is)

    hands : StoreHandsOver shape w s n at x
    hands = side_goes_live shape w ground.shape structured.sound s n x goes

    -- the 1-side has another owner
    owned : (h : ℕ) → InOneSide frame s h → (owner_of shape w h ≡ Some s) × (owner_of shape later h ≡ Some n)
    owned = owner_moves shape.depth ground.shape.depth frame (frame_of shape later) structured.sound s n goes.slot (inr goes.splits) hands

    structured_later : IsStructured site later
    structured_later = record {
      fixed = λ i low no_root. replaced_other w at x i (λ e. omega (arith, e, low, slot_far shape n 1)) ∙ structured.fixed i low no_root;
      sound = hands.goes_on.sound;
    }

    table_later : IsTable shape w → KeepsTable shape w later
    table_later table = handed_table shape w at x apart ground.shape structured.sound table s n hands owned
        (slot_copies shape w table s n ready.head.slot ready.side_slot (λ h inside. (owned h inside).0) (copy_there shape word w s n head whole side ready.copied))

    -- the side has its records with the store too
    side_later : HasRecords shape word later n
    side_later = later_records shape word w n side later (λ b m near above inside. replaced_other w at x _ (apart n b m ready.side_slot near inside))

    in_order : IsInOrder site later n
    in_order = record {
      own = λ b r k hit. (owned (key_hash shape k) (inside_there shape word w s n head whole side (key_hash shape k)
          (hit_in_side shape word s n ready.head.slot ready.copied b r k (record_before shape word later n side_later b r k hit)))).1;
      once = λ b r c t k hit other. ready.once b r c t k
          (hit_in_segment shape word s n ready.head.slot ready.copied b r k (record_before shape word later n side_later b r k hit))
          (hit_in_segment shape word s n ready.head.slot ready.copied c t k (record_before shape word later n side_later c t k other));
      exact = λ b near. notes_there shape word later n side_later b near (ready.exact b near);
    }

  -- ---- in the newest words and in a medium beside them
  module _ (words medium : Words) (now : MayBeNewest site v words) (beside : MayStandBeside site v words medium) where
    keeps : KeepsAll site (EndsClaims site s medium) words medium at x
    keeps = record {
      structure = structured_later medium (shown_beside site v words medium beside) beside.structure;
      table = table_later medium (shown_beside site v words medium beside) beside.structure beside.table;
      facts = λ fact spared. went_live shape (version_of site) words medium (both_sound site ground v words medium now beside) s n x
          (goes words (shown_now site v words now) now.structure, goes medium (shown_beside site v words medium beside) beside.structure) fact
          (claims_none (frame_of shape medium) s fact spared);
    }

  pub may_go_live : MayAt site (moves (goes_live s) n x) v
  may_go_live = (
    (λ words now. (row words (shown_now site v words now) now.structure, (ready.side, ready.whole, ready.directory))),
    ready.holder.planned,
    keeps,
    (
      ready.free,
      (λ words now. in_order words (shown_now site v words now) now.structure),
      ready.firm,
    ),
    (λ words medium now beside. row medium (shown_beside site v words medium beside) beside.structure),
  )

pub may_publish : (site : Ground) (v : View) → IsGround site → MayPublish site v
may_publish site v ground = record { live = λ s n x word ready is. may_go_live site ground v s n x word ready is }
