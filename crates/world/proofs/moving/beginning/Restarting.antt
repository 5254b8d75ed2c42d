-- What a restart leaves of a sound image: a sound structure and a table with the same pairs, in which each current segment is repaired.
use Rattle.std.proofs.Common.{◌≡◌, ◌≢◌, ℕ, ◌+◌, ◌*◌, ◌%◌, ◌^◌, ◌<◌, ◌≤◌, List, inl, inr, refl, sym, ap, ◌∙◌, subst, arith}
use Rattle.std.specs.Prelude.{slice_index}
use Rattle.std.proofs.lemmas.List.{get_or_past}
use Rattle.trace.specs.Events.{Words}
use Rattle.hash_word.specs.Hash.{probing_of}
use Rattle.bucket_meta.specs.Bucket.{lock_bit, overflow_count, record_slots}
use Rattle.segment_head.specs.HeadWord.{version_in}
use Rattle.image_layout.specs.Places.{Shape, IsShape, root_word, state_word, first_segment, entry_at, head_at, bucket_at, key_at, block, homes, buckets, words_of}
use Rattle.image_layout.proofs.Areas.{entry_before}
use Rattle.sound_image.specs.Segments.{Frame, frame_of, image_version, state_at, depth_at, pattern_at, IsLive, Owns}
use Rattle.sound_image.specs.Records.{key_hash, HasExactNotes}
use Rattle.sound_image.specs.Rules.{IsCleanAndCurrent, CleanMeansRepaired, FollowsRules}
use Rattle.sound_image.proofs.Hashes.{key_hash-fits}
use Rattle.frame_facts.specs.Claims.{HasSoundFrame}
use Rattle.frame_facts.specs.Stores.{Keeps}
use Rattle.frame_facts.proofs.frames.Rules as frame_rules
use Rattle.frame_facts.proofs.frames.SoundFrames.{owner_claims}
use Rattle.frame_facts.proofs.frames.Owner.{claimer_found}
use Rattle.frame_facts.proofs.Moved.{HasNumbers, ready_same}
use Rattle.frame_facts.proofs.SameRegion.{same_entries}
use Rattle.frame_facts.proofs.Alike.{alike_keeps}
use Rattle.frame_facts.specs.Owners.{SameOwners}
use Rattle.frame_facts.specs.Slots.{SameSlot}
use Rattle.frame_facts.specs.Hits.{Hit}
use Rattle.frame_facts.specs.HomeNotes.{SameHomeNotes}
use Rattle.frame_facts.specs.Standing.{IsTable}
use Rattle.frame_facts.specs.TableChanges.{KeepsTable}
use Rattle.frame_facts.proofs.Slots.{same_words}
use Rattle.frame_facts.proofs.segments.Rules.{record_of, cases_order}
use Rattle.frame_facts.proofs.segments.Rules as table_rules
use Rattle.frame_facts.proofs.segments.Noted.{notes_same, exact_same}
use Rattle.frame_facts.proofs.segments.Stashed.{stashed_same}
use Rattle.frame_facts.proofs.segments.changes.NoSlot.{keeps}
use Rattle.frame_facts.proofs.Owners.{owner_stays}
use Rattle.world.specs.Ground.{Ground, version_of, IsCurrentIn}
use Rattle.world.specs.World.{World}
use Rattle.world.specs.areas.Areas.{header_word}
use Rattle.world.specs.areas.Asking.{IsInOrder}
use Rattle.world.specs.areas.Beginning.{IsRepaired, Begins}
use Rattle.world.specs.areas.Restarting.{KeepsVersion, RaisesVersion, IsLeftOf, IsRestartOf, SoundImagesBegin}

-- ---- places
pub no_head : (f s b n t : ℕ) → b < 66 → n < 32 → f + 2144 * s + 32 + 32 * b + n ≡ f + 2144 * t + 1 → ⊥
no_head f s b n t near inside e = omega (arith, near, inside, e)

pub no_link : (f s t : ℕ) → f + 2144 * s + 2 ≡ f + 2144 * t + 1 → ⊥
no_link f s t e = omega (arith, e)

pub before_heads : (f i t : ℕ) → i < f → i ≡ f + 2144 * t + 1 → ⊥
before_heads f i t low e = omega (arith, low, e)

behind_heads : (f n i t : ℕ) → t < n → f + 2144 * n ≤ i → i ≡ f + 2144 * t + 1 → ⊥
behind_heads f n i t slot high e = omega (arith, slot, high, e)

-- ---- the structure
module _ (shape : Shape) (image words : Words) (is : IsShape shape) (left : IsLeftOf shape image words) (sound : HasSoundFrame shape image) where
  abbrev before : Frame
  before = frame_of shape image

  abbrev after : Frame
  after = frame_of shape words

  front_same : (i : ℕ) → i < first_segment shape → i ≢ state_word → words i ≡ image i
  front_same i low other = left.same i other (λ t slot e. before_heads (first_segment shape) i t low e)

  root : words root_word ≡ image root_word
  root = front_same root_word (let f = entry_before shape 0 0 (omega arith) (omega arith) in omega (arith, f)) (λ e. omega (arith, e))

  link : (s : ℕ) → s < shape.segments → after.link s ≡ before.link s
  link s slot = left.same (head_at shape s + 2) (λ e. omega (arith, e)) (λ t _ e. no_link (first_segment shape) s t e)

  entry : (i : ℕ) → i < 2 ^ before.root → after.entry i ≡ before.entry i
  entry i below = ap (λ r. words (entry_at r i)) root ∙ front_same (entry_at (image root_word) i) (entry_before shape (image root_word) i sound.root below) (λ e. omega (arith, e))

  state : (s : ℕ) → s < shape.segments → state_at after s ≡ state_at before s
  state s slot = (left.heads s slot).state

  depth : (s : ℕ) → s < shape.segments → depth_at after s ≡ depth_at before s
  depth s slot = (left.heads s slot).depth

  pattern : (s : ℕ) → s < shape.segments → pattern_at after s ≡ pattern_at before s
  pattern s slot = (left.heads s slot).pattern

  there : (s : ℕ) → s < shape.segments → IsLive before s → IsLive after s
  there s slot live = elim live [ inl e ↦ inl (state s slot ∙ e) | inr e ↦ inr (state s slot ∙ e) ]

  pub back : (s : ℕ) → s < shape.segments → IsLive after s → IsLive before s
  back s slot live = elim live [ inl e ↦ inl (sym (state s slot) ∙ e) | inr e ↦ inr (sym (state s slot) ∙ e) ]

  some : 1 ≤ image_version after
  some = elim left.version [
    | inl k ↦ subst (λ n. 1 ≤ n) (sym k.version) sound.version
    | inr up ↦ above (version_in (words (header_word shape 0))) (image_version after) (up 0 (let s = is.some in omega (arith, s)))
  ]
    where
      above : (a b : ℕ) → a < b → 1 ≤ b
      above a b less = omega (arith, less)

  past : (s : ℕ) → s < shape.segments → version_in (after.header s) ≤ image_version after
  past s slot = elim left.version [
    | inl k ↦ subst (λ n. version_in (after.header s) ≤ n) (sym k.version) (subst (λ h. version_in h ≤ image_version before) (sym (k.headers s slot)) (sound.past s slot))
    | inr up ↦ less (version_in (after.header s)) (image_version after) (up s slot)
  ]
    where
      less : (a b : ℕ) → a < b → a ≤ b
      less a b l = omega (arith, l)

  numbers : HasNumbers shape.depth after
  numbers = record {
    root = subst (λ r. r ≤ shape.depth) (sym root) sound.root;
    version = some;
    head = λ s slot. let was = sound.head s slot in record {
      known = subst (λ n. n ≤ 3) (sym (state s slot)) was.known;
      depth_fits = λ taken. subst (λ d. d ≤ shape.depth) (sym (depth s slot)) (was.depth_fits (λ e. taken (state s slot ∙ e)));
      pattern_fits = λ taken. subst (λ p. p < 2 ^ depth_at after s) (sym (pattern s slot))
          (subst (λ d. pattern_at before s < 2 ^ d) (sym (depth s slot)) (was.pattern_fits (λ e. taken (state s slot ∙ e))));
    };
    link = λ s slot taken. subst (λ l. l ≤ shape.segments) (sym (link s slot)) (sound.link s slot (λ e. taken (state s slot ∙ e)));
    past = past;
  }

  kept : Keeps shape.depth before after
  kept = alike_keeps shape.depth before after sound (record {
    segments = refl;
    there = there;
    back = back;
    depth = λ s slot _. depth s slot;
    pattern = λ s slot _. pattern s slot;
    ready = λ s n slot side. ready_same before after s n refl (link s slot) (state s slot ∙ side.splits) (there n side.slot side.live) (depth s slot) (pattern s slot)
        (depth n side.slot) (pattern n side.slot) side;
    unready = λ s n slot side. ready_same after before s n refl (sym (link s slot)) (sym (state s slot) ∙ side.splits) (back n side.slot side.live) (sym (depth s slot))
        (sym (pattern s slot)) (sym (depth n side.slot)) (sym (pattern n side.slot)) side;
    entries = same_entries shape.depth is.depth before after sound root entry;
    root = omega (arith, root);
    numbers = numbers;
  })

  pub sound_after : HasSoundFrame shape words
  sound_after = kept.goes_on.sound

  pub owners : SameOwners shape image words
  owners h = owner_stays shape.depth is.depth before after sound kept h

  -- ---- the records
  pub in_bucket : (s b n : ℕ) → s < shape.segments → b < buckets → n < block → words (bucket_at shape s b + n) ≡ image (bucket_at shape s b + n)
  in_bucket s b n slot near inside = left.same (bucket_at shape s b + n) (λ e. omega (arith, e)) (λ t _ e. no_head (first_segment shape) s b n t near inside e)

  slots : (s b t : ℕ) → s < shape.segments → b < buckets → t < record_slots → SameSlot image words (bucket_at shape s b) t
  slots s b t slot near below = same_words image words (bucket_at shape s b) (λ n inside. in_bucket s b n slot near inside) t below

  pub kept_table : IsTable shape image → KeepsTable shape image words
  kept_table table = keeps shape image words table owners slots

  pub hit_back : (s b r k : ℕ) → Hit shape words s b r k → Hit shape image s b r k
  hit_back s b r k h =
      let same = slots s b r h.segment h.bucket h.slot in
      let taken = sym same.taken ∙ h.taken in
      record { segment = h.segment; bucket = h.bucket; slot = h.slot; taken = taken; key = sym (same.key taken) ∙ h.key }

  same_notes : (s b : ℕ) → s < shape.segments → b < homes → SameHomeNotes shape image words s b
  same_notes s b slot near = record {
    notes = notes_same shape image words s b (λ n above below. in_bucket s b n slot (omega (arith, near)) (omega (arith, below)))
        (λ n above below. in_bucket s (probing_of b) n slot (omega arith) (omega (arith, below)));
    count = ap overflow_count (in_bucket s b 1 slot (omega (arith, near)) (omega arith));
    stashed = stashed_same shape image words s b (λ c t small below. slots s (homes + c) t slot (omega (arith, small)) below);
  }

  pub exact_after : (s b : ℕ) → s < shape.segments → b < homes → HasExactNotes shape image s b → HasExactNotes shape words s b
  exact_after s b slot near exact = exact_same shape image words s b (same_notes s b slot near) exact

-- ---- an image by its rules
frame_of_rules : (shape : Shape) (word : Words) → IsShape shape → FollowsRules shape word → HasSoundFrame shape word
frame_of_rules shape word is rules = frame_rules.from_rules shape is word (record {
  numbers = λ w. (rules 1 w).one refl;
  owned = λ w. (rules 2 w).two refl;
  lead = λ w. (rules 3 w).three refl;
  past = λ w. (rules 6 w).six refl;
})

table_of_rules : (shape : Shape) (word : Words) → FollowsRules shape word → IsTable shape word
table_of_rules shape word rules = table_rules.from_rules shape word (λ w. ((rules 4 w).four refl, (rules 5 w).five refl))

-- a current segment of a closed one is in order
module _ (site : Ground) (word : Words) (is : IsShape site.shape) (fits : (i : ℕ) → word i < 2 ^ 64) (rules : FollowsRules site.shape word) (s : ℕ)
    (current : IsCleanAndCurrent site.shape word s) where
  sound : HasSoundFrame site.shape word
  sound = frame_of_rules site.shape word is rules

  pub repaired : (w : ℕ) → CleanMeansRepaired site.shape word w
  repaired w = (rules 7 w).seven refl

  never_before : (b r c t k : ℕ) → Hit site.shape word s b r k → Hit site.shape word s c t k → key_at site.shape s b r < key_at site.shape s c t → ⊥
  never_before b r c t k h g less =
      (repaired (key_at site.shape s c t)).once s c t current (record_of site.shape word s c t k g) refl b r (record_of site.shape word s b r k h) less (h.key ∙ sym g.key)

  pub in_order : IsInOrder site word s
  in_order = record {
    own = λ b r k h.
        let fits : key_hash site.shape k < 2 ^ 64 = subst (λ (n : ℕ). key_hash site.shape n < 2 ^ 64) h.key (key_hash-fits site.shape (word (key_at site.shape s b r)) (fits (key_at site.shape s b r))) in
        let owns : Owns (frame_of site.shape word) s (key_hash site.shape k) = subst (λ (n : ℕ). Owns (frame_of site.shape word) s (key_hash site.shape n)) h.key
        ((repaired (key_at site.shape s b r)).own s b r current (record_of site.shape word s b r k h) refl) in
        claimer_found site.shape.depth (frame_of site.shape word) is.depth sound s (key_hash site.shape k) fits
        (owner_claims site.shape.depth is.depth (frame_of site.shape word) sound s (key_hash site.shape k) fits owns);
    once = λ b r c t k h g. elim (cases_order site.shape s b r c t h.slot g.slot) [
      | inl less ↦ absurd (never_before b r c t k h g less)
      | inr e ↦ elim e [
        | inl less ↦ absurd (never_before c t b r k g h less)
        | inr same ↦ same
      ]
    ];
    exact = λ b near. (repaired (bucket_at site.shape s b + 1)).notes s b current near refl;
  }

-- ---- the world
module _ (site : Ground) (image : List ℕ) (world : World) (of : IsRestartOf site image world) where
  abbrev word : Words
  word = slice_index image

  abbrev is : IsShape site.shape
  is = of.sound.in_range

  framed : HasSoundFrame site.shape word
  framed = frame_of_rules site.shape word is of.sound.follows

  table : KeepsTable site.shape word world.words
  table = kept_table site.shape word world.words is of.left framed (table_of_rules site.shape word of.sound.follows)

  -- the version of the site is that of the words
  version : version_of site ≡ image_version (frame_of site.shape world.words)
  version = ap (λ n. n % 2 ^ 8) (sym (of.front state_word (omega arith) (λ e. omega (arith, e))))

  behind : (i : ℕ) → words_of site.shape ≤ i → world.words i ≡ 0
  behind i high = of.left.same i (λ e. omega (arith, e, high)) (λ t slot e. behind_heads (first_segment site.shape) site.shape.segments i t slot high e)
      ∙ get_or_past image i 0 (let w = of.sound.whole in omega (arith, w, high))

  -- a current segment of an image that kept its version
  closed : KeepsVersion site.shape word world.words → (s : ℕ) → IsCurrentIn site world.words s → IsRepaired site world.words s
  closed k s c = record {
    normal = (of.left.heads s c.live.slot).state ∙ (repaired site word is of.sound.each_fits of.sound.follows s current (head_at site.shape s + 1)).head s current refl;
    in_order = record {
      own = λ b r key h. owners site.shape word world.words is of.left framed (key_hash site.shape key)
          ∙ (in_order site word is of.sound.each_fits of.sound.follows s current).own b r key (hit_back site.shape word world.words is of.left framed s b r key h);
      once = λ b r d t key h g. (in_order site word is of.sound.each_fits of.sound.follows s current).once b r d t key
          (hit_back site.shape word world.words is of.left framed s b r key h) (hit_back site.shape word world.words is of.left framed s d t key g);
      exact = λ b near. exact_after site.shape word world.words is of.left framed s b c.live.slot near ((in_order site word is of.sound.each_fits of.sound.follows s current).exact b near);
    };
    free = λ b near. ap lock_bit (first b near)
        ∙ (repaired site word is of.sound.each_fits of.sound.follows s current (bucket_at site.shape s b)).lock s b current near refl;
  }
    where
      current : IsCleanAndCurrent site.shape word s
      current = record {
        clean = k.clean;
        slot = c.live.slot;
        live = back site.shape word world.words is of.left framed s c.live.slot c.live.live;
        same_version = ap version_in (sym (k.headers s c.live.slot)) ∙ c.current ∙ version ∙ k.version;
      }

      first : (b : ℕ) → b < buckets → world.words (bucket_at site.shape s b) ≡ word (bucket_at site.shape s b)
      first b near = let e : bucket_at site.shape s b + 0 ≡ bucket_at site.shape s b = omega arith in
          subst (λ i. world.words i ≡ word i) e (in_bucket site.shape word world.words is of.left framed s b 0 c.live.slot near (omega arith))

  -- where the version is above that of each header, there is none
  raised : RaisesVersion site.shape word world.words → (s : ℕ) → IsCurrentIn site world.words s → ⊥
  raised up s c = below (version_in (world.words (header_word site.shape s))) (image_version (frame_of site.shape world.words)) (version_of site) (up s c.live.slot) version c.current
    where
      below : (has now of_site : ℕ) → has < now → of_site ≡ now → has ≡ of_site → ⊥
      below has now of_site less a b = omega (arith, less, a, b)

  begins : Begins site word world
  begins = record {
    restarted = record {
      site_is = record { shape = is; few = of.few };
      words_are = of.words_are;
      settled = of.settled;
      structured = record { fixed = of.front; sound = sound_after site.shape word world.words is of.left framed };
      heads = of.heads;
      table = table.table;
      pairs = λ k. table.pairs k ∙ of.pairs k;
      behind = λ i high _. behind i high;
      fresh = of.fresh;
      callers = of.callers;
    };
    repaired = λ s c. elim of.left.version [ inl k ↦ closed k s c | inr up ↦ absurd (raised up s c) ];
  }

pub sound_images_begin : SoundImagesBegin
sound_images_begin site image world of = begins site image world of
