-- What is read of the words tells facts, and facts tell what stores must find.
use Rattle.std.proofs.Common.{◌≡◌, ◌≢◌, ℕ, ◌+◌, ◌*◌, ◌/◌, ◌^◌, ◌<◌, ◌≤◌, inl, inr, refl, sym, ap, subst, ◌∙◌, arith}
use Rattle.std.proofs.lemmas.Bool.{cases_lt}
use Rattle.hash_word.specs.Hash.{top, index_of}
use Rattle.segment_head.specs.HeadWord.{version_in, normal, splitting, HasLiveState}
use Rattle.trace.specs.Events.{Words}
use Rattle.image_layout.specs.Places.{Shape, IsShape, root_word, entry_at, head_at}
use Rattle.bucket_words.specs.Segments.{Frame, frame_of, state_at, depth_at, pattern_at, IsLive, IsLiveFor, InOneSide, IsReadySide, HasReadySide}
use Rattle.bucket_words.specs.Claims.{named_for, IsSideEntry, IsSoundFrame, HasSoundFrame, ClaimsAll, ClaimsNone}
use Rattle.bucket_words.specs.Media.{first_hash, IsSteady}
use Rattle.bucket_words.specs.Stores.{HandsOver, NamesClaimer, NamesSide}
use Rattle.bucket_words.proofs.frames.Regions.{fewer, top_below, first, top_of_first, first_fits, next_top_of_first, less_top}
use Rattle.bucket_words.proofs.frames.SideEntries.{side_entry}
use Rattle.bucket_words.proofs.frames.SoundFrames.{way_begins, first_covered, live_low, nested_side}
use Rattle.bucket_words.proofs.Media.{deeper_there, ready_now, ready_there}
use Rattle.frame_facts.specs.Facts.{Lives, Current, Rooted, Begins, IsLiveSlot, NamesDeeper, HoldsFact}

-- HEADERS
pub current_told : (shape : Shape) (version : ℕ) (words medium : Words) (s : ℕ) → s < shape.segments → HasLiveState (words (head_at shape s + 1))
    → version_in (words (head_at shape s + 1)) ≡ version → HoldsFact shape version words (Current s) medium
current_told shape version words medium s slot live is = record { live = record { slot = slot; live = live }; current = is }

pub begins_told : (shape : Shape) (version : ℕ) (words medium : Words) (s : ℕ) → IsSteady (frame_of shape medium) (frame_of shape words)
    → HoldsFact shape version words (Lives s) medium → HoldsFact shape version words (Begins s (first_hash (frame_of shape words) s)) medium
begins_told shape version words medium s steady lives = (lives, sym (steady.stays s lives.slot lives.live).1)

-- SIDES
module _ (frame : Frame) (s : ℕ) (is : IsLiveSlot frame s) where
  -- without a ready side a segment claims all that it covers
  pub unready_claims : (HasReadySide frame s → ⊥) → ClaimsAll frame s (depth_at frame s) (pattern_at frame s)
  unready_claims none h fits covers = record {
    live = record { slot = is.slot; live = is.live; covers = covers };
    kept = λ side inside. none side;
  }

  -- with one, nothing of its 1-side
  pub ready_lacks : HasReadySide frame s → ClaimsNone frame s (depth_at frame s + 1) (2 * pattern_at frame s + 1)
  ready_lacks side h fits covers claims = claims.kept side covers

pub normal_unready : (frame : Frame) (s : ℕ) → state_at frame s ≡ normal → HasReadySide frame s → ⊥
normal_unready frame s is side = clash (sym is ∙ side.1.splits)
  where
    clash : normal ≡ splitting → ⊥
    clash e = omega (arith, e)

-- ENTRIES
pub rooted_told : (shape : Shape) (version : ℕ) (words medium : Words) → IsShape shape → HasSoundFrame shape words
    → ((s : ℕ) → IsLiveSlot (frame_of shape words) s → IsLiveSlot (frame_of shape medium) s) → HoldsFact shape version words (Rooted (words root_word)) medium
rooted_told shape version words medium is_shape sound lives = (omega arith, named)
  where
    named : (i : ℕ) → i < 2 ^ words root_word → IsLiveSlot (frame_of shape medium) (words (entry_at (words root_word) i))
    named i below =
        let h = first (words root_word) i in
        let small : words root_word ≤ 64 = omega (arith, sound.root, is_shape.depth) in
        let way = way_begins (frame_of shape words) h (named_for (frame_of shape words) h) (sound.leads h (first_fits (words root_word) i small below)) in
        subst (λ j. IsLiveSlot (frame_of shape medium) (words (entry_at (words root_word) j))) (top_of_first (words root_word) i)
        (lives (named_for (frame_of shape words) h) (record { slot = way.slot; live = way.live }))

-- one entry tells how deep it is that it names
pub deep_told : (frame : Frame) (f i : ℕ) → f < depth_at frame (frame.entry i) → NamesDeeper frame f frame.root i
deep_told frame f i deep h fits covers = subst (λ j. f < depth_at frame (frame.entry j)) (sym covers) deep

-- by what the newest words say, where the segment's header is settled, and the root and the entry, or the link
module _ (greatest : ℕ) (most : greatest ≤ 16) (medium newest : Frame) (sound_m : IsSoundFrame greatest medium) (sound_n : IsSoundFrame greatest newest)
    (steady : IsSteady medium newest) (s : ℕ) (is : IsLiveSlot medium s) (header : newest.header s ≡ medium.header s) where
  pub deep_there : newest.root ≡ medium.root → (i : ℕ) → depth_at medium s < medium.root → IsSideEntry medium s i → newest.entry i ≡ medium.entry i → depth_at newest s < depth_at newest (newest.entry i)
      → NamesDeeper medium (depth_at medium s) newest.root i
  deep_there root i low inside_i entry deep h fits covers =
      let small : medium.root ≤ 64 = omega (arith, sound_m.root, most) in
      let at : index_of medium.root h ≡ i = ap (λ r. index_of r h) (sym root) ∙ covers in
      let inside : InOneSide medium s h = (side_entry medium s h low small).1 (subst (IsSideEntry medium s) (sym at) inside_i) in
      let same : newest.entry i ≡ named_for medium h = entry ∙ ap medium.entry (sym at) in
      let named : named_for newest h ≡ newest.entry i = ap newest.entry covers in
      let way_m = way_begins medium h (named_for medium h) (sound_m.leads h fits) in
      let way_n = way_begins newest h (named_for newest h) (sound_n.leads h fits) in
      deeper_there greatest most medium newest sound_m sound_n steady s is.slot header (named_for medium h) h is.live inside way_m
      (subst (λ n. IsLiveFor newest h n) (named ∙ same) way_n).covers (subst (λ n. depth_at newest s < depth_at newest n) same deep)

  -- what has no ready side now has none in the medium, and what has one that lives there has it
  pub unready_there : newest.link s ≡ medium.link s → (HasReadySide newest s → ⊥) → HasReadySide medium s → ⊥
  unready_there link none side = none (side.0, ready_now greatest most medium newest sound_m sound_n steady s is.slot header side.0 link side.1)

  pub ready_in : newest.link s ≡ medium.link s → (n : ℕ) → IsLive medium n → IsReadySide newest s n → HasReadySide medium s
  ready_in link n live side = (n, ready_there greatest most medium newest sound_m sound_n steady s is.slot header n link live side)

-- the parts of a region cover it
pub deep_joined : (frame : Frame) (f d k p : ℕ) → d + k ≤ 64 → ((q : ℕ) → q < 2 ^ (d + k) → q / 2 ^ k ≡ p → NamesDeeper frame f (d + k) q) → NamesDeeper frame f d p
deep_joined frame f d k p most parts h fits covers =
    parts (top (d + k) h) (top_below (d + k) h most fits) (sym (fewer d k h most) ∙ covers) h fits refl

-- WHAT STORES MUST FIND, by facts
pub claimer_by_claims : (frame : Frame) (n d k p i : ℕ) → frame.root ≡ d + k → d + k ≤ 64 → i < 2 ^ frame.root → i / 2 ^ k ≡ p → ClaimsAll frame n d p → NamesClaimer frame i n
claimer_by_claims frame n d k p i root most below is claims = record {
  index = below;
  claims = λ h fits at. claims h fits (fewer d k h most ∙ ap (λ j. j / 2 ^ k) (ap (λ r. top r h) (sym root) ∙ at) ∙ is);
}

module _ (greatest : ℕ) (most : greatest ≤ 16) (frame : Frame) (sound : IsSoundFrame greatest frame) (s n i : ℕ) (slot : s < frame.segments)
    (side : IsReadySide frame s n) (below : i < 2 ^ frame.root) (inside : IsSideEntry frame s i) where
  live : IsLive frame s
  live = inr side.splits

  small : frame.root ≤ 64
  small = omega (arith, sound.root, most)

  deeper_root : depth_at frame s < frame.root
  deeper_root = omega (arith, side.deeper, sound.not_deep n side.slot side.live)

  in_side : (h : ℕ) → index_of frame.root h ≡ i → InOneSide frame s h
  in_side h at = (side_entry frame s h deeper_root small).1 (subst (IsSideEntry frame s) (sym at) inside)

  -- what begins no later than s, and covers a hash of its 1-side, is no deeper
  shallow : (b : ℕ) → IsLiveSlot frame (frame.entry i) → first_hash frame (frame.entry i) ≡ b → b ≤ first_hash frame s → depth_at frame (frame.entry i) ≤ depth_at frame s
  shallow b is begins no_later = elim (cases_lt (depth_at frame s) (depth_at frame (frame.entry i))) [
    | inr most_s ↦ most_s
    | inl deeper ↦
        let h = first frame.root i in
        let at : index_of frame.root h ≡ i = top_of_first frame.root i in
        let way = way_begins frame h (named_for frame h) (sound.leads h (first_fits frame.root i small below)) in
        let covers = (subst (λ j. IsLiveFor frame h (frame.entry j)) at way).covers in
        let begins_in : InOneSide frame s (first_hash frame (frame.entry i)) =
        nested_side greatest most frame sound s (frame.entry i) h (first_hash frame (frame.entry i)) is.slot is.live deeper (in_side h at) covers (first_covered frame (frame.entry i)) in
        let next = next_top_of_first (depth_at frame s) (pattern_at frame s) (omega (arith, live_low greatest most frame sound s slot live)) in
        let less = less_top (depth_at frame s + 1) (first_hash frame s) (first_hash frame (frame.entry i)) (omega (arith, next, begins_in)) in
        absurd (omega (arith, less, begins, no_later))
  ]

  pub names_side : (b : ℕ) → IsLiveSlot frame (frame.entry i) → first_hash frame (frame.entry i) ≡ b → b ≤ first_hash frame s → NamesSide frame s n i
  names_side b is begins no_later = record {
    slot = slot;
    side = side;
    index = below;
    in_side = λ h fits at. in_side h at;
    shallow = shallow b is begins no_later;
  }

-- A SIDE THAT WENT LIVE claims the 1-side, and its segment nothing of it
pub side_claims : (greatest : ℕ) (before after : Frame) (s n : ℕ) → HandsOver greatest before after s n → ClaimsAll after n (depth_at before s + 1) (2 * pattern_at before s + 1)
side_claims greatest before after s n hands h fits inside = (hands.given h fits inside).1

pub segment_lacks : (greatest : ℕ) (before after : Frame) (s n : ℕ) → HandsOver greatest before after s n → s ≢ n
    → ClaimsNone after s (depth_at before s + 1) (2 * pattern_at before s + 1)
segment_lacks greatest before after s n hands other h fits inside claims = other (hands.goes_on.sound.one h s n fits claims (hands.given h fits inside).1)
