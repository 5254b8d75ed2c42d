-- A header of some version that a caller alone loaded leads to its key, where the structure is sound and no segment of this version is
-- being split: the entry of the key's hash names the segment that claims it.
use Rattle.std.proofs.Common.{◌≡◌, ◌≢◌, ℕ, ◌+◌, ◌^◌, ◌<◌, ◌≤◌, true, inl, inr, refl, sym, ap, ◌∙◌, subst, arith}
use Rattle.std.specs.Prelude.{if◌then◌else◌}
use Rattle.std.proofs.lemmas.Bool.{le-leb, lt-ltb, false≢true}
use Rattle.hash_word.specs.Hash.{index_of}
use Rattle.segment_head.specs.HeadWord.{version_in, state_in, depth_in, normal, HasLiveState}
use Rattle.trace.specs.Events.{Words}
use Rattle.image_layout.specs.Places.{root_word, entry_at, head_at}
use Rattle.image_layout.specs.Volatile.{counter_word}
use Rattle.image_layout.proofs.Areas.{entry_before}
use Rattle.way.specs.Ways.{entry_word, is_leading}
use Rattle.way.proofs.Indexes.{index_below}
use Rattle.way.proofs.Leading.{is_leading_by}
use Rattle.sound_image.specs.Records.{key_hash}
use Rattle.sound_image.specs.Segments.{Frame, frame_of}
use Rattle.sound_image.proofs.Hashes.{key_hash-fits}
use Rattle.world.specs.Claims.{Claims, LeadsToClaimer, arrived, on, named_for}
use Rattle.map_model.specs.declared.call.Call.{Call}
use Rattle.map_model.specs.Map.{key_of}
use Rattle.world.specs.Ground.{Ground, IsGround, IsStructured}
use Rattle.part.specs.Doings.{Doings, IsStill}
use Rattle.part.specs.Causes.{LeadsAway, IsUnsplit, AloneNothingLeadsAway}

module _ (site : Ground) (version : ℕ) (words : Words) (did : Doings) (call : Call) (word before after : ℕ) (good : IsGround site) (structure : IsStructured site words)
    (unsplit : IsUnsplit site.shape version words) (small : key_of call < 2 ^ 64) (still : IsStill site.shape words did)
    (away : LeadsAway site.shape words did call version word before after) where
  abbrev hash : ℕ
  hash = key_hash site.shape (key_of call)

  abbrev frame : Frame
  frame = frame_of site.shape words

  fits : hash < 2 ^ 64
  fits = key_hash-fits site.shape (key_of call) small

  low : away.root ≤ site.shape.depth
  low = away.depth.1

  low_depth : site.shape.depth ≤ 16
  low_depth = good.shape.depth

  -- ---- what it loaded is still so
  same_root : words root_word ≡ away.root
  same_root = elim (still root_word away.root away.depth.0 (let some = good.shape.some in λ same. omega (arith, some, same))) [
    | inl same ↦ same
    | inr own ↦ absurd (away.by_others root_word (inl refl) own)
  ]

  entry_is : entry_word site.shape hash away.root ≡ entry_at away.root (index_of away.root hash)
  entry_is = ap (λ b. if b then entry_at away.root (index_of away.root hash) else root_word) (le-leb away.root site.shape.depth low)

  entry_near : entry_word site.shape hash away.root ≢ counter_word site.shape
  entry_near same =
      let most = low_depth in
      let within = low in
      let index = index_below away.root hash (omega (arith, within, most)) fits in
      let first = entry_before site.shape away.root (index_of away.root hash) within index in
      let is = entry_is in
      omega (arith, first, is, same)

  same_entry : words (entry_at away.root (index_of away.root hash)) ≡ away.segment
  same_entry = elim (still (entry_word site.shape hash away.root) away.segment away.named entry_near) [
    | inl same ↦ ap words (sym entry_is) ∙ same
    | inr own ↦ absurd (away.by_others (entry_word site.shape hash away.root) (inr (inl refl)) own)
  ]

  named_is : named_for frame hash ≡ away.segment
  named_is = ap (λ r. words (entry_at r (index_of r hash))) same_root ∙ same_entry

  -- ---- so the header is that of the segment that the entry names, which is of the version
  has_slot : (s : ℕ) → LeadsToClaimer frame hash s → s < site.shape.segments
  has_slot s (arrived c) = c.live.slot
  has_slot s (on live side inside rest) = live.slot

  leads : LeadsToClaimer frame hash away.segment
  leads = subst (λ s. LeadsToClaimer frame hash s) named_is (structure.sound.leads hash fits)

  head_is : word ≡ head_at site.shape away.segment + 1
  head_is = away.head ∙ ap (λ b. if b then head_at site.shape away.segment + 1 else root_word) (lt-ltb away.segment site.shape.segments (has_slot away.segment leads))

  before_is : before ≡ words (head_at site.shape away.segment + 1)
  before_is = away.same ∙ sym away.newest ∙ ap words head_is

  current : version_in (words (head_at site.shape away.segment + 1)) ≡ version
  current = ap version_in (sym before_is) ∙ away.current

  -- ---- and claims the hash
  claimed : (s : ℕ) → version_in (words (head_at site.shape s + 1)) ≡ version → LeadsToClaimer frame hash s → Claims frame s hash
  claimed s is (arrived c) = c
  claimed s is (on live side inside rest) = absurd (unsplit s live.slot is side.splits)

  claims : Claims frame away.segment hash
  claims = claimed away.segment current leads

  is_normal : HasLiveState (frame.header away.segment) → state_in (frame.header away.segment) ≡ normal
  is_normal (inl is) = is
  is_normal (inr split) = absurd (unsplit away.segment claims.live.slot current split)

  low_head : depth_in (frame.header away.segment) ≤ 64
  low_head =
      let under = structure.sound.not_deep away.segment claims.live.slot claims.live.live in
      let root = structure.sound.root in
      let most = low_depth in
      omega (arith, under, root, most)

  leading : is_leading (words (head_at site.shape away.segment + 1)) hash ≡ true
  leading = is_leading_by (frame.header away.segment) hash (record { normal = is_normal claims.live.live; low = low_head; covers = claims.live.covers })

  leads_there : ⊥
  leads_there = false≢true (sym away.away ∙ ap (λ h. is_leading h hash) before_is ∙ leading)

pub alone_nothing_leads_away : AloneNothingLeadsAway
alone_nothing_leads_away site version words did call word before after good structure unsplit small still away =
    leads_there site version words did call word before after good structure unsplit small still away
