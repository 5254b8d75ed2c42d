-- A store after which the live segments, their regions, their ready sides and what entries name are the same keeps all claims.
use Rattle.std.proofs.Common.{◌≡◌, ℕ, ◌+◌, ◌-◌, ◌*◌, ◌^◌, ◌<◌, ◌≤◌, sym, ap, subst, ◌∙◌, arith}
use Rattle.hash_word.specs.Hash.{top}
use Rattle.segment_head.specs.HeadWord.{depth_in, pattern_in}
use Rattle.sound_image.specs.Segments.{Frame, depth_at, pattern_at, IsLive, IsLiveFor, InOneSide, IsReadySide}
use Rattle.segment_table.specs.Claims.{Claims, LeadsToClaimer, arrived, on, named_for, IsSoundFrame}
use Rattle.segment_table.specs.Media.{IsSteady}
use Rattle.segment_table.specs.Stores.{Keeps}
use Rattle.segment_table.proofs.frames.SoundFrames.{way_begins}
use Rattle.segment_table.proofs.stores.Moved.{HasNumbers, SameHeaders, live_same, ready_kept}

pub record Alike (greatest : ℕ) (before after : Frame) : Type 0 where
  pub segments : after.segments ≡ before.segments
  pub there : (s : ℕ) → s < before.segments → IsLive before s → IsLive after s
  pub back : (s : ℕ) → s < before.segments → IsLive after s → IsLive before s
  pub depth : (s : ℕ) → s < before.segments → IsLive before s → depth_at after s ≡ depth_at before s
  pub pattern : (s : ℕ) → s < before.segments → IsLive before s → pattern_at after s ≡ pattern_at before s
  pub ready : (s n : ℕ) → s < before.segments → IsReadySide before s n → IsReadySide after s n
  pub unready : (s n : ℕ) → s < before.segments → IsReadySide after s n → IsReadySide before s n
  pub entries : (h : ℕ) → h < 2 ^ 64 → named_for after h ≡ named_for before h
  pub root : before.root ≤ after.root
  pub numbers : HasNumbers greatest after

module _ (greatest : ℕ) (before after : Frame) (sound : IsSoundFrame greatest before) (alike : Alike greatest before after) where
  slot_back : (s : ℕ) → s < after.segments → s < before.segments
  slot_back s slot = subst (λ n. s < n) alike.segments slot

  live_there : (s h : ℕ) → IsLiveFor before h s → IsLiveFor after h s
  live_there s h is = record {
    slot = subst (λ n. s < n) (sym alike.segments) is.slot;
    live = alike.there s is.slot is.live;
    covers = ap (λ d. top d h) (alike.depth s is.slot is.live) ∙ is.covers ∙ sym (alike.pattern s is.slot is.live);
  }

  live_back : (s h : ℕ) → IsLiveFor after h s → IsLiveFor before h s
  live_back s h is =
      let slot = slot_back s is.slot in
      let live = alike.back s slot is.live in
      record {
        slot = slot;
        live = live;
        covers = ap (λ d. top d h) (sym (alike.depth s slot live)) ∙ is.covers ∙ alike.pattern s slot live;
      }

  side_there : (s h : ℕ) → s < before.segments → IsLive before s → InOneSide before s h → InOneSide after s h
  side_there s h slot live inside =
      ap (λ d. top (d + 1) h) (alike.depth s slot live) ∙ inside ∙ ap (λ p. 2 * p + 1) (sym (alike.pattern s slot live))

  side_back : (s h : ℕ) → s < before.segments → IsLive before s → InOneSide after s h → InOneSide before s h
  side_back s h slot live inside =
      ap (λ d. top (d + 1) h) (sym (alike.depth s slot live)) ∙ inside ∙ ap (λ p. 2 * p + 1) (alike.pattern s slot live)

  claims_there : (s h : ℕ) → Claims before s h → Claims after s h
  claims_there s h claims = record {
    live = live_there s h claims.live;
    kept = λ side inside.
        claims.kept (side.0, alike.unready s side.0 claims.live.slot side.1) (side_back s h claims.live.slot claims.live.live inside);
  }

  claims_back : (s h : ℕ) → Claims after s h → Claims before s h
  claims_back s h claims =
      let is = live_back s h claims.live in
      record {
        live = is;
        kept = λ side inside. claims.kept (side.0, alike.ready s side.0 is.slot side.1) (side_there s h is.slot is.live inside);
      }

  way_there : (h s : ℕ) → LeadsToClaimer before h s → LeadsToClaimer after h s
  way_there h s (arrived claims) = arrived (claims_there _ h claims)
  way_there h s (on live side inside rest) =
      on (live_there _ h live) (alike.ready _ _ live.slot side) (side_there _ h live.slot live.live inside) (way_there h _ rest)

  sound_after : IsSoundFrame greatest after
  sound_after = record {
    root = alike.numbers.root;
    version = alike.numbers.version;
    head = alike.numbers.head;
    link = alike.numbers.link;
    past = alike.numbers.past;
    not_deep = λ s slot live.
        let slot_b = slot_back s slot in
        let live_b = alike.back s slot_b live in
        omega (arith, sound.not_deep s slot_b live_b, alike.depth s slot_b live_b, alike.root);
    some = λ h fits. let c = sound.some h fits in (c.0, claims_there c.0 h c.1);
    one = λ h s t fits a b. sound.one h s t fits (claims_back s h a) (claims_back t h b);
    leads = λ h fits. subst (λ s. LeadsToClaimer after h s) (sym (alike.entries h fits)) (way_there h (named_for before h) (sound.leads h fits));
  }

  steady_after : IsSteady before after
  steady_after = record {
    slots = alike.segments;
    stays = λ s slot live. (
      alike.there s slot live,
      ap (λ p. p * 2 ^ (64 - depth_at after s)) (alike.pattern s slot live) ∙ ap (λ d. pattern_at before s * 2 ^ (64 - d)) (alike.depth s slot live),
      omega (arith, alike.depth s slot live),
    );
  }

  deeper_after : (h : ℕ) → h < 2 ^ 64 → depth_at before (named_for before h) ≤ depth_at after (named_for after h)
  deeper_after h fits =
      let is = way_begins before h (named_for before h) (sound.leads h fits) in
      omega (arith, ap (depth_at after) (alike.entries h fits), alike.depth (named_for before h) is.slot is.live)

  pub alike_keeps : Keeps greatest before after
  alike_keeps = record {
    goes_on = record { sound = sound_after; deeper = deeper_after; steady = steady_after };
    claims = λ s h fits claims. claims_there s h claims;
  }

-- WHERE NO HEADER IS STORED, and no link of a segment with a ready side, before or after
pub same_headers_alike : (greatest : ℕ) (before after : Frame) → SameHeaders before after
    → ((s n : ℕ) → s < before.segments → IsReadySide before s n → after.link s ≡ before.link s)
    → ((s n : ℕ) → s < before.segments → IsReadySide after s n → after.link s ≡ before.link s)
    → ((h : ℕ) → h < 2 ^ 64 → named_for after h ≡ named_for before h) → before.root ≤ after.root → HasNumbers greatest after → Alike greatest before after
same_headers_alike greatest before after same link_there link_back entries root has = record {
  segments = same.segments;
  there = λ s slot live. live_same before after s (same.headers s slot) live;
  back = λ s slot live. live_same after before s (sym (same.headers s slot)) live;
  depth = λ s slot live. ap depth_in (same.headers s slot);
  pattern = λ s slot live. ap pattern_in (same.headers s slot);
  ready = λ s n slot side.
      ready_kept before after s n same.segments (link_there s n slot side) (same.headers s slot) (same.headers n side.slot) side;
  unready = λ s n slot side.
      let slot_n = subst (λ m. n < m) same.segments side.slot in
      ready_kept after before s n (sym same.segments) (sym (link_back s n slot side)) (sym (same.headers s slot)) (sym (same.headers n slot_n)) side;
  entries = entries;
  root = root;
  numbers = has;
}
