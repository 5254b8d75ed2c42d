-- What is said of the segments of a frame holds in another one with the same words.
use Rattle.std.proofs.Common.{◌≡◌, ◌≢◌, ℕ, ◌+◌, ◌-◌, ◌*◌, ◌^◌, ◌<◌, ◌≤◌, ◌⊎◌, ◌%◌, inl, inr, sym, ap, subst, ◌∙◌, arith}
use Rattle.std.proofs.lemmas.Bool.{cases_eq}
use Rattle.hash_word.specs.Hash.{top}
use Rattle.segment_head.specs.HeadWord.{version_in, state_in, depth_in, pattern_in, free, normal, splitting}
use Rattle.sound_image.specs.Segments.{Frame, image_version, state_at, depth_at, pattern_at, IsLive, CoversHash, IsLiveFor, InOneSide, IsReadySide}
use Rattle.sound_image.specs.Directory.{RootInRange, VersionInRange, HeadInRange, LinkInRange, VersionIsPast}
use Rattle.segment_table.specs.Claims.{IsSoundFrame}

module _ (one other : Frame) where
  pub live_same : (s : ℕ) → other.header s ≡ one.header s → IsLive one s → IsLive other s
  live_same s same live = subst (λ h1. (state_in h1 ≡ normal) ⊎ (state_in h1 ≡ splitting)) (sym same) live

  pub covers_same : (s h : ℕ) → other.header s ≡ one.header s → CoversHash one s h → CoversHash other s h
  covers_same s h same covers = subst (λ h1. top (depth_in h1) h ≡ pattern_in h1) (sym same) covers

  pub side_same : (s h : ℕ) → other.header s ≡ one.header s → InOneSide one s h → InOneSide other s h
  side_same s h same inside = subst (λ h1. top (depth_in h1 + 1) h ≡ 2 * pattern_in h1 + 1) (sym same) inside

  pub live_for_same : (s h : ℕ) → other.segments ≡ one.segments → other.header s ≡ one.header s → IsLiveFor one h s → IsLiveFor other h s
  live_for_same s h slots same is = record {
    slot = subst (λ n. s < n) (sym slots) is.slot;
    live = live_same s same is.live;
    covers = covers_same s h same is.covers;
  }

  -- a ready side, where depth and pattern of both segments are the same
  pub ready_same : (s n : ℕ) → other.segments ≡ one.segments → other.link s ≡ one.link s → state_at other s ≡ splitting → IsLive other n
      → depth_at other s ≡ depth_at one s → pattern_at other s ≡ pattern_at one s → depth_at other n ≡ depth_at one n → pattern_at other n ≡ pattern_at one n
      → IsReadySide one s n → IsReadySide other s n
  ready_same s n slots link splits live depth_s pattern_s depth_n pattern_n side = record {
    splits = splits;
    named = link ∙ side.named;
    slot = subst (λ m. n < m) (sym slots) side.slot;
    live = live;
    deeper = omega (arith, side.deeper, depth_s, depth_n);
    zeros = pattern_n ∙ side.zeros
        ∙ sym (ap (λ p. (2 * p + 1) * 2 ^ (depth_at other n - depth_at other s - 1)) pattern_s
        ∙ ap (λ d. (2 * pattern_at one s + 1) * 2 ^ (d - depth_at other s - 1)) depth_n
        ∙ ap (λ d. (2 * pattern_at one s + 1) * 2 ^ (depth_at one n - d - 1)) depth_s);
  }

  pub ready_kept : (s n : ℕ) → other.segments ≡ one.segments → other.link s ≡ one.link s → other.header s ≡ one.header s → other.header n ≡ one.header n
      → IsReadySide one s n → IsReadySide other s n
  ready_kept s n slots link same_s same_n side =
      ready_same s n slots link (ap state_in same_s ∙ side.splits) (live_same n same_n side.live) (ap depth_in same_s) (ap pattern_in same_s) (ap depth_in same_n)
      (ap pattern_in same_n) side

-- THE NUMBERS of a frame are in their ranges
pub record HasNumbers (greatest : ℕ) (frame : Frame) : Type 0 where
  pub root : RootInRange frame greatest
  pub version : VersionInRange frame
  pub head : (s : ℕ) → s < frame.segments → HeadInRange frame greatest s
  pub link : (s : ℕ) → s < frame.segments → LinkInRange frame s
  pub past : (s : ℕ) → s < frame.segments → VersionIsPast frame s

pub numbers : (greatest : ℕ) (frame : Frame) → IsSoundFrame greatest frame → HasNumbers greatest frame
numbers greatest frame sound = record { root = sound.root; version = sound.version; head = sound.head; link = sound.link; past = sound.past }

-- a header word is in range
pub record HeadFits (greatest h1 : ℕ) : Type 0 where
  pub known : state_in h1 ≤ 3
  pub depth : state_in h1 ≢ free → depth_in h1 ≤ greatest
  pub pattern : state_in h1 ≢ free → pattern_in h1 < 2 ^ depth_in h1

pub head_fits : (greatest : ℕ) (frame : Frame) (s : ℕ) → HeadInRange frame greatest s → HeadFits greatest (frame.header s)
head_fits greatest frame s range = record { known = range.known; depth = range.depth_fits; pattern = range.pattern_fits }

pub head_in_range : (greatest : ℕ) (frame : Frame) (s h1 : ℕ) → frame.header s ≡ h1 → HeadFits greatest h1 → HeadInRange frame greatest s
head_in_range greatest frame s h1 is fits =
    let here = subst (HeadFits greatest) (sym is) fits in
    record { known = here.known; depth_fits = here.depth; pattern_fits = here.pattern }

-- A HEADER IS STORED: all else is the same
pub record HeaderStored (before after : Frame) (s x : ℕ) : Type 0 where
  pub segments : after.segments ≡ before.segments
  pub root : after.root ≡ before.root
  pub status : after.status ≡ before.status
  pub here : after.header s ≡ x
  pub others : (t : ℕ) → t < before.segments → t ≢ s → after.header t ≡ before.header t
  pub links : (t : ℕ) → t < before.segments → after.link t ≡ before.link t
  pub entries : (i : ℕ) → i < 2 ^ before.root → after.entry i ≡ before.entry i

-- no header is stored
pub record SameHeaders (before after : Frame) : Type 0 where
  pub segments : after.segments ≡ before.segments
  pub headers : (t : ℕ) → t < before.segments → after.header t ≡ before.header t

module _ (greatest : ℕ) (before after : Frame) (s x : ℕ) (was : HasNumbers greatest before) (stored : HeaderStored before after s x) where
  pub numbers_stored : HeadFits greatest x → version_in x ≤ image_version before → (state_in x ≢ free → before.link s ≤ before.segments) → HasNumbers greatest after
  numbers_stored fits past link = record {
    root = subst (λ r. r ≤ greatest) (sym stored.root) was.root;
    version = subst (λ w. 1 ≤ w % 2 ^ 8) (sym stored.status) was.version;
    head = λ t slot. let slot' = subst (λ n. t < n) stored.segments slot in elim (cases_eq t s) [
      | inl same ↦ head_in_range greatest after t x (ap after.header same ∙ stored.here) fits
      | inr other ↦ head_in_range greatest after t (before.header t) (stored.others t slot' other) (head_fits greatest before t (was.head t slot'))
    ];
    link = λ t slot taken. let slot' = subst (λ n. t < n) stored.segments slot in
        subst (λ n. after.link t ≤ n) (sym stored.segments) (subst (λ l. l ≤ before.segments) (sym (stored.links t slot'))
        (elim (cases_eq t s) [
          | inl same ↦ subst (λ u. before.link u ≤ before.segments) (sym same) (link (λ e. taken (ap (λ u. state_at after u) same ∙ ap state_in stored.here ∙ e)))
          | inr other ↦ was.link t slot' (λ e. taken (ap state_in (stored.others t slot' other) ∙ e))
        ]));
    past = λ t slot. let slot' = subst (λ n. t < n) stored.segments slot in
        subst (λ w. version_in (after.header t) ≤ w % 2 ^ 8) (sym stored.status)
        (elim (cases_eq t s) [
          | inl same ↦ subst (λ h1. version_in h1 ≤ image_version before) (sym (ap after.header same ∙ stored.here)) past
          | inr other ↦ subst (λ h1. version_in h1 ≤ image_version before) (sym (stored.others t slot' other)) (was.past t slot')
        ]);
  }

module _ (greatest : ℕ) (before after : Frame) (was : HasNumbers greatest before) (same : SameHeaders before after) where
  pub numbers_same : after.root ≤ greatest → VersionInRange after
      → ((s : ℕ) → s < before.segments → state_at before s ≢ free → after.link s ≤ before.segments)
      → ((s : ℕ) → s < before.segments → version_in (before.header s) ≤ image_version after) → HasNumbers greatest after
  numbers_same root version link past = record {
    root = root;
    version = version;
    head = λ s slot. let slot' = subst (λ n. s < n) same.segments slot in
        head_in_range greatest after s (before.header s) (same.headers s slot') (head_fits greatest before s (was.head s slot'));
    link = λ s slot taken. let slot' = subst (λ n. s < n) same.segments slot in
        subst (λ n. after.link s ≤ n) (sym same.segments) (link s slot' (λ e. taken (ap state_in (same.headers s slot') ∙ e)));
    past = λ s slot. let slot' = subst (λ n. s < n) same.segments slot in
        subst (λ h1. version_in h1 ≤ image_version after) (sym (same.headers s slot')) (past s slot');
  }
