-- An entry is stored: in a split, to name who claims its hashes; in a repair, to name the ready side of a segment.
use Rattle.std.proofs.Common.{◌≡◌, ◌≢◌, ℕ, ◌+◌, ◌-◌, ◌*◌, ◌/◌, ◌%◌, ◌^◌, ◌<◌, ◌≤◌, inl, inr, sym, ap, subst, ◌∙◌, arith}
use Rattle.std.proofs.lemmas.Bool.{cases_eq, cases_lt}
use Rattle.std.proofs.lemmas.Nat.{pow-add, shl-shr}
use Rattle.hash_word.specs.Hash.{top, index_of}
use Rattle.segment_head.specs.HeadWord.{version_in, depth_in}
use Rattle.sound_image.specs.Segments.{Frame, depth_at, pattern_at, CoversHash, IsLiveFor, InOneSide, IsReadySide}
use Rattle.segment_table.specs.Claims.{Claims, LeadsToClaimer, arrived, on, named_for, IsSoundFrame}
use Rattle.segment_table.specs.Media.{first_hash}
use Rattle.segment_table.specs.Stores.{Keeps, NamesClaimer, NamesSide}
use Rattle.segment_table.proofs.frames.Regions.{fewer, top_below, first, top_of_first, first_fits, odd_power}
use Rattle.segment_table.proofs.frames.SoundFrames.{claimer_of, way_deeper, way_begins, first_covered, live_low, nested_side, side_covered, deepest, apart_at}
use Rattle.segment_table.proofs.stores.Moved.{SameHeaders, HasNumbers, numbers, numbers_same, live_same, side_same, live_for_same, ready_kept}
use Rattle.segment_table.proofs.stores.GoesLive.{steady_same}

-- AN ENTRY IS STORED: all else is the same
pub record EntryStored (before after : Frame) (i n : ℕ) : Type 0 where
  pub same : SameHeaders before after
  pub root : after.root ≡ before.root
  pub status : after.status ≡ before.status
  pub links : (t : ℕ) → t < before.segments → after.link t ≡ before.link t
  pub here : after.entry i ≡ n
  pub others : (j : ℕ) → j < 2 ^ before.root → j ≢ i → after.entry j ≡ before.entry j

module _ (greatest : ℕ) (most : greatest ≤ 16) (before after : Frame) (i n : ℕ) (sound : IsSoundFrame greatest before) (stored : EntryStored before after i n) where
  ready_there : (t m : ℕ) → t < before.segments → IsReadySide before t m → IsReadySide after t m
  ready_there t m slot side =
      ready_kept before after t m stored.same.segments (stored.links t slot) (stored.same.headers t slot) (stored.same.headers m side.slot) side

  slot_back : (t : ℕ) → t < after.segments → t < before.segments
  slot_back t slot = subst (λ m. t < m) stored.same.segments slot

  ready_back : (t m : ℕ) → t < before.segments → IsReadySide after t m → IsReadySide before t m
  ready_back t m slot side =
      ready_kept after before t m (sym stored.same.segments) (sym (stored.links t slot)) (sym (stored.same.headers t slot))
      (sym (stored.same.headers m (slot_back m side.slot))) side

  claims_there : (t h : ℕ) → Claims before t h → Claims after t h
  claims_there t h claims =
      let same = stored.same.headers t claims.live.slot in
      record {
        live = live_for_same before after t h stored.same.segments same claims.live;
        kept = λ side inside. claims.kept (side.0, ready_back t side.0 claims.live.slot side.1) (side_same after before t h (sym same) inside);
      }

  claims_back : (t h : ℕ) → Claims after t h → Claims before t h
  claims_back t h claims =
      let slot = slot_back t claims.live.slot in
      let same = stored.same.headers t slot in
      record {
        live = live_for_same after before t h (sym stored.same.segments) (sym same) claims.live;
        kept = λ side inside. claims.kept (side.0, ready_there t side.0 slot side.1) (side_same before after t h same inside);
      }

  way_there : (h t : ℕ) → LeadsToClaimer before h t → LeadsToClaimer after h t
  way_there h t (arrived claims) = arrived (claims_there t h claims)
  way_there h t (on live side inside rest) =
      let same = stored.same.headers t live.slot in
      on (live_for_same before after t h stored.same.segments same live) (ready_there t _ live.slot side) (side_same before after t h same inside) (way_there h _ rest)

  has : HasNumbers greatest after
  has =
      numbers_same greatest before after (numbers greatest before sound) stored.same (omega (arith, stored.root, sound.root))
      (subst (λ w. 1 ≤ w % 2 ^ 8) (sym stored.status) sound.version)
      (λ s slot taken. subst (λ l. l ≤ before.segments) (sym (stored.links s slot)) (sound.link s slot taken))
      (λ s slot. subst (λ w. version_in (before.header s) ≤ w % 2 ^ 8) (sym stored.status) (sound.past s slot))

  same_depth : (t : ℕ) → t < before.segments → depth_at after t ≡ depth_at before t
  same_depth t slot = ap depth_in (stored.same.headers t slot)

  module _ (goes : (h : ℕ) → h < 2 ^ 64 → index_of before.root h ≡ i → LeadsToClaimer before h n) (deeper : depth_at before (before.entry i) ≤ depth_at before n) where
    index : ℕ → ℕ
    index h = index_of before.root h

    names_here : (h : ℕ) → index_of before.root h ≡ i → named_for after h ≡ n
    names_here h at = ap (λ r. after.entry (index_of r h)) stored.root ∙ ap after.entry at ∙ stored.here

    names_other : (h : ℕ) → h < 2 ^ 64 → index_of before.root h ≢ i → named_for after h ≡ named_for before h
    names_other h fits other =
        ap (λ r. after.entry (index_of r h)) stored.root
        ∙ stored.others (index_of before.root h) (top_below before.root h (omega (arith, sound.root, most)) fits) other

    leads : (h : ℕ) → h < 2 ^ 64 → LeadsToClaimer after h (named_for after h)
    leads h fits = elim (cases_eq (index_of before.root h) i) [
      | inl at ↦ subst (LeadsToClaimer after h) (sym (names_here h at)) (way_there h n (goes h fits at))
      | inr other ↦ subst (LeadsToClaimer after h) (sym (names_other h fits other)) (way_there h (named_for before h) (sound.leads h fits))
    ]

    deeper_after : (h : ℕ) → h < 2 ^ 64 → depth_at before (named_for before h) ≤ depth_at after (named_for after h)
    deeper_after h fits =
        let is = way_begins before h (named_for before h) (sound.leads h fits) in
        elim (cases_eq (index_of before.root h) i) [
          | inl at ↦
              let is_n = way_begins before h n (goes h fits at) in
              omega (arith, deeper, ap (λ j. depth_at before (before.entry j)) at, ap (depth_at after) (names_here h at), same_depth n is_n.slot)
          | inr other ↦ omega (arith, ap (depth_at after) (names_other h fits other), same_depth (named_for before h) is.slot)
        ]

    pub entry_keeps : Keeps greatest before after
    entry_keeps = record {
      goes_on = record {
        sound = record {
          root = has.root;
          version = has.version;
          head = has.head;
          link = has.link;
          past = has.past;
          not_deep = λ s slot live.
              let slot_b = slot_back s slot in
              let is = sound.not_deep s slot_b (live_same after before s (sym (stored.same.headers s slot_b)) live) in
              omega (arith, is, same_depth s slot_b, stored.root);
          some = λ h fits. let c = sound.some h fits in (c.0, claims_there c.0 h c.1);
          one = λ h s t fits a b. sound.one h s t fits (claims_back s h a) (claims_back t h b);
          leads = leads;
        };
        deeper = deeper_after;
        steady = record { slots = stored.same.segments; stays = λ t slot live. steady_same before after t (stored.same.headers t slot) live };
      };
      claims = λ t h fits claims. claims_there t h claims;
    }

  -- IN A SPLIT
  pub names_claimer_keeps : NamesClaimer before i n → Keeps greatest before after
  names_claimer_keeps may =
      let h = first before.root i in
      let fits = first_fits before.root i (omega (arith, sound.root, most)) may.index in
      let at : index_of before.root h ≡ i = top_of_first before.root i in
      let way = sound.leads h fits in
      let c = claimer_of before h (named_for before h) way in
      let down = way_deeper before h (named_for before h) way in
      let same : c.0 ≡ n = sound.one h c.0 n fits c.1 (may.claims h fits at) in
      entry_keeps (λ h fits at. arrived (may.claims h fits at)) (omega (arith, down, ap (λ j. depth_at before (before.entry j)) at, ap (depth_at before) same))

-- IN A REPAIR the way from a segment that is no deeper than s, at a hash of the 1-side of s, goes on to the side of s
module _ (greatest : ℕ) (most : greatest ≤ 16) (frame : Frame) (sound : IsSoundFrame greatest frame) (s n : ℕ) (slot : s < frame.segments) (ready : IsReadySide frame s n) where
  product : (a b c : ℕ) → a * (b * c) ≡ a * b * c
  product a b c = grind arith

  -- a side of a shallower segment that is deeper than s lies in the 0-side of s
  no_skip : (t m h : ℕ) → IsReadySide frame t m → depth_at frame t < depth_at frame s → depth_at frame s < depth_at frame m
      → CoversHash frame m h → InOneSide frame s h → ⊥
  no_skip t m h side above below covers inside =
      let k = first_hash frame m in
      let low = live_low greatest most frame sound m side.slot side.live in
      let inside_k : InOneSide frame s k = nested_side greatest most frame sound s m h k side.slot side.live below inside covers (first_covered frame m) in
      let w = 2 * pattern_at frame t + 1 in
      let up = depth_at frame s - depth_at frame t in
      let down = depth_at frame m - (depth_at frame s + 1) in
      let whole : depth_at frame s + 1 + down ≡ depth_at frame m = omega (arith, below) in
      let parts : depth_at frame m - depth_at frame t - 1 ≡ up + down = omega (arith, above, below) in
      let zeros : pattern_at frame m ≡ w * 2 ^ up * 2 ^ down =
      side.zeros ∙ ap (λ j. w * 2 ^ j) parts ∙ ap (λ j. w * j) (pow-add 2 up down) ∙ product w (2 ^ up) (2 ^ down) in
      let is : top (depth_at frame s + 1) k ≡ w * 2 ^ up =
      fewer (depth_at frame s + 1) down k (omega (arith, whole, low)) ∙ ap (λ d. top d k / 2 ^ down) whole
      ∙ ap (λ p. p / 2 ^ down) (first_covered frame m ∙ zeros) ∙ shl-shr (w * 2 ^ up) down in
      let none = odd_power w (pattern_at frame s) up (sym inside_k ∙ is) in
      omega (arith, none, above)

  pub passes : (h t : ℕ) → h < 2 ^ 64 → InOneSide frame s h → depth_at frame t ≤ depth_at frame s → LeadsToClaimer frame h t → LeadsToClaimer frame h n
  passes h t fits inside up (arrived claims) =
      let covers = side_covered greatest most frame sound s h slot (inr ready.splits) inside in
      let is_s : IsLiveFor frame h s = record { slot = slot; live = inr ready.splits; covers = covers } in
      let level : depth_at frame t ≡ depth_at frame s = omega (arith, up, deepest greatest most frame sound t s h fits claims is_s) in
      let same = apart_at greatest most frame sound t s h claims.live is_s level in
      absurd (claims.kept (n, subst (λ u. IsReadySide frame u n) (sym same) ready) (subst (λ u. InOneSide frame u h) (sym same) inside))
  passes h t fits inside up (on {n = m} live side inside_t rest) =
      let covers = side_covered greatest most frame sound s h slot (inr ready.splits) inside in
      let is_s : IsLiveFor frame h s = record { slot = slot; live = inr ready.splits; covers = covers } in
      elim (cases_eq t s) [
        | inl same ↦
            let linked : frame.link t ≡ frame.link s = ap frame.link same in
            let is_n : m ≡ n = omega (arith, side.named, ready.named, linked) in
            subst (LeadsToClaimer frame h) is_n rest
        | inr other ↦
            let above : depth_at frame t < depth_at frame s = elim (cases_eq (depth_at frame t) (depth_at frame s)) [
              | inl level ↦ absurd (other (apart_at greatest most frame sound t s h live is_s level))
              | inr apart ↦ omega (arith, apart, up)
            ] in
            elim (cases_lt (depth_at frame s) (depth_at frame m)) [
              | inl below ↦ absurd (no_skip t m h side above below (way_begins frame h m rest).covers inside)
              | inr still ↦ passes h m fits inside still rest
            ]
      ]

module _ (greatest : ℕ) (most : greatest ≤ 16) (before after : Frame) (s i n : ℕ) (sound : IsSoundFrame greatest before) (stored : EntryStored before after i n) where
  pub names_side_keeps : NamesSide before s n i → Keeps greatest before after
  names_side_keeps may =
      entry_keeps greatest most before after i n sound stored
      (λ h fits at.
      passes greatest most before sound s n may.slot may.side h (named_for before h) fits (may.in_side h fits at)
      (subst (λ j. depth_at before (before.entry j) ≤ depth_at before s) (sym at) may.shallow) (sound.leads h fits))
      (omega (arith, may.shallow, may.side.deeper))
