-- Each store keeps facts, by its law over frames and by what it finds of new sides.
use Rattle.std.proofs.Common.{◌≡◌, ◌≢◌, ℕ, ◌+◌, ◌^◌, ◌<◌, ◌≤◌, ◌⊎◌, inl, inr, refl, sym, ap, subst, ◌∙◌, arith}
use Rattle.std.proofs.lemmas.Bool.{cases_eq}
use Rattle.trace.specs.Events.{Words, with_word}
use Rattle.trace.proofs.Replaced.{replaced_same, replaced_other}
use Rattle.segment_head.specs.HeadWord.{version_in, state_in, depth_in, pattern_in, free, normal, splitting, fresh}
use Rattle.image_layout.specs.Places.{Shape, first_segment, root_word, entry_at, head_at, bucket_at, block, buckets}
use Rattle.image_layout.proofs.Areas.{entry_before}
use Rattle.bucket_words.specs.Segments.{Frame, frame_of, state_at, IsLive, HasReadySide}
use Rattle.bucket_words.specs.Claims.{Claims, IsSoundFrame}
use Rattle.bucket_words.specs.Stores.{TakesSlot, FreesSlot, Links, BeginsSplit, GoesLive, NamesClaimer, NamesSide, EndsSplit, DropsSplit, Renews, HandsOver}
use Rattle.bucket_words.specs.Stores.{Doubles, IsFrameWord, StoreKeeps, StoreHandsOver}
use Rattle.bucket_words.proofs.frames.Regions.{first, top_of_first, first_fits}
use Rattle.bucket_words.proofs.frames.Deciding.{one_side}
use Rattle.bucket_words.proofs.stores.Moved.{HeaderStored}
use Rattle.bucket_words.proofs.Words.{header_stored}
use Rattle.bucket_words.proofs.FrameWords.{other_areas_apart, buckets_apart}
use Rattle.bucket_words.proofs.Claimers.{kept_back}
use Rattle.bucket_words.proofs.StoreLaws.{takes_slot, frees_slot, links, begins_split, doubles, goes_live, names_claimer, ends_split, names_side, drops_split, renews, stores_apart}
use Rattle.frame_facts.specs.Facts.{Fact, Lives, Current, Rooted, Owns, Lacks, Deep, Begins, Used, Taken, IsLiveSlot, IsCurrentSlot, IsNewSide, IsUsedSlot, IsTakenSlot}
use Rattle.frame_facts.specs.Keeping.{Both, AreSound, HaveOneRoot, KeepsVersion, IsEntry, ClaimsNoneOfSide, FreesNone, KeepsFact, KeepsFacts, Spares}
use Rattle.frame_facts.proofs.Carrying.{StaysSo, keeps_fact}
use Rattle.frame_facts.proofs.Sides.{side_moved, side_apart, other_slot}

not_live : (frame : Frame) (s a : ℕ) → state_at frame s ≡ a → a ≢ normal → a ≢ splitting → IsLive frame s → ⊥
not_live frame s a is not_normal not_splitting live = elim live [ inl e ↦ not_normal (sym is ∙ e) | inr e ↦ not_splitting (sym is ∙ e) ]

-- a side handed over adds no claim of another slot
handed_back : (greatest : ℕ) (before after : Frame) → IsSoundFrame greatest before → (s n : ℕ) → HandsOver greatest before after s n
    → (t h : ℕ) → h < 2 ^ 64 → t ≢ n → Claims after t h → Claims before t h
handed_back greatest before after sound s n hands t h fits other claims = elim (one_side before s h) [
  | inl inside ↦ absurd (other (hands.goes_on.sound.one h t n fits claims (hands.given h fits inside).1))
  | inr outside ↦
      let c = sound.some h fits in
      subst (λ u. Claims before u h) (hands.goes_on.sound.one h c.0 t fits (hands.claims c.0 h fits c.1 (λ is. outside)) claims) c.1
]

-- ---- slots that are taken
module _ (shape : Shape) (medium : Words) (i x : ℕ) where
  -- one stays so whose header is not stored, or not with that of a free slot
  taken_still : (n : ℕ) → (head_at shape n + 1 ≡ i → state_in x ≢ free) → IsTakenSlot (frame_of shape medium) n → IsTakenSlot (frame_of shape (with_word medium i x)) n
  taken_still n some was = record {
    slot = was.slot;
    taken = elim (cases_eq (head_at shape n + 1) i) [
      | inl e ↦ λ is. some e (sym (ap state_in (ap (with_word medium i x) e ∙ replaced_same medium i x)) ∙ is)
      | inr apart ↦ λ is. was.taken (sym (ap state_in (replaced_other medium i x (head_at shape n + 1) apart)) ∙ is)
    ];
  }

  -- so all do
  frees_none : ((n : ℕ) → IsTakenSlot (frame_of shape medium) n → head_at shape n + 1 ≡ i → state_in x ≢ free) → (fact : Fact) → FreesNone shape medium i x fact
  frees_none some (Taken n) = λ was. taken_still n (some n was) was
  frees_none some (Lives s) = tt
  frees_none some (Current s) = tt
  frees_none some (Rooted e) = tt
  frees_none some (Owns s d p) = tt
  frees_none some (Lacks s d p) = tt
  frees_none some (Deep f d p) = tt
  frees_none some (Begins s h) = tt
  frees_none some (Used n) = tt

  -- and all but one
  frees_one : (t : ℕ) → i ≡ head_at shape t + 1 → (fact : Fact) → fact ≢ Taken t → FreesNone shape medium i x fact
  frees_one t at (Taken n) other = λ was. taken_still n (λ e. absurd (other (ap Taken (same n e)))) was
    where
      same : (n : ℕ) → head_at shape n + 1 ≡ i → n ≡ t
      same n e = omega (arith, e, at)
  frees_one t at (Lives s) other = tt
  frees_one t at (Current s) other = tt
  frees_one t at (Rooted e) other = tt
  frees_one t at (Owns s d p) other = tt
  frees_one t at (Lacks s d p) other = tt
  frees_one t at (Deep f d p) other = tt
  frees_one t at (Begins s h) other = tt
  frees_one t at (Used n) other = tt

module _ (shape : Shape) (version : ℕ) (words medium : Words) (sound : AreSound shape words medium) where
  low : words root_word ≤ shape.depth
  low = sound.newest.root

  front : 32 ≤ first_segment shape
  front = omega arith

  -- KEPT CLAIMS
  pub spares : (i x : ℕ) → Spares shape version words medium i x → (fact : Fact) → FreesNone shape medium i x fact → KeepsFact shape version words medium i x fact
  spares i x is fact none =
      keeps_fact shape version words medium i x is.newest.goes_on is.current is.root is.entries is.there.goes_on is.used
      (λ s h fits live. kept_back shape.depth sound.shape_fits.depth (frame_of shape medium) (frame_of shape (with_word medium i x)) sound.there is.there s h fits)
      fact (stay fact none)
    where
      stay : (fact : Fact) → FreesNone shape medium i x fact → StaysSo shape medium (with_word medium i x) fact
      stay (Lives s) none = tt
      stay (Current s) none = tt
      stay (Rooted e) none = tt
      stay (Owns s d p) none = λ claims h fits covers. is.there.claims s h fits (claims h fits covers)
      stay (Lacks s d p) none = tt
      stay (Deep f d p) none = tt
      stay (Begins s h) none = tt
      stay (Used n) none = tt
      stay (Taken n) none = none

  -- where no header of a taken slot is stored
  spares_all : (i x : ℕ) → Spares shape version words medium i x → ((n : ℕ) → IsTakenSlot (frame_of shape medium) n → head_at shape n + 1 ≡ i → ⊥) → KeepsFacts shape version words medium i x
  spares_all i x is apart fact = spares i x is fact (frees_none shape medium i x (λ n was e. absurd (apart n was e)) fact)

  -- no entry lies among the segments
  entry_in_front : (i : ℕ) → IsEntry words i → i < first_segment shape
  entry_in_front i is = omega (arith, is.4, entry_before shape is.0 is.1 (omega (arith, is.2, low)) is.3)

  -- A HEADER
  module _ (t x : ℕ) where
    abbrev at : ℕ
    at = head_at shape t + 1

    header : StoreKeeps shape words at x → StoreKeeps shape medium at x → (IsCurrentSlot (frame_of shape words) version t → version_in x ≡ version)
        → ((s n : ℕ) → IsNewSide (frame_of shape medium) version s n → ((s ≢ t) × (n ≢ t)) ⊎ IsUsedSlot (frame_of shape (with_word medium at x)) version n)
        → (fact : Fact) → FreesNone shape medium at x fact → KeepsFact shape version words medium at x fact
    header newest there current side fact none = spares at x (record {
      newest = newest;
      there = there;
      current = λ s is same. current (subst (IsCurrentSlot (frame_of shape words) version) (one_slot s same) is);
      root = λ e. absurd (omega (arith, e, front));
      entries = λ is. absurd (omega (arith, entry_in_front at is));
      used = λ s n is. elim (side s n is) [
        | inl apart ↦ side_apart shape version medium at x s n (λ e. apart.0 (omega (arith, e))) (λ e. omega (arith, e)) (λ e. apart.1 (omega (arith, e))) is
        | inr used ↦ used
      ];
    }) fact none
      where
        one_slot : (s : ℕ) → at ≡ head_at shape s + 1 → s ≡ t
        one_slot s e = omega (arith, e)

    -- a header that is not that of a free slot, if the slot was not free
    takes_none : (state_at (frame_of shape medium) t ≢ free → state_in x ≢ free) → (fact : Fact) → FreesNone shape medium at x fact
    takes_none some = frees_none shape medium at x (λ n was e. some (λ is. was.taken (ap (state_at (frame_of shape medium)) (one_slot n e) ∙ is)))
      where
        one_slot : (n : ℕ) → head_at shape n + 1 ≡ at → n ≡ t
        one_slot n e = omega (arith, e)

  pub takes : (n x : ℕ) → Both words medium (λ word. TakesSlot (frame_of shape word) shape.depth n x) → KeepsFacts shape version words medium (head_at shape n + 1) x
  takes n x may fact = header n x (takes_slot shape words sound.shape_fits sound.newest n x may.0) (takes_slot shape medium sound.shape_fits sound.there n x may.1)
      (λ is. absurd (not_live (frame_of shape words) n free may.0.was (λ e. omega (arith, e)) (λ e. omega (arith, e)) is.live.live))
      (λ s m side. inl (
        other_slot (frame_of shape medium) s n splitting free side.splits may.1.was (λ e. omega (arith, e)),
        other_slot (frame_of shape medium) m n fresh free side.new may.1.was (λ e. omega (arith, e)),
      ))
      fact (takes_none n x (λ was e. omega (arith, may.1.becomes, e)) fact)

  pub frees : (n x : ℕ) → Both words medium (λ word. FreesSlot (frame_of shape word) n x) → ((s : ℕ) → IsNewSide (frame_of shape medium) version s n → ⊥)
      → (fact : Fact) → fact ≢ Taken n → KeepsFact shape version words medium (head_at shape n + 1) x fact
  frees n x may unused fact other = header n x (frees_slot shape words sound.shape_fits sound.newest n x may.0) (frees_slot shape medium sound.shape_fits sound.there n x may.1)
      (λ is. absurd (not_live (frame_of shape words) n fresh may.0.was (λ e. omega (arith, e)) (λ e. omega (arith, e)) is.live.live))
      (λ s m side. inl (
        other_slot (frame_of shape medium) s n splitting fresh side.splits may.1.was (λ e. omega (arith, e)),
        λ same. unused s (subst (IsNewSide (frame_of shape medium) version s) same side),
      ))
      fact (frees_one shape medium (head_at shape n + 1) x n refl fact other)

  pub begins : (s x : ℕ) → Both words medium (λ word. BeginsSplit (frame_of shape word) s x) → KeepsVersion shape version s x words
      → KeepsFacts shape version words medium (head_at shape s + 1) x
  begins s x may keeps fact = header s x (begins_split shape words sound.shape_fits sound.newest s x may.0) (begins_split shape medium sound.shape_fits sound.there s x may.1)
      (λ is. keeps is.current)
      (λ t m side. inl (
        other_slot (frame_of shape medium) t s splitting normal side.splits may.1.was (λ e. omega (arith, e)),
        other_slot (frame_of shape medium) m s fresh normal side.new may.1.was (λ e. omega (arith, e)),
      ))
      fact (takes_none s x (λ was e. omega (arith, may.1.becomes, e)) fact)

  -- the linked slot of a segment with a ready side is live, so it is no new one
  no_new_side : (s n : ℕ) → HasReadySide (frame_of shape medium) s → IsNewSide (frame_of shape medium) version s n → ⊥
  no_new_side s n ready side =
      let same : ready.0 ≡ n = omega (arith, ready.1.named, side.linked) in
      not_live (frame_of shape medium) n fresh side.new (λ e. omega (arith, e)) (λ e. omega (arith, e)) (subst (IsLive (frame_of shape medium)) same ready.1.live)

  pub ends : (s x : ℕ) → Both words medium (λ word. EndsSplit (frame_of shape word) s x) → KeepsVersion shape version s x words
      → KeepsFacts shape version words medium (head_at shape s + 1) x
  ends s x may keeps fact = header s x (ends_split shape words sound.shape_fits sound.newest s x may.0) (ends_split shape medium sound.shape_fits sound.there s x may.1)
      (λ is. keeps is.current)
      (λ t m side. inl (
        (λ same. no_new_side s m may.1.ready (subst (λ u. IsNewSide (frame_of shape medium) version u m) same side)),
        other_slot (frame_of shape medium) m s fresh splitting side.new may.1.was (λ e. omega (arith, e)),
      ))
      fact (takes_none s x (λ was e. omega (arith, may.1.becomes, e)) fact)

  pub drops : (s x : ℕ) → Both words medium (λ word. DropsSplit (frame_of shape word) s x) → KeepsVersion shape version s x words
      → ((n : ℕ) → IsNewSide (frame_of shape medium) version s n → ⊥) → KeepsFacts shape version words medium (head_at shape s + 1) x
  drops s x may keeps none fact = header s x (drops_split shape words sound.shape_fits sound.newest s x may.0) (drops_split shape medium sound.shape_fits sound.there s x may.1)
      (λ is. keeps is.current)
      (λ t m side. inl (
        (λ same. none m (subst (λ u. IsNewSide (frame_of shape medium) version u m) same side)),
        other_slot (frame_of shape medium) m s fresh splitting side.new may.1.was (λ e. omega (arith, e)),
      ))
      fact (takes_none s x (λ was e. omega (arith, may.1.becomes, e)) fact)

  -- THE VERSION BYTE ALONE
  module _ (s x : ℕ) (may : Both words medium (λ word. Renews (frame_of shape word) s x)) (keeps : Both words medium (KeepsVersion shape version s x)) where
    abbrev before : Frame
    before = frame_of shape medium

    abbrev after : Frame
    after = frame_of shape (with_word medium (head_at shape s + 1) x)

    stored : HeaderStored before after s x
    stored = header_stored shape medium sound.there.root s x

    same_field : (f : ℕ → ℕ) → f x ≡ f (before.header s) → (u : ℕ) → u < shape.segments → f (after.header u) ≡ f (before.header u)
    same_field f is u slot = elim (cases_eq u s) [
      | inl e ↦ ap (λ w. f (after.header w)) e ∙ ap f stored.here ∙ is ∙ ap (λ w. f (before.header w)) (sym e)
      | inr apart ↦ ap f (stored.others u slot apart)
    ]

    current_still : (t : ℕ) → t < shape.segments → version_in (before.header t) ≡ version → version_in (after.header t) ≡ version
    current_still t slot is = elim (cases_eq t s) [
      | inl e ↦ ap (λ w. version_in (after.header w)) e ∙ ap version_in stored.here ∙ keeps.1 (ap (λ w. version_in (before.header w)) (sym e) ∙ is)
      | inr apart ↦ ap version_in (stored.others t slot apart) ∙ is
    ]

    side_still : (t m : ℕ) → IsNewSide before version t m → IsNewSide after version t m
    side_still t m side =
        side_moved before after version t m refl (same_field state_in may.1.becomes t side.slot) (current_still t side.slot side.current) (stored.links t side.slot)
        (same_field depth_in may.1.region.depth t side.slot) (same_field pattern_in may.1.region.pattern t side.slot)
        (same_field state_in may.1.becomes m side.side_slot) (same_field depth_in may.1.region.depth m side.side_slot)
        (same_field pattern_in may.1.region.pattern m side.side_slot) side

    pub renewed : KeepsFacts shape version words medium (head_at shape s + 1) x
    renewed fact = header s x (renews shape words sound.shape_fits sound.newest s x may.0) (renews shape medium sound.shape_fits sound.there s x may.1)
        (λ is. keeps.0 is.current) (λ t m side. inr (inr (t, side_still t m side))) fact (takes_none s x (λ was e. was (sym may.1.becomes ∙ e)) fact)

  -- A LINK
  pub linked : (s l : ℕ) → Both words medium (λ word. Links (frame_of shape word) s l) → KeepsFacts shape version words medium (head_at shape s + 2) l
  linked s l may = spares_all (head_at shape s + 2) l (record {
    newest = links shape words sound.shape_fits sound.newest s l may.0;
    there = links shape medium sound.shape_fits sound.there s l may.1;
    current = λ t is e. absurd (omega (arith, e));
    root = λ e. absurd (omega (arith, e, front));
    entries = λ is. absurd (omega (arith, entry_in_front (head_at shape s + 2) is));
    used = λ t n side.
        side_apart shape version medium (head_at shape s + 2) l t n (λ e. omega (arith, e)) (λ e. splits_not t (one_slot t e) side.splits) (λ e. omega (arith, e)) side;
  }) (λ n was e. omega (arith, e))
    where
      one_slot : (t : ℕ) → head_at shape t + 2 ≡ head_at shape s + 2 → t ≡ s
      one_slot t e = omega (arith, e)

      splits_not : (t : ℕ) → t ≡ s → state_at (frame_of shape medium) t ≡ splitting → ⊥
      splits_not t same is = may.1.not_splitting (ap (state_at (frame_of shape medium)) (sym same) ∙ is)

  -- THE ROOT AND ITS ENTRIES
  pub doubled : HaveOneRoot shape words medium → Both words medium (Doubles shape) → KeepsFacts shape version words medium root_word (words root_word + 1)
  doubled one may = spares_all root_word (words root_word + 1) (record {
    newest = doubles shape words sound.shape_fits sound.newest may.0;
    there = subst (λ r. StoreKeeps shape medium root_word (r + 1)) one (doubles shape medium sound.shape_fits sound.there may.1);
    current = λ s is e. absurd (omega (arith, e, front));
    root = λ e. omega arith;
    entries = λ is. absurd (omega (arith, is.4));
    used = λ s n side. side_apart shape version medium root_word (words root_word + 1) s n
        (λ e. omega (arith, e, front)) (λ e. omega (arith, e, front)) (λ e. omega (arith, e, front)) side;
  }) (λ n was e. omega (arith, e, front))

  -- an entry of the root's area, which names what lives
  module _ (i n : ℕ) (below : i < 2 ^ words root_word) where
    abbrev place : ℕ
    place = entry_at (words root_word) i

    before_segments : place < first_segment shape
    before_segments = entry_before shape (words root_word) i low below

    named : StoreKeeps shape words place n → StoreKeeps shape medium place n → IsLiveSlot (frame_of shape medium) n → KeepsFacts shape version words medium place n
    named newest there live = spares_all place n (record {
      newest = newest;
      there = there;
      current = λ s is e. absurd (omega (arith, e, before_segments));
      root = λ e. absurd (omega (arith, e));
      entries = λ is. live;
      used = λ s m side. side_apart shape version medium place n s m
          (λ e. omega (arith, e, before_segments)) (λ e. omega (arith, e, before_segments)) (λ e. omega (arith, e, before_segments)) side;
    }) (λ m was e. omega (arith, e, before_segments))

  pub named_claimer : HaveOneRoot shape words medium → (i n : ℕ) → Both words medium (λ word. NamesClaimer (frame_of shape word) i n)
      → KeepsFacts shape version words medium (entry_at (words root_word) i) n
  named_claimer one i n may = named i n may.0.index (names_claimer shape words sound.shape_fits sound.newest i n may.0)
      (subst (λ r. StoreKeeps shape medium (entry_at r i) n) one (names_claimer shape medium sound.shape_fits sound.there i n may.1))
      (record { slot = claims.live.slot; live = claims.live.live })
    where
      small : medium root_word ≤ 64
      small = omega (arith, one, low, sound.shape_fits.depth)

      claims : Claims (frame_of shape medium) n (first (medium root_word) i)
      claims = may.1.claims (first (medium root_word) i) (first_fits (medium root_word) i small may.1.index) (top_of_first (medium root_word) i)

  pub named_side : HaveOneRoot shape words medium → (s n i : ℕ) → Both words medium (λ word. NamesSide (frame_of shape word) s n i)
      → KeepsFacts shape version words medium (entry_at (words root_word) i) n
  named_side one s n i may = named i n may.0.index (names_side shape words sound.shape_fits sound.newest s n i may.0)
      (subst (λ r. StoreKeeps shape medium (entry_at r i) n) one (names_side shape medium sound.shape_fits sound.there s n i may.1))
      (record { slot = may.1.side.slot; live = may.1.side.live })

  -- ANY OTHER WORD
  pub untouched : (i x : ℕ) → Both words medium (λ word. IsFrameWord shape word i → ⊥) → (IsEntry words i → ⊥) → KeepsFacts shape version words medium i x
  untouched i x apart no_entry = spares_all i x (record {
    newest = stores_apart shape words sound.shape_fits sound.newest i x apart.0;
    there = stores_apart shape medium sound.shape_fits sound.there i x apart.1;
    current = λ s is e. absurd (apart.0 (inr (inr (inl (s, is.live.slot, inl e)))));
    root = λ e. absurd (apart.0 (inl e));
    entries = λ is. absurd (no_entry is);
    used = λ s n side. side_apart shape version medium i x s n
        (λ e. apart.1 (inr (inr (inl (s, side.slot, inl (sym e))))))
        (λ e. apart.1 (inr (inr (inl (s, side.slot, inr (sym e))))))
        (λ e. apart.1 (inr (inr (inl (n, side.side_slot, inl (sym e)))))) side;
  }) (λ n was e. apart.1 (inr (inr (inl (n, was.slot, inl (sym e))))))

  -- an entry of an area that no root has come to
  pub deeper_area : HaveOneRoot shape words medium → (e i x : ℕ) → words root_word < e → e ≤ shape.depth → i < 2 ^ e
      → KeepsFacts shape version words medium (entry_at e i) x
  deeper_area one e i x above within below = untouched (entry_at e i) x (
    other_areas_apart shape words low e i within below (λ same. omega (arith, same, above)),
    other_areas_apart shape medium sound.there.root e i within below (λ same. omega (arith, same, one, above)),
  ) no_entry
    where
      other_area : (d k : ℕ) → d ≤ words root_word → k < 2 ^ d → entry_at e i ≡ entry_at d k → ⊥
      other_area d k at_most inside same =
          other_areas_apart shape (with_word words root_word d) (subst (λ r. r ≤ shape.depth) (sym (replaced_same words root_word d)) (omega (arith, at_most, low))) e i within below
          (λ is. not_below d at_most (is ∙ replaced_same words root_word d))
          (inr (inr (inr (
            k,
            subst (λ r. k < 2 ^ r) (sym (replaced_same words root_word d)) inside,
            same ∙ ap (λ r. entry_at r k) (sym (replaced_same words root_word d)),
          ))))
        where
          not_below : (d : ℕ) → d ≤ words root_word → e ≡ d → ⊥
          not_below d at_most is = omega (arith, at_most, is, above)

      no_entry : IsEntry words (entry_at e i) → ⊥
      no_entry is = other_area is.0 is.1 is.2 is.3 is.4

  -- a word of a bucket
  pub in_bucket : (s b n x : ℕ) → b < buckets → n < block → KeepsFacts shape version words medium (bucket_at shape s b + n) x
  in_bucket s b n x bucket inside = untouched (bucket_at shape s b + n) x
      (buckets_apart shape words low s b n bucket inside, buckets_apart shape medium sound.there.root s b n bucket inside)
      (λ is. omega (arith, entry_in_front (bucket_at shape s b + n) is))

  -- A SIDE GOES LIVE
  module _ (s n x : ℕ) (may : Both words medium (λ word. GoesLive (frame_of shape word) s n x)) where
    abbrev there_before : Frame
    there_before = frame_of shape medium

    abbrev there_after : Frame
    there_after = frame_of shape (with_word medium (head_at shape n + 1) x)

    hands : StoreHandsOver shape medium s n (head_at shape n + 1) x
    hands = goes_live shape medium sound.shape_fits sound.there s n x may.1

    this_slot : (t : ℕ) → head_at shape n + 1 ≡ head_at shape t + 1 → t ≡ n
    this_slot t e = omega (arith, e)

    new_in_words : (t : ℕ) → t ≡ n → IsLive (frame_of shape words) t → ⊥
    new_in_words t same live =
        not_live (frame_of shape words) n fresh may.0.was (λ e. omega (arith, e)) (λ e. omega (arith, e)) (subst (IsLive (frame_of shape words)) same live)

    new_in_medium : (t : ℕ) → t ≡ n → IsLive there_before t → ⊥
    new_in_medium t same live =
        not_live there_before n fresh may.1.was (λ e. omega (arith, e)) (λ e. omega (arith, e)) (subst (IsLive there_before) same live)

    live_now : IsLiveSlot there_after n
    live_now = record { slot = may.1.side_slot; live = inl (ap state_in (replaced_same medium (head_at shape n + 1) x) ∙ may.1.becomes) }

    used_now : (t m : ℕ) → IsNewSide there_before version t m → IsUsedSlot there_after version m
    used_now t m side = elim (cases_eq m n) [
      | inl same ↦ inl (subst (IsLiveSlot there_after) (sym same) live_now)
      | inr apart ↦
          let other : t ≢ n = other_slot there_before t n splitting fresh side.splits may.1.was (λ e. omega (arith, e)) in
          side_apart shape version medium (head_at shape n + 1) x t m (λ e. other (omega (arith, e))) (λ e. omega (arith, e)) (λ e. apart (omega (arith, e))) side
    ]

    spared : (fact : Fact) → ClaimsNoneOfSide there_before s fact → StaysSo shape medium (with_word medium (head_at shape n + 1) x) fact
    spared (Lives t) none = tt
    spared (Current t) none = tt
    spared (Rooted e) none = tt
    spared (Owns t d p) none = λ claims h fits covers. hands.claims t h fits (claims h fits covers) (λ same inside. none same h fits covers inside)
    spared (Lacks t d p) none = tt
    spared (Deep f d p) none = tt
    spared (Begins t h) none = tt
    spared (Used m) none = tt
    spared (Taken m) none = λ was. taken_still shape medium (head_at shape n + 1) x m (λ _ e. omega (arith, may.1.becomes, e)) was

    pub went_live : (fact : Fact) → ClaimsNoneOfSide there_before s fact → KeepsFact shape version words medium (head_at shape n + 1) x fact
    went_live fact none =
        keeps_fact shape version words medium (head_at shape n + 1) x (goes_live shape words sound.shape_fits sound.newest s n x may.0).goes_on
        (λ t is e. absurd (new_in_words t (this_slot t e) is.live.live)) (λ e. absurd (omega (arith, e, front)))
        (λ is. absurd (omega (arith, entry_in_front (head_at shape n + 1) is))) hands.goes_on used_now
        (λ t h fits live. handed_back shape.depth there_before there_after sound.there s n hands t h fits (λ e. new_in_medium t e live.live))
        fact (spared fact none)
