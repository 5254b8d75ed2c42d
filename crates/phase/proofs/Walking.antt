-- The way: what it wants is of its kind, who relies on what it loaded may take it, it keeps that, and leaves all else of the view as it was.
use Rattle.std.proofs.Common.{◌≡◌, ℕ, ◌+◌, ◌^◌, ◌<◌, ◌≤◌, Bool, true, false, List, [], ◌∷◌, ◌++◌, Option, None, inl, inr, refl, sym, ap, ◌∙◌, subst, arith}
use Rattle.std.specs.Prelude.{◌==◌, ◌&&◌, nat_lt, nat_le, if◌then◌else◌}
use Rattle.std.proofs.lemmas.Bool.{le-leb, lt-ltb, leb-true, ltb-false, leb-false, eqb-false, both_ways, cond_both}
use Rattle.hash_word.specs.Hash.{index_of}
use Rattle.segment_head.specs.HeadWord.{version_in, is_live, HasLiveState}
use Rattle.segment_head.proofs.Headers.{live_test}
use Rattle.trace.specs.Events.{Words}
use Rattle.image_layout.specs.Places.{Shape, IsShape, root_word, entry_at, head_at}
use Rattle.sound_image.specs.Segments.{frame_of}
use Rattle.world.specs.Facts.{Fact, Lives, Current, Rooted, IsLiveSlot}
use Rattle.way.specs.Ways.{entry_word, head_word}
use Rattle.way.proofs.Indexes.{index_below}
use Rattle.op_core.specs.declared.want.Want.TheVariants.{Load}
use Rattle.world.specs.declared.site.Site.{Site}
use Rattle.world.specs.Ground.{Ground, version_of}
use Rattle.world.specs.Views.{Glance, Answer, View, Has}
use Rattle.world.specs.Wants.{word_of}
use Rattle.world.specs.Kinds.{Kind, peeks, meets_entry, meets_head, says_current, wanted as wanted_by, view_after}
use Rattle.world.specs.Conditions.{May, IsNewest}
use Rattle.part.specs.Part.{IsKnownLive}
use Rattle.phase.specs.declared.walk.Walk.{Walk}
use Rattle.phase.specs.declared.walk.Walk.TheVariants.{Power, Root, Entry, Head}
use Rattle.phase.specs.declared.walk.Walked.{Walked}
use Rattle.phase.specs.declared.walk.Walked.TheVariants.{On, There, Off, Amiss, Stale}
use Rattle.phase.specs.Walks.{walk_wanted, walk_taken}
use Rattle.phase.specs.Stands.{walk_kind, IsCurrent, IsWalking, HasWalked, IsBare, HasBegun, head_note, NotesWay, IsButWay, walk_left, walked_left}
use Rattle.phase.specs.Laws.{WalkFits, WalkStands, WalkNotes, WalkNeverStale}
use Rattle.phase.proofs.locks.Choosing.{by_both}

-- ---- its events
-- a word is asked for where the image has it, and else the root's
asks_if : (shape : Shape) (b : Bool) (i : ℕ) (k : Kind) → Load i ≡ wanted_by shape k → Load (if b then i else root_word) ≡ wanted_by shape (if b then k else peeks root_word)
asks_if shape true i k is = is
asks_if shape false i k is = refl

may_if : (site : Ground) (v : View) (b : Bool) (k : Kind) → May site k v → May site (if b then k else peeks root_word) v
may_if site v true k may = may
may_if site v false k may = tt

but_way_if : (shape : Shape) (n : ℕ) (v : View) (b : Bool) (k : Kind) → IsButWay v (view_after shape k n v) → IsButWay v (view_after shape (if b then k else peeks root_word) n v)
but_way_if shape n v true k is = is
but_way_if shape n v false k is = refl

module _ (shape : Shape) (here : Site) (hash : ℕ) where
  pub walk_wants : (w : Walk) → here.geometry ≡ shape → walk_wanted here hash w ≡ wanted_by shape (walk_kind here hash w)
  walk_wants Power same = refl
  walk_wants Root same = refl
  walk_wants (Entry root) same = asks_if shape (nat_le root here.geometry.depth) (entry_at root (index_of root hash)) (meets_entry root (index_of root hash)) refl
  walk_wants (Head root segment) same =
      asks_if shape (nat_lt segment here.geometry.segments) (head_at here.geometry segment + 1) (meets_head segment here.version) (ap (λ (g : Shape). Load (head_at g segment + 1)) same)

  pub walk_leaves : (w : Walk) (n : ℕ) (v : View) → IsButWay v (view_after shape (walk_kind here hash w) n v)
  walk_leaves Power n v = refl
  walk_leaves Root n v = refl
  walk_leaves (Entry root) n v = but_way_if shape n v (nat_le root here.geometry.depth) (meets_entry root (index_of root hash)) refl
  walk_leaves (Head root segment) n v = but_way_if shape n v (nat_lt segment here.geometry.segments) (meets_head segment here.version) refl

  -- what is said of a view whatever it relies on and has noted, stays
  pub walk_keeps : (P : View → Type 0) (w : Walk) (n : ℕ) (v : View)
      → ((facts : List Fact) (notes : List Glance) (answer : Option Answer) → P (record v { facts = facts; notes = notes; answer = answer }))
      → P (view_after shape (walk_kind here hash w) n v)
  walk_keeps P w n v p =
      let u : View = view_after shape (walk_kind here hash w) n v in
      subst P (sym (walk_leaves w n v)) (p u.facts u.notes u.answer)

module _ (site : Ground) (here : Site) (hash : ℕ) where
  pub walk_may : (w : Walk) (v : View) → IsShape site.shape → here.geometry ≡ site.shape → here.version ≡ version_of site → hash < 2 ^ 64
      → IsWalking site w v.facts → May site (walk_kind here hash w) v
  walk_may Power v is same current fits known = tt
  walk_may Root v is same current fits known = tt
  walk_may (Entry root) v is same current fits known =
      let most = is.depth in
      let low = known.1 in
      may_if site v (nat_le root here.geometry.depth) (meets_entry root (index_of root hash)) (known.0, low, index_below root hash (omega (arith, most, low)) fits)
  walk_may (Head root segment) v is same current fits known = may_if site v (nat_lt segment here.geometry.segments) (meets_head segment here.version) (known.lives, current)

pub walk_fits : WalkFits
walk_fits = record { wants = walk_wants; may = walk_may; leaves = walk_leaves }

-- ---- what a header makes of the way
module _ (P : Walked → Type 0) (here : Site) (hash root segment n : ℕ) where
  abbrev there : Walked
  there = There (record { root = root; segment = segment; head = n })

  abbrev stale : Walked
  stale = Stale segment (version_in n)

  abbrev amiss : Walked
  amiss = Amiss (head_word here.geometry segment) n

  pub by_head : (is_live n ≡ true → (version_in n == here.version) ≡ true → P there) → (is_live n ≡ true → (version_in n == here.version) ≡ false → P stale) → (is_live n ≡ false → P amiss)
      → P (walk_taken here hash (Head root segment) n)
  by_head current old dead =
      cond_both (is_live n) (if version_in n == here.version then there else stale) amiss P
      (λ live. cond_both (version_in n == here.version) there stale P (λ is. current live is) (λ is. old live is)) dead

pub walk_falls : (here : Site) (hash : ℕ) (w : Walk) (n : ℕ) → walked_left (walk_taken here hash w n) < walk_left w
walk_falls here hash Power n = by_both (λ (x : Walked). walked_left x < 4) (n == 0) (On Root) Off (omega arith) (omega arith)
walk_falls here hash Root n = by_both (λ (x : Walked). walked_left x < 3) (nat_le n here.geometry.depth) (On (Entry n)) (Amiss root_word n) (omega arith) (omega arith)
walk_falls here hash (Entry root) n =
    by_both (λ (x : Walked). walked_left x < 2) (nat_lt n here.geometry.segments) (On (Head root n)) (Amiss (entry_word here.geometry hash root) n) (omega arith) (omega arith)
walk_falls here hash (Head root segment) n = by_head (λ x. walked_left x < 1) here hash root segment n (λ live is. omega arith) (λ live is. omega arith) (λ dead. omega arith)

-- at most so many events
pub walk_few : (w : Walk) → walk_left w ≤ 4
walk_few Power = omega arith
walk_few Root = omega arith
walk_few (Entry root) = omega arith
walk_few (Head root segment) = omega arith

module _ (site : Ground) (here : Site) (hash : ℕ) (same : here.geometry ≡ site.shape) where
  depth_is : here.geometry.depth ≡ site.shape.depth
  depth_is = ap (λ (g : Shape). g.depth) same

  segments_are : here.geometry.segments ≡ site.shape.segments
  segments_are = ap (λ (g : Shape). g.segments) same

  entry_there : (root : ℕ) → root ≤ site.shape.depth → nat_le root here.geometry.depth ≡ true
  entry_there root low = le-leb root here.geometry.depth (let d = depth_is in omega (arith, d, low))

  head_there : (segment : ℕ) → segment < site.shape.segments → nat_lt segment here.geometry.segments ≡ true
  head_there segment within = lt-ltb segment here.geometry.segments (let s = segments_are in omega (arith, s, within))

  -- ---- the words that are asked for
  entry_is : (root : ℕ) → root ≤ site.shape.depth → entry_word here.geometry hash root ≡ entry_at root (index_of root hash)
  entry_is root low = ap (λ b. if b then entry_at root (index_of root hash) else root_word) (entry_there root low)

  pub head_is : (segment : ℕ) → segment < site.shape.segments → head_word here.geometry segment ≡ head_at site.shape segment + 1
  head_is segment within =
      ap (λ b. if b then head_at here.geometry segment + 1 else root_word) (head_there segment within)
      ∙ ap (λ (g : Shape). head_at g segment + 1) same

  -- ---- the view after them
  after_entry : (root n : ℕ) (v : View) → root ≤ site.shape.depth → view_after site.shape (walk_kind here hash (Entry root)) n v ≡ record v { facts = Lives n ∷ v.facts }
  after_entry root n v low = ap (λ b. view_after site.shape (if b then meets_entry root (index_of root hash) else peeks root_word) n v) (entry_there root low)

  after_head : (root segment n : ℕ) (v : View) → segment < site.shape.segments
      → view_after site.shape (walk_kind here hash (Head root segment)) n v ≡ view_after site.shape (meets_head segment here.version) n v
  after_head root segment n v within = ap (λ b. view_after site.shape (if b then meets_head segment here.version else peeks root_word) n v) (head_there segment within)

  -- a header that is current says so
  says : (segment n : ℕ) (facts : List Fact) → is_live n ≡ true → (version_in n == here.version) ≡ true
      → Has (Current segment) (says_current (is_live n && (version_in n == here.version)) segment n ++ facts)
  says segment n facts live is = subst (λ b. Has (Current segment) (says_current b segment n ++ facts)) (sym (ap (λ b. b && (version_in n == here.version)) live ∙ is)) (inl refl)

  said : (b : Bool) (segment n : ℕ) (fact : Fact) (facts : List Fact) → Has fact facts → Has fact (says_current b segment n ++ facts)
  said true segment n fact facts has = inr (inr has)
  said false segment n fact facts has = has

  -- WHAT A VIEW RELIES ON is kept by each event
  module _ (words : Words) (v : View) (is : IsShape site.shape) (fits : hash < 2 ^ 64) (new : IsNewest site v words) where
    root_low : words root_word ≤ site.shape.depth
    root_low = new.structure.sound.root

    -- the entries of a depth that is relied on name segments that are live
    named : (root : ℕ) → Has (Rooted root) v.facts → root ≤ site.shape.depth → IsLiveSlot (frame_of site.shape words) (words (entry_word here.geometry hash root))
    named root has low =
        let most = is.depth in
        subst (λ i. IsLiveSlot (frame_of site.shape words) (words i)) (sym (entry_is root low))
        ((new.says (Rooted root) has).1 (index_of root hash) (index_below root hash (omega (arith, most, low)) fits))

    walk_on : (w : Walk) → IsWalking site w v.facts → (n : ℕ) → n ≡ words (word_of site.shape (walk_wanted here hash w))
        → HasWalked site (walk_taken here hash w n) (view_after site.shape (walk_kind here hash w) n v).facts
    walk_on Power known n found = by_both (λ (x : Walked). HasWalked site x v.facts) (n == 0) (On Root) Off tt tt
    walk_on Root known n found =
        cond_both (nat_le n here.geometry.depth) (On (Entry n)) (Amiss root_word n) (λ (x : Walked). HasWalked site x (Rooted n ∷ v.facts))
        (λ t. let low = leb-true n here.geometry.depth t in let d = depth_is in (inl refl, omega (arith, low, d)))
        (λ f. let high = leb-false n here.geometry.depth f in let d = depth_is in let r = root_low in omega (arith, high, found, d, r))
    walk_on (Entry root) known n found =
        let live : IsLiveSlot (frame_of site.shape words) n = subst (IsLiveSlot (frame_of site.shape words)) (sym found) (named root known.0 known.1) in
        subst (λ (u : View). HasWalked site (walk_taken here hash (Entry root) n) u.facts) (sym (after_entry root n v known.1))
        (cond_both (nat_lt n here.geometry.segments) (On (Head root n)) (Amiss (entry_word here.geometry hash root) n) (λ (x : Walked). HasWalked site x (Lives n ∷ v.facts))
        (λ t. record { within = live.slot; lives = inl refl })
        (λ f. let high = ltb-false n here.geometry.segments f in let s = segments_are in let within = live.slot in omega (arith, high, s, within)))
    walk_on (Head root segment) known n found =
        let live = (new.says (Lives segment) known.lives).live in
        let header : n ≡ words (head_at site.shape segment + 1) = found ∙ ap words (head_is segment known.within) in
        let facts : List Fact = says_current (is_live n && (version_in n == here.version)) segment n ++ v.facts in
        let known_live : IsKnownLive site segment facts = record { within = known.within; lives = said (is_live n && (version_in n == here.version)) segment n (Lives segment) v.facts known.lives } in
        subst (λ (u : View). HasWalked site (walk_taken here hash (Head root segment) n) u.facts) (sym (after_head root segment n v known.within))
        (by_head (λ x. HasWalked site x facts) here hash root segment n
        (λ alive current. record { live = known_live; current = says segment n v.facts alive current })
        (λ alive old. known_live)
        (λ dead. both_ways (is_live n) dead (live_test n (subst HasLiveState (sym header) live))))

  -- WHAT IS NOTED: nothing, and at the end the header
  module _ (v : View) where
    bare_if : (b : Bool) (e i n : ℕ) → IsBare v → IsBare (view_after site.shape (if b then meets_entry e i else peeks root_word) n v)
    bare_if true e i n bare = record { notes = bare.notes; answer = bare.answer }
    bare_if false e i n bare = bare

    walk_notes_on : (w : Walk) → IsWalking site w v.facts → HasBegun w v → (n : ℕ) → NotesWay site.shape (walk_taken here hash w n) (view_after site.shape (walk_kind here hash w) n v)
    walk_notes_on Power known bare n = by_both (λ (x : Walked). NotesWay site.shape x (record v { notes = []; answer = None })) (n == 0) (On Root) Off (record { notes = refl; answer = refl }) tt
    walk_notes_on Root known bare n =
        by_both (λ (x : Walked). NotesWay site.shape x (record v { facts = Rooted n ∷ v.facts })) (nat_le n here.geometry.depth) (On (Entry n)) (Amiss root_word n)
        (record { notes = bare.notes; answer = bare.answer }) tt
    walk_notes_on (Entry root) known bare n =
        by_both (λ (x : Walked). NotesWay site.shape x (view_after site.shape (walk_kind here hash (Entry root)) n v)) (nat_lt n here.geometry.segments) (On (Head root n))
        (Amiss (entry_word here.geometry hash root) n)
        (bare_if (nat_le root here.geometry.depth) root (index_of root hash) n bare) tt
    walk_notes_on (Head root segment) known bare n =
        subst (λ (u : View). NotesWay site.shape (walk_taken here hash (Head root segment) n) u) (sym (after_head root segment n v known.within))
        (by_head (λ x. NotesWay site.shape x (view_after site.shape (meets_head segment here.version) n v)) here hash root segment n
        (λ alive current. record {
          notes = ap (λ ns. head_note site.shape (record { root = root; segment = segment; head = n }) ∷ ns) bare.notes;
          answer = bare.answer;
        })
        (λ alive old. tt) (λ dead. tt))

  -- where each live segment has the image's version, none is stale
  module _ (words : Words) (facts : List Fact) (current : IsCurrent site.shape words here.version) (segment byte : ℕ) where
    never_by : (w : Walk) → IsWalking site w facts → (n : ℕ) → n ≡ words (word_of site.shape (walk_wanted here hash w)) → walk_taken here hash w n ≡ Stale segment byte → ⊥
    never_by Power known n found = by_both (λ (x : Walked). x ≡ Stale segment byte → ⊥) (n == 0) (On Root) Off (λ e. cc) (λ e. cc)
    never_by Root known n found = by_both (λ (x : Walked). x ≡ Stale segment byte → ⊥) (nat_le n here.geometry.depth) (On (Entry n)) (Amiss root_word n) (λ e. cc) (λ e. cc)
    never_by (Entry root) known n found =
        by_both (λ (x : Walked). x ≡ Stale segment byte → ⊥) (nat_lt n here.geometry.segments) (On (Head root n)) (Amiss (entry_word here.geometry hash root) n) (λ e. cc) (λ e. cc)
    never_by (Head root slot) known n found =
        let header : n ≡ words (head_at site.shape slot + 1) = found ∙ ap words (head_is slot known.within) in
        by_head (λ x. x ≡ Stale segment byte → ⊥) here hash root slot n (λ live is e. cc)
        (λ live old e. eqb-false (version_in n) here.version old (ap version_in header ∙ current slot known.within (subst (λ m. is_live m ≡ true) header live)))
        (λ dead e. cc)

pub walk_stands : WalkStands
walk_stands site here hash words v is same fits new w known n found = walk_on site here hash same words v is fits new w known n found

pub walk_noted : WalkNotes
walk_noted site here hash v same w known begun n = walk_notes_on site here hash same v w known begun n

pub walk_never_stale : WalkNeverStale
walk_never_stale site here hash words facts same current w known n found segment byte e = never_by site here hash same words facts current segment byte w known n found e
