-- Behind an entry comes the next one, and behind the last one all is settled; and what an entry leads to, by the header of the segment that it names.
use Rattle.std.proofs.Common.{◌≡◌, ℕ, suc, ◌+◌, ◌^◌, ◌<◌, ◌≤◌, ◌⊎◌, inl, inr, cond, Option, None, List, refl, sym, ap, ◌∙◌, subst, arith}
use Rattle.std.specs.Prelude.{⊤, min}
use Rattle.std.proofs.lemmas.Bool.{cases_lt, lt-ltb, le-ltb, le-leb, lt-leb}
use Rattle.std.proofs.lemmas.Option.{none-some}
use Rattle.trace.specs.Events.{Words}
use Rattle.op_core.specs.declared.want.Want.{Want}
use Rattle.hash_word.specs.Hash.{first_hash_of}
use Rattle.segment_head.specs.HeadWord.{depth_in, pattern_in, state_in}
use Rattle.image_layout.specs.Places.{Shape, block, root_word, entry_at, first_segment, most_depth}
use Rattle.image_layout.proofs.Areas.{entry_before}
use Rattle.sound_image.specs.Segments.{Frame, frame_of, IsLive}
use Rattle.segment_table.proofs.frames.SoundFrames.{live_pattern}
use Rattle.frame_facts.specs.Facts.{Lives}
use Rattle.way.specs.Ways.{head_word}
use Rattle.map_model.specs.declared.call.Call.{Call}
use Rattle.world.specs.declared.site.Site.{Site}
use Rattle.world.specs.Ground.{Ground, IsGround}
use Rattle.world.specs.Views.{View, Has, IsLoose}
use Rattle.world.specs.areas.Areas.{header_word, link_word}
use Rattle.world.specs.areas.Kinds.{reads, finds_entry, finds_begin, view_then}
use Rattle.world.specs.areas.Asking.{MayBeNewest}
use Rattle.world.specs.areas.Repairing.{IsEntryOfSide}
use Rattle.world.proofs.holders.repairing.Ready.{deeper as root_deeper}
use Rattle.rounds.specs.declared.rounds.Rounds.{Rounds}
use Rattle.rounds.specs.Steps.{rounds_wanted}
use Rattle.rounds.specs.Stands.{IsSettled}
use Rattle.rounds.proofs.Events.{cases_wanted}
use Rattle.rounds.proofs.Settling.{settled_firm, round_same, rounds_settle}
use Rattle.repair_op.specs.declared.guarded.Guarded.{Guarded}
use Rattle.directory_op.specs.Places.{side_first}
use Rattle.directory_op.proofs.Words.{head_is, entry_from}
use Rattle.redirect_op.specs.declared.step.RedirectStep.{RedirectStep}
use Rattle.redirect_op.specs.declared.step.RedirectStep.TheVariants.{Entry, Head, Store}
use Rattle.redirect_op.specs.declared.op.RedirectOp.{RedirectOp}
use Rattle.redirect_op.specs.Steps.{shape_of, side_region_head, last_entry, go, settle_by, behind, rooted_at, rooted, met_head}
use Rattle.redirect_op.specs.Stands.{first_of, IsGuarding, IsOfSide, Names, LeadsBehind, LeadBelow, StandsInRounds, ComesNext, SuitsStep}
use Rattle.redirect_op.proofs.Regions.{is_of_side, first_of as first_entry_of, last_of, first_last, begins_before, begins_behind}
use Rattle.redirect_op.proofs.Holding.{GoesOn, rooted_stays, guarding_stays, behind_stays}

-- a number is below another one, or it is the last before that
pub below_or_last : (j index : ℕ) → j < index + 1 → (j < index) ⊎ (j ≡ index)
below_or_last j index low = elim (cases_lt j index) [ inl less ↦ inl less | inr more ↦ inr (omega (arith, low, more)) ]

-- ---- behind an entry
module _ (site : Ground) (ground : IsGround site) (here : Site) (call : Call) (op : RedirectOp) (index : ℕ) (v : View) (below : LeadBelow site here op.guarded op.root (index + 1) v)
    (of_side : IsOfSide site here op.guarded op.root index) (in_rounds : StandsInRounds site here op.guarded op.root op.rounds v) where
  abbrev g : Guarded
  g = op.guarded

  abbrev StandsAt : RedirectStep → Type 0
  StandsAt step = SuitsStep site here call (go op step) step v

  most : op.root ≤ most_depth
  most = let a = below.rooted.within in let b = ground.shape.depth in omega (arith, a, b)

  next_entry : index < last_entry op → StandsAt (Entry (index + 1))
  next_entry less =
      let from = first_entry_of g.head op.root below.rooted.deeper most below.rooted.fits index of_side in
      record {
        below = below;
        of_side = is_of_side g.head op.root below.rooted.deeper most below.rooted.fits (index + 1) (omega (arith, from)) (omega (arith, less));
        in_rounds = in_rounds;
      }

  -- all lead into the side
  all_lead : last_entry op ≤ index → LeadBelow site here g op.root (2 ^ op.root) v
  all_lead over = record {
    rooted = below.rooted;
    behind = λ j low is. below.behind j (let upto = last_of g.head op.root below.rooted.deeper most below.rooted.fits j is in omega (arith, upto, over)) is;
    loose = λ p loose. (let e = below.loose p loose in (e.0, e.2, e.2, e.3));
  }

  settles_next : last_entry op ≤ index → StandsAt (settle_by (rounds_wanted op.rounds None))
  settles_next over = elim (cases_wanted (rounds_wanted op.rounds None)) [
    | inl none ↦ subst (λ (o : Option Want). StandsAt (settle_by o)) (sym none) (all_lead over, rounds_settle.ends op.rounds None v in_rounds.round none)
    | inr some ↦ subst (λ (o : Option Want). StandsAt (settle_by o)) (sym some.1) (record { below = all_lead over; in_rounds = in_rounds; open_round = λ none. none-some _ (sym (sym some.1 ∙ none)) })
  ]

  pub onward : SuitsStep site here call (behind op index) (behind op index).step v
  onward = elim (cases_lt index (last_entry op)) [
    | inl less ↦ subst (λ b. StandsAt (cond b (Entry (index + 1)) (settle_by (rounds_wanted op.rounds None)))) (sym (lt-ltb index (last_entry op) less)) (next_entry less)
    | inr over ↦ subst (λ b. StandsAt (cond b (Entry (index + 1)) (settle_by (rounds_wanted op.rounds None)))) (sym (le-ltb index (last_entry op) over)) (settles_next over)
  ]

-- ---- where nothing is stored
-- the entry that comes next stays so
module _ (site : Ground) (here : Site) (g : Guarded) (root : ℕ) (rounds later : Rounds) (v u : View) (k : GoesOn site (λ i. ⊤) v u) where
  pub below_stays : (index : ℕ) → ((p : ℕ × ℕ) → IsLoose u p → IsLoose v p) → LeadBelow site here g root index v → LeadBelow site here g root index u
  below_stays index loose b = record {
    rooted = rooted_stays site here g (λ i. ⊤) v u k (λ i far. tt) root tt b.rooted;
    behind = λ j low is. behind_stays site here g (λ i. ⊤) v u k (λ i far. tt) root j tt (b.behind j low is);
    loose = λ p is. b.loose p (loose p is);
  }

  pub next_stays : (index : ℕ) → ((p : ℕ × ℕ) → IsLoose u p → IsLoose v p) → StandsInRounds site here g root later u → ComesNext site here g root rounds index v → ComesNext site here g root later index u
  next_stays index loose stands c = record { below = below_stays index loose c.below; of_side = c.of_side; in_rounds = stands }

-- ---- what is loaded
module _ (site : Ground) (ground : IsGround site) (here : Site) (call : Call) (op : RedirectOp) (n : ℕ) (v : View) (words : Words) (new : MayBeNewest site v words) where
  abbrev gs : Guarded
  gs = op.guarded

  abbrev shape : Shape
  shape = site.shape

  abbrev frame : Frame
  frame = frame_of shape words

  -- the rounds stand as they stood
  module _ (u : View) (dirty : u.dirty ≡ v.dirty) (flushed : u.flushed ≡ v.flushed) where
    same_loose : (p : ℕ × ℕ) → IsLoose u p → IsLoose v p
    same_loose p loose = elim loose [
      | inl d ↦ inl (subst (λ (l : List (ℕ × ℕ)). Has p l) dirty d)
      | inr f ↦ inr (subst (λ (l : List (ℕ × ℕ)). Has p l) flushed f)
    ]

    same_rounds : StandsInRounds site here gs op.root op.rounds v → StandsInRounds site here gs op.root op.rounds u
    same_rounds s = record { round = round_same v u dirty flushed op.rounds s.round; lines = s.lines }

  -- ---- the root
  module _ (s : IsGuarding site here gs v) (settled : IsSettled v) (found : n ≡ words root_word) where
    abbrev root_view : View
    root_view = view_then shape (reads root_word) n v

    head_now : words (header_word shape gs.segment) ≡ gs.head
    head_now = new.knows (header_word shape gs.segment) gs.head s.header

    is_live : IsLive frame gs.segment
    is_live = inr (ap state_in head_now ∙ s.ready.splits)

    -- it is deeper than the segment, and no deeper than the image allows
    is_deeper : depth_in gs.head < n
    is_deeper = root_deeper site ground (λ i. gs.head) words gs.segment s.side n s.old.within s.ready.splits new.structure head_now
        (new.knows (link_word shape gs.segment) (suc s.side) s.ready.linked) (sym found) (new.says _ s.ready.lacks).1

    is_within : n ≤ shape.depth
    is_within = subst (λ k. k ≤ shape.depth) (sym found) new.structure.sound.root

    fits_pattern : pattern_in gs.head < 2 ^ depth_in gs.head
    fits_pattern = subst (λ z. pattern_in z < 2 ^ depth_in z) head_now (live_pattern shape.depth ground.shape.depth frame new.structure.sound gs.segment s.old.within is_live)

    keeps_root : GoesOn site (λ i. ⊤) v root_view
    keeps_root = record {
      areas = refl;
      held = refl;
      planned = refl;
      moving = refl;
      owed = refl;
      facts = λ fact has. has;
      known = λ i x still has. inr has;
      only = λ p has. elim has [ inl same ↦ inr (inl (ap (λ (q : ℕ × ℕ). q.0) same)) | inr was ↦ inl was ];
    }

    root_settled : IsSettled root_view
    root_settled = record { dirty = settled.dirty; flushed = settled.flushed }

    abbrev first_index : ℕ
    first_index = side_first n (side_region_head gs.head)

    not_deep : n ≤ most_depth
    not_deep = let a = is_within in let b = ground.shape.depth in omega (arith, a, b)

    at_root : SuitsStep site here call (rooted_at op n) (Entry first_index) root_view
    at_root = record {
      below = record {
        rooted = record {
          guarding = guarding_stays site here gs (λ i. ⊤) v root_view keeps_root (λ i far. tt) s;
          deeper = is_deeper;
          within = is_within;
          fits = fits_pattern;
          known = inl refl;
        };
        behind = λ j low is. absurd (let from = first_entry_of gs.head n is_deeper not_deep fits_pattern j is in late j first_index low from);
        loose = λ p loose. absurd (settled_firm root_view root_settled p loose);
      };
      of_side = is_of_side gs.head n is_deeper not_deep fits_pattern first_index (omega arith) (first_last gs.head n is_deeper not_deep fits_pattern);
      in_rounds = record { round = rounds_settle.begins root_view root_settled; lines = λ line has. absurd has };
    }
      where
        late : (j a : ℕ) → j < a → a ≤ j → ⊥
        late j a low from = omega (arith, low, from)

    least_is : min n (shape_of op).depth ≡ n
    least_is = ap (λ (t : Shape). min n t.depth) s.here_is.shape ∙ least n shape.depth is_within
      where
        least : (a b : ℕ) → a ≤ b → min a b ≡ a
        least a b low = omega (arith, low)

    pub root_stands : SuitsStep site here call (rooted op n) (rooted op n).step root_view
    root_stands = subst (λ k. SuitsStep site here call (rooted_at op k) (Entry (side_first k (side_region_head gs.head))) root_view) (sym least_is) at_root

  -- ---- an entry
  module _ (index : ℕ) (c : ComesNext site here gs op.root op.rounds index v) where
    abbrev entry : ℕ
    entry = entry_at op.root index

    abbrev entry_view : View
    entry_view = view_then shape (finds_entry op.root index) n v

    keeps_entry : GoesOn site (λ i. ⊤) v entry_view
    keeps_entry = record {
      areas = refl;
      held = refl;
      planned = refl;
      moving = refl;
      owed = refl;
      facts = λ fact has. inr has;
      known = λ i x still has. inr has;
      only = λ p has. elim has [
        | inl same ↦ inr (inr (subst (λ (q : ℕ × ℕ). (block ≤ q.0) × (q.0 < first_segment shape)) (sym same) (entry_from op.root index, entry_before shape op.root index c.below.rooted.within c.of_side.index)))
        | inr was ↦ inl was
      ];
    }

    pub entry_stands : SuitsStep site here call (go op (Head index n)) (Head index n) entry_view
    entry_stands = (
      next_stays site here gs op.root op.rounds op.rounds v entry_view keeps_entry index (same_loose entry_view refl refl) (same_rounds entry_view refl refl c.in_rounds) c,
      inl refl,
      inl refl,
    )

  -- ---- the header of the segment that it names
  module _ (index slot : ℕ) (c : ComesNext site here gs op.root op.rounds index v) (named : Has (entry_at op.root index, slot) v.known) (lives : Has (Lives slot) v.facts)
      (found : n ≡ words (head_word (shape_of op) slot)) where
    abbrev head_view : View
    head_view = view_then shape (finds_begin slot) n v

    abbrev begin : ℕ
    begin = first_hash_of (depth_in n) (pattern_in n)

    header_found : n ≡ words (header_word shape slot)
    header_found = found ∙ ap words (head_is (shape_of op) shape slot c.below.rooted.guarding.here_is.shape (new.says (Lives slot) lives).slot)

    root_now : words root_word ≡ op.root
    root_now = new.knows root_word op.root c.below.rooted.known

    entry_now : words (entry_at (words root_word) index) ≡ slot
    entry_now = ap (λ r. words (entry_at r index)) root_now ∙ new.knows (entry_at op.root index) slot named

    stale_now : words (header_word shape gs.segment) ≡ gs.head
    stale_now = new.knows (header_word shape gs.segment) gs.head c.below.rooted.guarding.header

    stale_lives : IsLive frame gs.segment
    stale_lives = inr (ap state_in stale_now ∙ c.below.rooted.guarding.ready.splits)

    entry_there : IsEntryOfSide (words root_word) (depth_in (words (header_word shape gs.segment))) (pattern_in (words (header_word shape gs.segment))) index
    entry_there = subst (λ r. IsEntryOfSide r (depth_in (words (header_word shape gs.segment))) (pattern_in (words (header_word shape gs.segment))) index) (sym root_now)
        (subst (λ z. IsEntryOfSide op.root (depth_in z) (pattern_in z) index) (sym stale_now) c.of_side)

    -- by the two headers
    header_there : words (header_word shape (words (entry_at (words root_word) index))) ≡ n
    header_there = ap (λ t. words (header_word shape t)) entry_now ∙ sym header_found

    by_headers : (P : ℕ → ℕ → Type 0) → P (words (header_word shape gs.segment)) (words (header_word shape (words (entry_at (words root_word) index)))) → P gs.head n
    by_headers P p = subst (λ x. P gs.head x) header_there (subst (λ z. P z (words (header_word shape (words (entry_at (words root_word) index))))) stale_now p)

    leads_past : depth_in n ≤ depth_in gs.head → begin ≤ first_of gs
    leads_past = by_headers (λ z x. depth_in x ≤ depth_in z → first_hash_of (depth_in x) (pattern_in x) ≤ first_hash_of (depth_in z) (pattern_in z))
        (begins_before shape.depth ground.shape.depth frame new.structure.sound gs.segment index c.below.rooted.guarding.old.within stale_lives entry_there)

    leads_behind : depth_in gs.head < depth_in n → first_of gs < begin
    leads_behind = by_headers (λ z x. depth_in z < depth_in x → first_hash_of (depth_in z) (pattern_in z) < first_hash_of (depth_in x) (pattern_in x))
        (begins_behind shape.depth ground.shape.depth frame new.structure.sound gs.segment index c.below.rooted.guarding.old.within stale_lives entry_there)

    keeps_head : GoesOn site (λ i. ⊤) v head_view
    keeps_head = record {
      areas = refl;
      held = refl;
      planned = refl;
      moving = refl;
      owed = refl;
      facts = λ fact has. inr has;
      known = λ i x still has. has;
      only = λ p has. inl has;
    }

    names_it : Names site here gs op.root index slot begin head_view
    names_it = record { named = named; begins = inl refl }

    next_one : ComesNext site here gs op.root op.rounds index head_view
    next_one = next_stays site here gs op.root op.rounds op.rounds v head_view keeps_head index (same_loose head_view refl refl) (same_rounds head_view refl refl c.in_rounds) c

    -- it leads into the side, as those before it
    lead_more : depth_in gs.head < depth_in n → LeadBelow site here gs op.root (index + 1) head_view
    lead_more deeper = record {
      rooted = next_one.below.rooted;
      behind = λ j low is. elim (below_or_last j index low) [
        | inl less ↦ next_one.below.behind j less is
        | inr same ↦ subst (λ k. LeadsBehind site here gs op.root k head_view) (sym same) (slot, begin, names_it, leads_behind deeper)
      ];
      loose = λ p loose. (let e = next_one.below.loose p loose in (e.0, more e.0 index e.1, e.2, e.3));
    }
      where
        more : (j i : ℕ) → j < i → j < i + 1
        more j i low = omega (arith, low)

    pub head_stands : SuitsStep site here call (met_head op index n) (met_head op index n).step head_view
    head_stands = elim (cases_lt (depth_in gs.head) (depth_in n)) [
      | inl deeper ↦ subst (λ b. SuitsStep site here call (cond b (go op (Store index)) (behind op index)) (cond b (go op (Store index)) (behind op index)).step head_view)
          (sym (lt-leb (depth_in n) (depth_in gs.head) deeper)) (onward site ground here call op index head_view (lead_more deeper) c.of_side next_one.in_rounds)
      | inr up ↦ subst (λ b. SuitsStep site here call (cond b (go op (Store index)) (behind op index)) (cond b (go op (Store index)) (behind op index)).step head_view)
          (sym (le-leb (depth_in n) (depth_in gs.head) up)) (next_one, (slot, begin, names_it, leads_past up))
    ]
