-- What the three loads of the way to a segment add up to.
use Rattle.std.proofs.Common.{◌≡◌, inl, inr, ℕ, ◌+◌, ◌^◌, ◌<◌, ◌≤◌, Bool, true, false, Some, None, List, ◌∷◌, ◌++◌, refl, sym, ap, ◌∙◌, subst, arith}
use Rattle.std.specs.Prelude.{◌==◌, ◌&&◌}
use Rattle.std.proofs.lemmas.Bool.{eq-eqb}
use Rattle.std.specs.Cmp.Derive.{both_true}
use Rattle.hash_word.specs.Hash.{index_of}
use Rattle.segment_head.specs.HeadWord.{version_in, is_live, HasLiveState}
use Rattle.segment_head.proofs.Headers.{live_test}
use Rattle.trace.specs.Events.{Words}
use Rattle.image_layout.specs.Places.{root_word, entry_at, head_at}
use Rattle.way.specs.Ways.{is_leading}
use Rattle.way.proofs.Leading.{leading_is}
use Rattle.sound_image.specs.Segments.{Frame, frame_of}
use Rattle.segment_table.proofs.frames.Owner.{claimer_found}
use Rattle.bucket_words.specs.Owners.{owner_of}
use Rattle.op_core.specs.declared.want.Want.TheVariants.{Load}
use Rattle.world.specs.Facts.{Fact, Lives, Current, Rooted}
use Rattle.world.specs.Ground.{Ground, IsStructured}
use Rattle.world.specs.Views.{View, Has}
use Rattle.world.specs.Kinds.{meets_root, meets_entry, meets_head, says_current}
use Rattle.world.specs.StepKinds.{of_call, view_by}
use Rattle.world.specs.Invariant.{Holds}
use Rattle.vlock.specs.declared.knows.Watch.{Watch}
use Rattle.vlock.specs.Plays.{Met}
use Rattle.vlock.specs.Buckets.{MayCall, Loads}
use Rattle.vlock.specs.Finding.{IsBesideWay, WasMet, WasOwner, WentTo}

-- ---- what was met
sound_at : (site : Ground) (words : Words) (views : List View) → Holds site words views → IsStructured site words
sound_at site words views h = h.structure.sound words (λ i _. inl refl)

pub root_low : (site : Ground) (v : View) (root : ℕ) → Met site (Load root_word) v root → root ≤ site.shape.depth
root_low site v root met =
    subst (λ (n : ℕ). n ≤ site.shape.depth) met.2 (sound_at site met.0.words met.0.views met.0.holds).sound.root

pub entry_within : (site : Ground) (v : View) (depth index s : ℕ) → Has (Rooted depth) v.facts → index < 2 ^ depth → Met site (Load (entry_at depth index)) v s → s < site.shape.segments
entry_within site v depth index s rooted low met =
    let m = met.0 in
    let named = m.holds.structure.says m.seat v (Rooted depth) m.words m.there rooted (λ i _. inl refl) in
    subst (λ (n : ℕ). n < site.shape.segments) met.2 (named.1 index low).slot

pub head_live : (site : Ground) (v : View) (s header : ℕ) → Has (Lives s) v.facts → Met site (Load (head_at site.shape s + 1)) v header → HasLiveState header
head_live site v s header lives met =
    let m = met.0 in
    subst HasLiveState met.2 (m.holds.structure.says m.seat v (Lives s) m.words m.there lives (λ i _. inl refl)).live

-- a normal segment has no ready side, so it claims each hash that it covers
owner_by : (site : Ground) (v : View) (s header hash : ℕ) → s < site.shape.segments → hash < 2 ^ 64 → is_leading header hash ≡ true → (met : Met site (Load (head_at site.shape s + 1)) v header)
    → owner_of site.shape met.0.words hash ≡ Some s
owner_by site v s header hash within fits leads met =
    let words = met.0.words in
    let frame : Frame = frame_of site.shape words in
    let is = met.0.holds.site_is.shape in
    let head = leading_is (frame.header s) hash (subst (λ (n : ℕ). is_leading n hash ≡ true) (sym met.2) leads) in
    claimer_found site.shape.depth frame is.depth (sound_at site words met.0.views met.0.holds).sound s hash fits (record {
      live = record { slot = within; live = inl head.normal; covers = head.covers };
      kept = λ ready inside. let split = ready.1.splits in let normal_is = head.normal in omega (arith, split, normal_is);
    })

-- what a header tells is told beside what was known before
behind_says : (t : Bool) (s head : ℕ) (facts : List Fact) (f : Fact) → Has f facts → Has f (says_current t s head ++ facts)
behind_says true s head facts f has = inr (inr has)
behind_says false s head facts f has = has

says_it : (t : Bool) (s head : ℕ) (facts : List Fact) → t ≡ true → Has (Current s) (says_current t s head ++ facts)
says_it true s head facts e = inl refl
says_it false s head facts e = absurd (cc)

-- ---- the view may take a further step
pub may_behind_root : (site : Ground) (root : ℕ) (p a : Watch) → Loads site root_word (λ n. of_call meets_root) p root a → MayCall p.view → MayCall a.view
may_behind_root site root p a l may = subst MayCall (sym (ap (λ (w : Watch). w.view) l.0)) may

pub may_behind_entry : (site : Ground) (depth index at segment : ℕ) (a b : Watch) → Loads site at (λ n. of_call (meets_entry depth index)) a segment b → MayCall a.view → MayCall b.view
may_behind_entry site depth index at segment a b l may = subst MayCall (sym (ap (λ (w : Watch). w.view) l.0)) may

-- ---- the way as a whole: `p` before it, `a` behind the root, `b` behind the entry, `q` at its end
module _ (site : Ground) (hash root index segment header version : ℕ) (p a b q : Watch) (place : index ≡ index_of root hash)
    (at_root : Loads site root_word (λ n. of_call meets_root) p root a)
    (named : Loads site (entry_at root index) (λ n. of_call (meets_entry root index)) a segment b)
    (at_head : Loads site (head_at site.shape segment + 1) (λ n. of_call (meets_head segment version)) b header q) where
  abbrev behind_root : View
  behind_root = record p.view { facts = Rooted root ∷ p.view.facts }

  abbrev behind_entry : View
  behind_entry = record p.view { facts = Lives segment ∷ Rooted root ∷ p.view.facts }

  abbrev at_end : View
  at_end = view_by site.shape (of_call (meets_head segment version)) header behind_entry

  at_entry : Loads site (entry_at root (index_of root hash)) (λ n. of_call (meets_entry root (index_of root hash))) a segment b
  at_entry = subst (λ (i : ℕ). Loads site (entry_at root i) (λ n. of_call (meets_entry root i)) a segment b) place named

  root_view : a.view ≡ behind_root
  root_view = ap (λ (w : Watch). w.view) at_root.0

  entry_view : b.view ≡ behind_entry
  entry_view = ap (λ (w : Watch). w.view) at_entry.0 ∙ ap (λ (v : View). record v { facts = Lives segment ∷ v.facts }) root_view

  end_view : q.view ≡ at_end
  end_view = ap (λ (w : Watch). w.view) at_head.0 ∙ ap (λ (v : View). view_by site.shape (of_call (meets_head segment version)) header v) entry_view

  -- each load was of a moment
  entry_met : WasMet site p.view (entry_at root (index_of root hash)) segment
  entry_met = record { then = a.view; same_view = subst (λ (v : View). IsBesideWay p.view v) (sym root_view) refl; moment = at_entry.1.0; was = at_entry.1.2 }

  header_met : WasMet site p.view (head_at site.shape segment + 1) header
  header_met = record { then = b.view; same_view = subst (λ (v : View). IsBesideWay p.view v) (sym entry_view) refl; moment = at_head.1.0; was = at_head.1.2 }

  pub went : root ≤ site.shape.depth → segment < site.shape.segments → HasLiveState header → WentTo site hash segment header p q
  went low within live = record {
    root = root;
    low = low;
    within = within;
    live = live;
    took = ap (λ (w : Watch). w.took) at_head.0
        ∙ (ap (λ (w : Watch). (Load (head_at site.shape segment + 1), header) ∷ w.took) at_entry.0
        ∙ ap (λ (w : Watch). (Load (head_at site.shape segment + 1), header) ∷ (Load (entry_at root (index_of root hash)), segment) ∷ w.took) at_root.0);
    root_was = record { then = p.view; same_view = refl; moment = at_root.1.0; was = at_root.1.2 };
    entry_was = entry_met;
    header_was = header_met;
    noted = ap (λ (v : View). v.notes) end_view;
    still = λ fact has. subst (λ (v : View). Has fact v.facts) (sym end_view) (behind_says (is_live header && (version_in header == version)) segment header behind_entry.facts fact (inr (inr has)));
    rooted = subst (λ (v : View). Has (Rooted root) v.facts) (sym end_view) (behind_says (is_live header && (version_in header == version)) segment header behind_entry.facts (Rooted root) (inr (inl refl)));
    lives = subst (λ (v : View). Has (Lives segment) v.facts) (sym end_view) (behind_says (is_live header && (version_in header == version)) segment header behind_entry.facts (Lives segment) (inl refl));
  }

  pub knows_current : HasLiveState header → version_in header ≡ version → Has (Current segment) q.view.facts
  knows_current live same =
      subst (λ (v : View). Has (Current segment) v.facts) (sym end_view)
      (says_it (is_live header && (version_in header == version)) segment header behind_entry.facts (both_true (live_test header live) (eq-eqb (version_in header) version same)))

  pub was_owner : segment < site.shape.segments → hash < 2 ^ 64 → is_leading header hash ≡ true → WasOwner site p.view segment header hash
  unfolding header_met
  was_owner within fits leads = record { header_met = header_met; owned = owner_by site b.view segment header hash within fits leads at_head.1 }

  -- it may call on, and has no answer where it had none
  pub may_on : MayCall p.view → MayCall q.view × (p.view.answer ≡ None → q.view.answer ≡ None)
  may_on may = (subst MayCall (sym end_view) may, λ none. ap (λ (v : View). v.answer) end_view ∙ none)

  -- no call ended on the way, and the view is as it was but for what it relies on and what it noted
  pub past_on : q.past ≡ p.past
  past_on = ap (λ (w : Watch). w.past) at_head.0 ∙ (ap (λ (w : Watch). w.past) at_entry.0 ∙ ap (λ (w : Watch). w.past) at_root.0)

  pub beside_on : IsBesideWay p.view q.view
  beside_on = subst (λ (v : View). IsBesideWay p.view v) (sym end_view) refl
