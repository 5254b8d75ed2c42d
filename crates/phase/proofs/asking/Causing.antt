-- What a way keeps was loaded, and each end of a way, and of a way again, has its cause.
use Rattle.std.proofs.Common.{◌≡◌, ℕ, Bool, true, false, List, ◌∷◌, ◌++◌, inl, inr, ◌⊎◌, refl, sym, ◌∙◌, subst}
use Rattle.std.specs.Prelude.{◌==◌, ◌&&◌, nat_lt, nat_le}
use Rattle.std.proofs.lemmas.Bool.{eqb-true, eqb-false, leb-true, ltb-true, cond_both}
use Rattle.segment_head.specs.HeadWord.{version_in}
use Rattle.trace.specs.Events.{Words}
use Rattle.trace.proofs.Listed.{has_append_right}
use Rattle.image_layout.specs.Places.{root_word}
use Rattle.way.specs.Ways.{entry_word, head_word, is_leading}
use Rattle.sound_image.specs.Records.{key_hash}
use Rattle.map_model.specs.declared.call.Call.{Call}
use Rattle.map_model.specs.Map.{key_of}
use Rattle.world.specs.declared.site.Site.{Site}
use Rattle.world.specs.Views.{Has}
use Rattle.part.specs.Doings.{Doings}
use Rattle.part.specs.Causes.{IsNamed, IsOnWay, HasMoved, LeadsAway}
use Rattle.phase.specs.declared.walk.Path.{Path}
use Rattle.phase.specs.declared.walk.Walk.TheVariants.{Power, Root, Entry, Head}
use Rattle.phase.specs.declared.walk.Walked.TheVariants.{On, Off, Amiss}
use Rattle.phase.specs.declared.back.Back.{Back}
use Rattle.phase.specs.declared.back.Back.TheVariants as back
use Rattle.phase.specs.Backs.{back_word, back_before, back_on, back_leads}
use Rattle.phase.specs.Causes.{WasNamed, WasFound, RemembersWalked, HasWalkCause, HasBackCause}
use Rattle.phase.specs.Laws.{WalkRemembers, WalkHasCauses, BackHasCauses}
use Rattle.phase.proofs.Walking.{by_head}
use Rattle.phase.proofs.Backing.{back_by_test}
use Rattle.phase.proofs.locks.Choosing.{by_both}

-- ---- what was loaded stays so with more
pub has_more : (more loads : List (ℕ × ℕ)) (p : ℕ × ℕ) → Has p loads → Has p (more ++ loads)
has_more more loads p has = has_append_right p more loads has

module _ (here : Site) (hash : ℕ) (more loads : List (ℕ × ℕ)) where
  pub named_more : (root segment : ℕ) → WasNamed here hash loads root segment → WasNamed here hash (more ++ loads) root segment
  named_more root segment r = ((has_more more loads (root_word, root) r.0.0, r.0.1), has_more more loads (entry_word here.geometry hash root, segment) r.1, r.2)

  pub found_more : (path : Path) → WasFound here hash loads path → WasFound here hash (more ++ loads) path
  found_more path r = (named_more path.root path.segment r.0, has_more more loads (head_word here.geometry path.segment, path.head) r.1, r.2)

-- the segment of a path was named
pub found_named : (here : Site) (hash : ℕ) (loads : List (ℕ × ℕ)) (path : Path) → WasFound here hash loads path → IsNamed here.geometry hash loads path.segment
found_named here hash loads path r = (path.root, r.0.0, r.0.1)

-- ---- the way
pub walk_remembers : WalkRemembers
walk_remembers here hash loads Power n r = by_both (RemembersWalked here hash loads) (n == 0) (On Root) Off tt tt
walk_remembers here hash loads Root n r =
    cond_both (nat_le n here.geometry.depth) (On (Entry n)) (Amiss root_word n) (RemembersWalked here hash ((root_word, n) ∷ loads))
    (λ t. (inl refl, leb-true n here.geometry.depth t)) (λ f. tt)
walk_remembers here hash loads (Entry root) n r =
    cond_both (nat_lt n here.geometry.segments) (On (Head root n)) (Amiss (entry_word here.geometry hash root) n) (RemembersWalked here hash ((entry_word here.geometry hash root, n) ∷ loads))
    (λ t. ((inr r.0, r.1), inl refl, ltb-true n here.geometry.segments t)) (λ f. tt)
walk_remembers here hash loads (Head root segment) n r =
    by_head (RemembersWalked here hash ((head_word here.geometry segment, n) ∷ loads)) here hash root segment n
    (λ live is. (((inr r.0.0, r.0.1), inr r.1, r.2), inl refl, eqb-true (version_in n) here.version is)) (λ live is. tt) (λ dead. tt)

pub walk_caused : WalkHasCauses
walk_caused here hash words did call same Power r n is =
    cond_both (n == 0) (On Root) Off (HasWalkCause here hash words did call Power) (λ t. tt) (λ f. (refl, λ zero. eqb-false n 0 f (is ∙ zero)))
walk_caused here hash words did call same Root r n is =
    by_both (HasWalkCause here hash words did call Root) (nat_le n here.geometry.depth) (On (Entry n)) (Amiss root_word n) tt tt
walk_caused here hash words did call same (Entry root) r n is =
    by_both (HasWalkCause here hash words did call (Entry root)) (nat_lt n here.geometry.segments) (On (Head root n)) (Amiss (entry_word here.geometry hash root) n) tt tt
walk_caused here hash words did call same (Head root segment) r n is =
    let named : IsNamed here.geometry hash did.loads segment = (root, r.0, r.1) in
    by_head (HasWalkCause here hash words did call (Head root segment)) here hash root segment n (λ live current. tt)
    (λ live old. record {
      named = subst (λ m. IsNamed here.geometry m did.loads segment) same named;
      head = n;
      looked = (refl, sym is);
      live = live;
      found = refl;
      other = eqb-false (version_in n) here.version old;
    })
    (λ dead. tt)

-- ---- the way again
module _ (here : Site) (hash : ℕ) (loads : List (ℕ × ℕ)) (path : Path) (r : WasFound here hash loads path) where
  back_kept : (at : Back) → Has (back_word here hash path at, back_before path at) loads
  back_kept back.Root = r.0.0.0
  back_kept back.Entry = r.0.1
  back_kept back.Head = r.1

  back_on_way : (at : Back) → IsOnWay here.geometry hash loads (back_word here hash path at)
  back_on_way back.Root = inl refl
  back_on_way back.Entry = inr (inl (path.root, r.0.0, refl))
  back_on_way back.Head = inr (inr (path.segment, found_named here hash loads path r, refl))

on_caused : (here : Site) (hash : ℕ) (words : Words) (did : Doings) (call : Call) (path : Path) (at : Back) → HasBackCause here hash words did call path at (back_on at)
on_caused here hash words did call path back.Root = tt
on_caused here hash words did call path back.Entry = tt
on_caused here hash words did call path back.Head = tt

module _ (here : Site) (hash : ℕ) (words : Words) (did : Doings) (call : Call) (same : hash ≡ key_hash here.geometry (key_of call)) (path : Path)
    (r : WasFound here hash did.loads path) (not_own : (at : Back) → Has (back_word here hash path at) did.changed → ⊥) where
  -- a word has another value than it had
  has_moved : (at : Back) (n : ℕ) → n ≡ words (back_word here hash path at) → (n == back_before path at) ≡ false
      → HasMoved here.geometry words did call (back_word here hash path at) (back_before path at) n
  has_moved at n is other = record {
    watched = inl (subst (λ m. IsOnWay here.geometry m did.loads (back_word here hash path at)) same (back_on_way here hash did.loads path r at));
    loaded = back_kept here hash did.loads path r at;
    newest = sym is;
    differ = λ equal. eqb-false n (back_before path at) other (sym equal);
    by_others = not_own at;
  }

  way_not_own : (word : ℕ) → (word ≡ root_word) ⊎ ((word ≡ entry_word here.geometry hash path.root) ⊎ (word ≡ head_word here.geometry path.segment)) → Has word did.changed → ⊥
  way_not_own word on has = elim on [
    | inl root ↦ not_own back.Root (subst (λ w. Has w did.changed) root has)
    | inr more ↦ elim more [
      | inl entry ↦ not_own back.Entry (subst (λ w. Has w did.changed) entry has)
      | inr head ↦ not_own back.Head (subst (λ w. Has w did.changed) head has)
    ]
  ]

  -- the header is as it was, and leads away
  leads_away : (n : ℕ) → n ≡ words (head_word here.geometry path.segment) → n ≡ path.head → is_leading path.head hash ≡ false
      → LeadsAway here.geometry words did call here.version (head_word here.geometry path.segment) path.head n
  leads_away n is equal away = record {
    root = path.root;
    segment = path.segment;
    depth = r.0.0;
    named = subst (λ m. Has (entry_word here.geometry m path.root, path.segment) did.loads) same r.0.1;
    head = refl;
    loaded = r.1;
    newest = sym is;
    same = sym equal;
    current = r.2;
    away = subst (λ m. is_leading path.head m ≡ false) same away;
    by_others = subst (λ m. (word : ℕ) → (word ≡ root_word) ⊎ ((word ≡ entry_word here.geometry m path.root) ⊎ (word ≡ head_word here.geometry path.segment)) → Has word did.changed → ⊥) same way_not_own;
  }

  -- where a word is as it was, the test fails at a header alone
  same_caused : (at : Back) (n : ℕ) → n ≡ words (back_word here hash path at) → n ≡ back_before path at → back_leads here hash path at ≡ false
      → HasMoved here.geometry words did call (back_word here hash path at) (back_before path at) n ⊎ LeadsAway here.geometry words did call here.version (back_word here hash path at) (back_before path at) n
  same_caused back.Root n is equal away = absurd (let z = away in cc)
  same_caused back.Entry n is equal away = absurd (let z = away in cc)
  same_caused back.Head n is equal away = inr (leads_away n is equal away)

  moved_caused : (at : Back) (n : ℕ) → n ≡ words (back_word here hash path at) → (b : Bool) → (n == back_before path at) ≡ b → (b && back_leads here hash path at) ≡ false
      → HasMoved here.geometry words did call (back_word here hash path at) (back_before path at) n ⊎ LeadsAway here.geometry words did call here.version (back_word here hash path at) (back_before path at) n
  moved_caused at n is true e away = same_caused at n is (eqb-true n (back_before path at) e) away
  moved_caused at n is false e away = inl (has_moved at n is e)

pub back_caused : BackHasCauses
back_caused here hash words did call same path r not_own at n is =
    back_by_test (HasBackCause here hash words did call path at) here hash path at n
    (λ t. on_caused here hash words did call path at)
    (λ f. ((refl, sym is), moved_caused here hash words did call same path r not_own at n is (n == back_before path at) refl f))
