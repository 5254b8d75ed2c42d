-- At the lock of a third bucket, and while its words are loaded: what each event makes of it leaves a view that suits.
use Rattle.std.proofs.Common.{◌≡◌, ℕ, ◌+◌, ◌<◌, ◌≤◌, false, Option, None, Some, List, [], ◌∷◌, inl, inr, refl, sym, ap, ◌∙◌, subst, arith, slice_index}
use Rattle.op_core.specs.declared.why.Why.TheVariants.{Busy, Moved}
use Rattle.trace.specs.Events.{Words}
use Rattle.image_layout.specs.Places.{bucket_at}
use Rattle.sound_image.specs.Records.{key_hash}
use Rattle.bucket_words.specs.Hits.{Hit}
use Rattle.bucket_words.specs.Owners.{owner_of}
use Rattle.bucket_words.specs.Standing.{IsTable}
use Rattle.world.specs.Ground.{Ground}
use Rattle.world.specs.Views.{View, Has, HasLock, IsGuarded}
use Rattle.world.specs.Attempts.{HoldsOnly}
use Rattle.phase.specs.declared.role.Role.{Role}
use Rattle.phase.specs.declared.role.Role.TheVariants.{Home, Probing, First, Second}
use Rattle.phase.specs.declared.take.Taken.{Taken}
use Rattle.phase.specs.declared.take.Taken.TheVariants as taking
use Rattle.phase.specs.declared.load.Loaded.{Loaded}
use Rattle.phase.specs.declared.load.Loaded.TheVariants as loaded
use Rattle.phase.specs.declared.held.Held.{Held}
use Rattle.phase.specs.declared.kept.Kept.{Kept}
use Rattle.phase.specs.Places.{bucket_of_role, is_third}
use Rattle.phase.specs.Asked.{index}
use Rattle.phase.specs.Helds.{with_held, free_of, give_wanted_of}
use Rattle.phase.specs.Buckets.{with_words, words_in}
use Rattle.phase.specs.Stands.{HasLoaded}
use Rattle.phase.specs.Taking.{MayBeTaken, IsButSpent, HasTaken}
use Rattle.phase.specs.Giving.{IsHeld, IsOfHeld}
use Rattle.phase.specs.Knows.{IsWhole}
use Rattle.phase.specs.Keeps.{kept_words, IsFull, KeepsAll}
use Rattle.phase.proofs.asking.Asked.{one_place, cases_place}
use Rattle.phase.proofs.Wording.{words_this, words_other}
use Rattle.phase.proofs.Handing.{none_loose}
use Rattle.phase.proofs.Loading.{load_begins}
use Rattle.phase.proofs.locks.Giving.{held_this, held_other, held_has, held_same, held_learn, held_stands, give_stands}
use Rattle.phase.proofs.locks.Finding.{loads_are_known, known_was_loaded}
use Rattle.phase.proofs.locks.Making.{make_knows}
use Rattle.phase.proofs.locks.Choosing.{by_held}
use Rattle.phase.specs.declared.ending.Ending.{Ending}
use Rattle.phase.specs.declared.ending.Ending.TheVariants as ending
use Rattle.move_op.specs.declared.step.Direction.{Direction}
use Rattle.move_op.specs.declared.step.Direction.TheVariants.{Forward, Backward}
use Rattle.move_op.specs.declared.step.Shift.{Shift}
use Rattle.move_op.specs.declared.step.MoveStep.{MoveStep}
use Rattle.move_op.specs.declared.step.MoveStep.TheVariants.{Give, Ended}
use Rattle.move_op.specs.declared.op.MoveOp.{MoveOp}
use Rattle.move_op.specs.Shifts.{source_of, target_of, shift_in}
use Rattle.move_op.specs.Steps.{end_of, giving, give, locked_to, chosen, filled_to, lock_of}
use Rattle.move_op.specs.Order.{HasTurn}
use Rattle.move_op.specs.Fits.{BeforeThird, BehindThird, KeepsBut, HoldsAll, IsGiving, SuitsEnd, SuitsStep}
use Rattle.move_op.proofs.shifting.Beside.{at, at_is, kept_at}
use Rattle.move_op.proofs.shifting.Nowhere.{not_third, same_nowhere}
use Rattle.move_op.proofs.shifting.Deciding.{chosen_shifts, shift_toward}
use Rattle.move_op.proofs.shifting.Staying.{none_forward}

-- a view suits a machine
abbrev pub Suits : Ground → MoveOp → View → Type 0
Suits site op u = SuitsStep site op.kept op.step u

-- ---- locks back
module _ (site : Ground) (kept : Kept) where
  end_suits : (end : Ending) (u : View) → HoldsOnly [] u → SuitsEnd site kept (end_of end) u
  end_suits (ending.Replied answer place) u o = o
  end_suits (ending.Again why) u o = o

  pub giving_suits : (held : Held) (end : Ending) (u : View) → IsGiving site kept held u → SuitsStep site kept (giving held end) u
  giving_suits held end u g =
      by_held (λ (s : MoveStep). SuitsStep site kept s u) held (Give held end) (Ended (end_of end)) g
      (λ none. end_suits end u (give_stands.ends kept.site kept.hash kept.segment held u g.locks g.quiet (ap (give_wanted_of kept.site kept.hash kept.segment) none)))

  pub give_suits : (end : Ending) (u : View) → IsGiving site kept kept.held u → Suits site (give kept end) u
  give_suits end u g = giving_suits kept.held end u g

  -- what is kept may be given back
  pub keeps_gives : (v : View) → KeepsAll site kept v → IsGiving site kept kept.held v
  keeps_gives v k = record { located = k.holds.located; locks = k.holds.locks; quiet = k.quiet }

  -- ---- a lock
  -- a lock word may have been found spent
  spent_keeps : (v u : View) → KeepsAll site kept v → IsButSpent v u → KeepsAll site kept u
  spent_keeps v u k (locks, e) =
      let w : View = record v { spent_locks = locks } in
      subst (λ (z : View). KeepsAll site kept z) (sym e) (record {
        insert = k.insert;
        pinned = k.pinned;
        leads = k.leads;
        holds = record {
          located = k.holds.located;
          hashed = k.holds.hashed;
          there = k.holds.there;
          leads = k.holds.leads;
          locks = held_same kept.site kept.hash kept.segment kept.held v w refl refl refl k.holds.locks;
          home = k.holds.home;
          probing = k.holds.probing;
          knows = k.holds.knows;
        };
        quiet = record { dirty = k.quiet.dirty; flushed = k.quiet.flushed; planned = k.quiet.planned; moving = k.quiet.moving; owed = k.quiet.owed };
        nowhere = k.nowhere;
        home = k.home;
        probing = k.probing;
        room = k.room;
      })

  spent_gives : (v u : View) → KeepsAll site kept v → IsButSpent v u → IsGiving site kept kept.held u
  spent_gives v u k but = keeps_gives u (spent_keeps v u k but)

pub none_at : (d : Direction) (kept : Kept) → BeforeThird d kept → free_of kept.held (target_of d) ≡ None
none_at Forward kept n = n.next
none_at Backward kept n = n.0

-- the lock is held, and then the words are put in
third_held : (d : Direction) (kept : Kept) (free : ℕ) → BeforeThird d kept → BehindThird d (record kept { held = with_held (target_of d) free kept.held })
third_held Forward kept free n = n.previous
third_held Backward kept free n = record { held = n.1.held; stays = n.1.stays }

third_put : (d : Direction) (kept : Kept) (words : List ℕ) → BehindThird d kept → BehindThird d (record kept { buckets = with_words (target_of d) words kept.buckets })
third_put Forward kept words n = n
third_put Backward kept words n = record { held = n.held; stays = n.stays }

turn_of : (d : Direction) (kept : Kept) → BehindThird d kept → HasTurn d kept
turn_of Forward kept n = tt
turn_of Backward kept n = n.stays

-- a place where the key may stand is none of the third ones
pub other_number : (d : Direction) (place : Role) → is_third place ≡ false → index place ≡ index (target_of d) → ⊥
other_number d place near e = not_third d place near (one_place place (target_of d) e)

-- the lock of a third bucket is held more
module _ (site : Ground) (kept : Kept) (d : Direction) (free : ℕ) where
  abbrev more : Kept
  more = record kept { held = with_held (target_of d) free kept.held }

  old_held : (place : Role) → (index place ≡ index (target_of d) → ⊥) → IsHeld more.held place → IsHeld kept.held place
  old_held place n is = (is.0, sym (held_other kept.held free (target_of d) place n) ∙ is.1)

  still_held : (place : Role) → (index place ≡ index (target_of d) → ⊥) → IsHeld kept.held place → IsHeld more.held place
  still_held place n is = (is.0, held_other kept.held free (target_of d) place n ∙ is.1)

  none_before : (place : Role) → (index place ≡ index (target_of d) → ⊥) → free_of more.held place ≡ None → free_of kept.held place ≡ None
  none_before place n e = sym (held_other kept.held free (target_of d) place n) ∙ e

  held_but : (v u : View) → KeepsAll site kept v → BeforeThird d kept → MayBeTaken free → u ≡ record v { held = (lock_of kept (target_of d), free + 1) ∷ v.held } → KeepsBut d site more u
  held_but v u k none may e =
      let w : View = record v { held = (lock_of kept (target_of d), free + 1) ∷ v.held } in
      let whole = known_was_loaded site kept.site kept.hash kept.segment kept.held kept.buckets v k.holds.located k.holds.knows in
      subst (λ (z : View). KeepsBut d site more z) (sym e) (record {
        insert = k.insert;
        located = k.holds.located;
        hashed = k.holds.hashed;
        pinned = k.pinned;
        leading = k.leads;
        there = k.holds.there;
        leads = k.holds.leads;
        locks = held_stands.more kept.site kept.hash kept.segment kept.held (target_of d) free v w (none_at d kept none) may k.holds.locks refl;
        near = (still_held Home (other_number d Home refl) k.holds.home, still_held Probing (other_number d Probing refl) k.holds.probing);
        third = (free, held_this kept.held free (target_of d));
        whole = λ place is n. whole place (old_held place (λ f. n (one_place place (target_of d) f)) is);
        quiet = record { dirty = k.quiet.dirty; flushed = k.quiet.flushed; planned = k.quiet.planned; moving = k.quiet.moving; owed = k.quiet.owed };
        nowhere = record {
          places = λ place is near t h. k.nowhere.places place (old_held place (other_number d place near) is) near t h;
          stash = record {
            first = λ f. k.nowhere.stash.first (none_before First (other_number d First refl) f);
            second = λ f. k.nowhere.stash.second (none_before Second (other_number d Second refl) f);
          };
        };
        home = k.home;
        probing = k.probing;
        room = k.room;
      })

pub locked_suits : (site : Ground) (kept : Kept) (d : Direction) (v u : View) → KeepsAll site kept v → BeforeThird d kept → (x : Taken) → HasTaken (lock_of kept (target_of d)) v x u
    → Suits site (locked_to kept d (lock_of kept (target_of d)) x) u
locked_suits site kept d v u k none (taking.On take) t = (spent_keeps site kept v u k t.1, none, t.0)
locked_suits site kept d v u k none (taking.Held free) t = (held_but site kept d free v u k none t.0 t.1, third_held d kept free none, load_begins _ _)
locked_suits site kept d v u k none (taking.Busy value) t = give_suits site kept (ending.Again (Busy (lock_of kept (target_of d)) value)) u (spent_gives site kept v u k t)
locked_suits site kept d v u k none (taking.Moved before after) t = give_suits site kept (ending.Again (Moved (lock_of kept (target_of d)) before after)) u (spent_gives site kept v u k t)
locked_suits site kept d v u k none taking.Spent t = (spent_keeps site kept v u k t.1, (lock_of kept (target_of d), t.0))

-- ---- a bucket
-- one word more is known
pub learnt_but : (site : Ground) (kept : Kept) (d : Direction) (i x : ℕ) (v : View) → KeepsBut d site kept v → IsGuarded v.held i → KeepsBut d site kept (record v { known = (i, x) ∷ v.known })
learnt_but site kept d i x v k guarded = record {
  insert = k.insert;
  located = k.located;
  hashed = k.hashed;
  pinned = k.pinned;
  leading = k.leading;
  there = k.there;
  leads = k.leads;
  locks = held_learn kept.site kept.hash kept.segment site.shape kept.held v i x k.locks guarded;
  near = k.near;
  third = k.third;
  whole = λ place is n j from low. inr (k.whole place is n j from low);
  quiet = record { dirty = k.quiet.dirty; flushed = k.quiet.flushed; planned = k.quiet.planned; moving = k.quiet.moving; owed = k.quiet.owed };
  nowhere = k.nowhere;
  home = k.home;
  probing = k.probing;
  room = k.room;
}

-- all words of the bucket are put in
module _ (site : Ground) (kept : Kept) (d : Direction) (words : List ℕ) (u : View) (k : KeepsBut d site kept u) (all : IsWhole (lock_of kept (target_of d)) words u) where
  abbrev put : Kept
  put = record kept { buckets = with_words (target_of d) words kept.buckets }

  put_whole : (place : Role) → IsHeld kept.held place → IsWhole (lock_of kept place) (words_in put.buckets place) u
  put_whole place is = elim (cases_place place (target_of d)) [
    | inl e ↦ subst (λ (p : Role). IsWhole (lock_of kept p) (words_in put.buckets p) u) (sym e)
        (subst (λ (ws : List ℕ). IsWhole (lock_of kept (target_of d)) ws u) (sym (words_this kept.buckets words (target_of d))) all)
    | inr n ↦ subst (λ (ws : List ℕ). IsWhole (lock_of kept place) ws u) (sym (words_other kept.buckets words (target_of d) place n)) (k.whole place is (λ e. n (ap index e)))
  ]

  same_words : (place : Role) → is_third place ≡ false → words_in put.buckets place ≡ words_in kept.buckets place
  same_words place near = words_other kept.buckets words (target_of d) place (other_number d place near)

  pub put_keeps : KeepsAll site put u
  put_keeps = record {
    insert = k.insert;
    pinned = k.pinned;
    leads = k.leading;
    holds = record {
      located = k.located;
      hashed = k.hashed;
      there = k.there;
      leads = k.leads;
      locks = k.locks;
      home = k.near.0;
      probing = k.near.1;
      knows = loads_are_known site kept.site kept.hash kept.segment kept.held put.buckets u k.located put_whole;
    };
    quiet = k.quiet;
    nowhere = same_nowhere site kept k.located kept.held (kept_words kept) (kept_words put)
        (λ place near j from low. kept_at site put k.located place j from low ∙ ap (λ (ws : List ℕ). slice_index ws j) (same_words place near) ∙ sym (kept_at site kept k.located place j from low))
        kept.change.key k.nowhere;
    home = subst IsFull (sym (same_words Home refl)) k.home;
    probing = subst IsFull (sym (same_words Probing refl)) k.probing;
    room = k.room;
  }

-- what is chosen then, where all words that are known are the newest, and each record under a lock that is held is its segment's
abbrev pub AreOwned : Ground → Words → View → Type 0
AreOwned site words u = (s b r k : ℕ) → HasLock u.held (bucket_at site.shape s b) → Hit site.shape words s b r k → owner_of site.shape words (key_hash site.shape k) ≡ Some s

module _ (site : Ground) (words : Words) (table : IsTable site.shape words) where
  module _ (kept : Kept) (u : View) (k : KeepsAll site kept u) (newest : (i x : ℕ) → Has (i, x) u.known → words i ≡ x) (own : AreOwned site words u) where
    source_held : (e : Direction) → IsHeld kept.held (source_of e)
    source_held Forward = k.holds.probing
    source_held Backward = k.holds.home

    source_words : (d : Direction) (j : ℕ) → 1 ≤ j → j < 32 → words (at site kept k.holds.located (source_of d) + j) ≡ slice_index (words_in kept.buckets (source_of d)) j
    source_words d j from low =
        let here : lock_of kept (source_of d) ≡ at site kept k.holds.located (source_of d) = at_is site kept k.holds.located (source_of d) in
        newest (at site kept k.holds.located (source_of d) + j) (kept_words kept (at site kept k.holds.located (source_of d) + j))
        (k.holds.knows (at site kept k.holds.located (source_of d) + j) (source_of d, source_held d, (omega (arith, from, here), omega (arith, low, here))))
        ∙ kept_at site kept k.holds.located (source_of d) j from low

    source_own : (d : Direction) (r key : ℕ) → Hit site.shape words kept.segment (bucket_of_role kept.hash (source_of d)) r key → owner_of site.shape words (key_hash site.shape key) ≡ Some kept.segment
    source_own d r key hit = own kept.segment (bucket_of_role kept.hash (source_of d)) r key
        (subst (λ z. HasLock u.held z) (at_is site kept k.holds.located (source_of d)) (held_has kept.site kept.hash kept.segment kept.held (source_of d) u k.holds.locks (source_held d))) hit

    holds_all : (d : Direction) → IsHeld kept.held (target_of d) → HasTurn d kept → (shift : Shift) → shift_in kept d ≡ Some shift → HoldsAll site kept shift u
    holds_all d third turn shift e = record {
      insert = k.insert;
      located = k.holds.located;
      hashed = k.holds.hashed;
      there = k.holds.there;
      leads = k.holds.leads;
      locks = k.holds.locks;
      near = (k.holds.home, k.holds.probing);
      third = subst (λ (z : Direction). IsHeld kept.held (target_of z)) (sym (shift_toward site kept d k.holds.located words table (source_own d) (source_words d) shift e)) third;
      nowhere = k.nowhere;
      shifts = chosen_shifts site kept d k.holds.located words table (source_own d) (source_words d) turn shift e;
      room = k.room;
      owes = k.quiet.owed;
    }

    chosen_suits : (d : Direction) → IsHeld kept.held (target_of d) → BehindThird d kept → (o : Option Shift) → shift_in kept d ≡ o → SuitsStep site kept (chosen d o) u
    chosen_suits d third behind (Some shift) is = record {
      all = holds_all d third (turn_of d kept behind) shift is;
      prepares = λ new. tt;
      making = (make_knows (IsOfHeld kept.site kept.hash kept.segment kept.held)).new _ shift.copy (kept_words kept) u k.holds.knows (none_loose u k.quiet);
      moving = k.quiet.moving;
      planned = k.quiet.planned;
    }
    chosen_suits Forward third behind None is = (k, (behind, record { held = third; stays = none_forward kept is }), tt)
    chosen_suits Backward third behind None is = (k, record { next = behind.held; previous = third })

  pub filled_suits : (kept : Kept) (d : Direction) (u : View) → KeepsBut d site kept u → BehindThird d kept → (x : Loaded) → HasLoaded (lock_of kept (target_of d)) u.known x
      → ((i x : ℕ) → Has (i, x) u.known → words i ≡ x) → AreOwned site words u → Suits site (filled_to kept d x) u
  filled_suits kept d u k behind (loaded.On load) has newest own = (k, behind, has)
  filled_suits kept d u k behind (loaded.All ws) has newest own =
      let put : Kept = record kept { buckets = with_words (target_of d) ws kept.buckets } in
      chosen_suits put u (put_keeps site kept d ws u k has) newest own d k.third (third_put d kept ws behind) (shift_in put d) refl
