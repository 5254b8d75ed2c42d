-- The first split of a table of eight slots, and what may be said of it: of the segment that splits before and after each store, of its
-- side from when it is new, and of who has which half. One fact is lost, when the side goes live: that slot 0 owns all hashes.
use Rattle.std.proofs.Common.{◌≡◌, ◌≢◌, ℕ, ◌+◌, ◌-◌, ◌/◌, ◌^◌, ◌<◌, inl, inr, refl, sym, subst, lit<, lit≤, arith}
use Rattle.std.proofs.lemmas.Bool.{cases_eq}
use Rattle.hash_word.specs.Hash.{top}
use Rattle.trace.specs.Events.{Words, with_word}
use Rattle.image_layout.specs.Places.{IsShape}
use Rattle.bucket_words.specs.Segments.{frame_of}
use Rattle.bucket_words.specs.Claims.{HasSoundFrame}
use Rattle.bucket_words.specs.Stores.{Links, BeginsSplit, TakesSlot, Doubles, GoesLive, NamesClaimer, EndsSplit}
use Rattle.bucket_words.proofs.frames.Regions.{top_below}
use Rattle.bucket_words.proofs.Claimers.{ready_claims_none}
use Rattle.bucket_words.proofs.WorkedSplit.{eight, opened, opened-sound, joined, joined-sound, split, split-sound, taken, taken-sound, deeper, deeper-sound, shared, handed, named, named-sound, ended}
use Rattle.frame_facts.specs.Facts.{Fact, Lives, Current, Rooted, Owns, Lacks, Deep, Begins, Used, Taken, HoldsFact}
use Rattle.frame_facts.specs.Keeping.{AreSound, ClaimsNoneOfSide, KeepsFact, KeepsFacts}
use Rattle.frame_facts.proofs.Stores.{takes, begins, ends, linked, doubled, named_claimer, went_live}
use Rattle.frame_facts.proofs.Told.{unready_claims, normal_unready, side_claims, segment_lacks, deep_told, claimer_by_claims}

pub eight-IsShape : IsShape eight
eight-IsShape = record { some = lit≤ tt; segments = lit≤ tt; depth = lit≤ tt; kind = lit≤ tt }

-- all is settled: the medium has the newest words
pub settled : (word : Words) → HasSoundFrame eight word → AreSound eight word word
settled word sound = record { shape_fits = eight-IsShape; newest = sound; there = sound }

abbrev Says : Words → Fact → Type 0
Says word fact = HoldsFact eight 1 word fact word

-- of slot 0, throughout
record SaysOfFirst (word : Words) : Type 0 where
  lives : Says word (Lives 0)
  current : Says word (Current 0)
  rooted : Says word (Rooted 0)
  begins : Says word (Begins 0 0)

first_goes_on : (word : Words) (i x : ℕ) → ((fact : Fact) → KeepsFact eight 1 word word i x fact) → SaysOfFirst word → SaysOfFirst (with_word word i x)
first_goes_on word i x keeps says = record {
  lives = (keeps (Lives 0)).has says.lives;
  current = (keeps (Current 0)).has says.current;
  rooted = (keeps (Rooted 0)).has says.rooted;
  begins = (keeps (Begins 0 0)).has says.begins;
}

-- A RESTART has cleared the marker
opened_first : SaysOfFirst opened
opened_first = record {
  lives = record { slot = lit< tt; live = inl refl };
  current = record { live = record { slot = lit< tt; live = inl refl }; current = refl };
  rooted = (lit≤ tt, λ i below. subst (λ j. Says opened (Lives (opened (32 + j)))) (sym (none i below)) (record { slot = lit< tt; live = inl refl }));
  begins = (record { slot = lit< tt; live = inl refl }, refl);
}
  where
    none : (i : ℕ) → i < 1 → i ≡ 0
    none i below = omega (arith, below)

opened_owns : Says opened (Owns 0 0 0)
opened_owns = unready_claims (frame_of eight opened) 0 (record { slot = lit< tt; live = inl refl }) (normal_unready (frame_of eight opened) 0 refl)

-- THE LINK of slot 0 names slot 1
joins : Links (frame_of eight opened) 0 2
joins = record { slot = lit< tt; not_splitting = λ e. omega (arith, e); in_range = lit≤ tt }

joined_keeps : KeepsFacts eight 1 opened opened 66 2
joined_keeps = linked eight 1 opened opened (settled opened opened-sound) 0 2 (joins, joins)

-- SLOT 0 is splitting, with the version that it had
splits : BeginsSplit (frame_of eight joined) 0 513
splits = record { slot = lit< tt; was = refl; becomes = refl; region = record { depth = refl; pattern = refl }; past = lit≤ tt }

split_keeps : KeepsFacts eight 1 joined joined 65 513
split_keeps = begins eight 1 joined joined (settled joined joined-sound) 0 513 (splits, splits) (λ is. refl)

-- SLOT 1 is new, with depth 1 and pattern 1: from here on it is taken for good
takes_one : TakesSlot (frame_of eight split) 3 1 4295033601
takes_one = record { slot = lit< tt; was = refl; unlinked = refl; becomes = refl; depth = lit≤ tt; pattern = lit< tt; past = lit≤ tt }

taken_keeps : KeepsFacts eight 1 split split 2209 4295033601
taken_keeps = takes eight 1 split split (settled split split-sound) 1 4295033601 (takes_one, takes_one)

taken_used : Says taken (Used 1)
taken_used = inr (
  0,
  record { slot = lit< tt; splits = refl; current = refl; linked = refl; side_slot = lit< tt; new = refl; depth = refl; pattern = refl },
)

-- THE ROOT becomes 1: both entries of the area of depth 1 name slot 0 already
filled : Doubles eight taken
filled = record { room = lit< tt; filled = named }
  where
    second : (i : ℕ) → i < 2 → i ≢ 0 → i ≡ 1
    second i below other = omega (arith, below, other)

    named : (i : ℕ) → i < 2 → taken (33 + i) ≡ taken (32 + i / 2)
    named i below = elim (cases_eq i 0) [
      | inl is ↦ subst (λ j. taken (33 + j) ≡ taken (32 + j / 2)) (sym is) refl
      | inr other ↦ subst (λ j. taken (33 + j) ≡ taken (32 + j / 2)) (sym (second i below other)) refl
    ]

deeper_keeps : KeepsFacts eight 1 taken taken 8 1
deeper_keeps = doubled eight 1 taken taken (settled taken taken-sound) refl (filled, filled)

deeper_first : SaysOfFirst deeper
deeper_first =
    first_goes_on taken 8 1 deeper_keeps (first_goes_on split 2209 4295033601 taken_keeps
    (first_goes_on joined 65 513 split_keeps (first_goes_on opened 66 2 joined_keeps opened_first)))

taken_taken : Says taken (Taken 1)
taken_taken = record { slot = lit< tt; taken = λ e. omega (arith, e) }

deeper_used : Says deeper (Used 1)
deeper_used = (deeper_keeps (Used 1)).has taken_used

-- slot 0 owns all hashes, and so each half
deeper_owns : Says deeper (Owns 0 0 0)
deeper_owns = (deeper_keeps (Owns 0 0 0)).has ((taken_keeps (Owns 0 0 0)).has ((split_keeps (Owns 0 0 0)).has ((joined_keeps (Owns 0 0 0)).has opened_owns)))

deeper_half : Says deeper (Owns 0 1 0)
deeper_half h fits covers = deeper_owns h fits (omega (arith, top_below 0 h (lit≤ tt) fits))

-- SLOT 1 becomes normal
shares : GoesLive (frame_of eight deeper) 0 1 4295033089
shares = record {
  slot = lit< tt;
  splits = refl;
  linked = refl;
  side_slot = lit< tt;
  was = refl;
  becomes = refl;
  depth = refl;
  pattern = refl;
  shallow = lit< tt;
  past = lit≤ tt;
}

pub shared-sound : HasSoundFrame eight shared
shared-sound = handed.goes_on.sound

shared_keeps : (fact : Fact) → ClaimsNoneOfSide (frame_of eight deeper) 0 fact → KeepsFact eight 1 deeper deeper 2209 4295033089 fact
shared_keeps = went_live eight 1 deeper deeper (settled deeper deeper-sound) 0 1 4295033089 (shares, shares)

shared_first : SaysOfFirst shared
shared_first = record {
  lives = (shared_keeps (Lives 0) tt).has deeper_first.lives;
  current = (shared_keeps (Current 0) tt).has deeper_first.current;
  rooted = (shared_keeps (Rooted 0) tt).has deeper_first.rooted;
  begins = (shared_keeps (Begins 0 0) tt).has deeper_first.begins;
}

shared_taken : Says shared (Taken 1)
shared_taken = (shared_keeps (Taken 1) tt).has ((deeper_keeps (Taken 1)).has taken_taken)

shared_used : Says shared (Used 1)
shared_used = (shared_keeps (Used 1) tt).has deeper_used

-- slot 0 keeps its half, slot 1 has the other one
other_half : ClaimsNoneOfSide (frame_of eight deeper) 0 (Owns 0 1 0)
other_half same h fits covers inside = not_both (top 1 h) covers inside
  where
    not_both : (a : ℕ) → a ≡ 0 → a ≡ 1 → ⊥
    not_both a is_zero is_one = omega (arith, is_zero, is_one)

shared_half : Says shared (Owns 0 1 0)
shared_half = (shared_keeps (Owns 0 1 0) other_half).has deeper_half

shared_owns : Says shared (Owns 1 1 1)
shared_owns = side_claims 3 (frame_of eight deeper) (frame_of eight shared) 0 1 handed

shared_lacks : Says shared (Lacks 0 1 1)
shared_lacks = (shared_first.lives, segment_lacks 3 (frame_of eight deeper) (frame_of eight shared) 0 1 handed (λ e. omega (arith, e)))

-- and does not own all hashes any more: the last one of them is slot 1's
shared_lost : Says shared (Owns 0 0 0) → ⊥
shared_lost owns = shared_lacks.1 (2 ^ 64 - 1) (lit< tt) refl (owns (2 ^ 64 - 1) (lit< tt) refl)

-- BEFORE IT IS SETTLED, a power cut may leave the words without the store: there all is said still, and of slot 0 that it owns all
lagging_used : HoldsFact eight 1 shared (Used 1) deeper
lagging_used = (shared_keeps (Used 1) tt).without deeper_used

lagging_half : HoldsFact eight 1 shared (Owns 0 1 0) deeper
lagging_half = (shared_keeps (Owns 0 1 0) other_half).without deeper_half

-- ENTRY 1 names slot 1, which owns its hashes
names : NamesClaimer (frame_of eight shared) 1 1
names = claimer_by_claims (frame_of eight shared) 1 1 0 1 1 refl (lit≤ tt) (lit< tt) refl shared_owns

named_keeps : KeepsFacts eight 1 shared shared 34 1
named_keeps = named_claimer eight 1 shared shared (settled shared shared-sound) refl 1 1 (names, names)

named_first : SaysOfFirst named
named_first = first_goes_on shared 34 1 named_keeps shared_first

named_lacks : Says named (Lacks 0 1 1)
named_lacks = (named_keeps (Lacks 0 1 1)).has shared_lacks

named_deep : Says named (Deep 0 1 1)
named_deep = deep_told (frame_of eight named) 0 1 (lit< tt)

-- THE SPLIT ENDS, which the two facts allow: slot 0 is normal, with depth 1 and pattern 0
may_end : EndsSplit (frame_of eight named) 0 65793
may_end = record {
  slot = lit< tt;
  was = refl;
  ready = (ready_claims_none 3 (lit≤ tt) (frame_of eight named) named-sound 0 (lit< tt) (inr refl)).1 named_lacks.1;
  deep = named_deep;
  becomes = refl;
  depth = refl;
  pattern = refl;
  past = lit≤ tt;
}

ended_keeps : KeepsFacts eight 1 named named 65 65793
ended_keeps = ends eight 1 named named (settled named named-sound) 0 65793 (may_end, may_end) (λ is. refl)

ended_first : SaysOfFirst ended
ended_first = first_goes_on named 65 65793 ended_keeps named_first

ended_halves : Says ended (Owns 0 1 0) × Says ended (Owns 1 1 1)
ended_halves =
    ((ended_keeps (Owns 0 1 0)).has ((named_keeps (Owns 0 1 0)).has shared_half), (ended_keeps (Owns 1 1 1)).has ((named_keeps (Owns 1 1 1)).has shared_owns))
