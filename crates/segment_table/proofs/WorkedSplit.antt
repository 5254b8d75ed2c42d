-- A table of eight slots, worked through: as it is formatted, and before and after each store of its first split, which
-- doubles the directory. The stores and their words are those of a run of 57 inserts; the frame is sound after each. Then the
-- stores of a repair of that split, cut off before its side is live and after.
use Rattle.std.proofs.Common.{◌≡◌, ◌≢◌, ℕ, suc, ◌+◌, ◌*◌, ◌/◌, ◌%◌, ◌^◌, ◌<◌, ◌≤◌, ◌⊎◌, inl, inr, Some, refl, sym, ap, subst, ◌∙◌, lit<, lit≤, arith}
use Rattle.std.specs.Prelude.{◌==◌, if◌then◌else◌}
use Rattle.std.proofs.lemmas.Bool.{cases_eq, ne_eqb}
use Rattle.trace.specs.Events.{Words, with_word}
use Rattle.hash_word.specs.Hash.{top}
use Rattle.segment_head.specs.HeadWord.{state_in, normal, splitting}
use Rattle.sound_image.specs.Places.{Shape, IsShape}
use Rattle.sound_image.specs.Segments.{Frame, frame_of, depth_at, IsLive, IsReadySide, HasReadySide}
use Rattle.segment_table.specs.Claims.{Claims, LeadsToClaimer, arrived, HasSoundFrame}
use Rattle.segment_table.specs.Owner.{owner, owner_below}
use Rattle.segment_table.specs.Stores.{StoreHandsOver}
use Rattle.segment_table.proofs.frames.Regions.{top_below}
use Rattle.segment_table.proofs.stores.Moved.{HeadFits, head_in_range}
use Rattle.segment_table.proofs.StoreLaws.{opens, links, begins_split, takes_slot, frees_slot, doubles, goes_live, names_claimer, names_side, ends_split, drops_split, renews}

-- eight slots, depth 3, and keys that are their own hashes: slot 0 begins at word 64 and slot 1 at word 2208
abbrev pub eight : Shape
eight = record { segments = 8; depth = 3; kind = 0 }

eight-IsShape : IsShape eight
eight-IsShape = record { some = lit≤ tt; segments = lit≤ tt; depth = lit≤ tt; kind = lit≤ tt }

-- AS FORMATTED: version 1 with the clean marker, and slot 0 normal with version 1
abbrev pub formatted : Words
formatted i = if i == 16 then 257 else (if i == 65 then 257 else 0)

abbrev frame : Frame
frame = frame_of eight formatted

header_other : (s : ℕ) → s ≢ 0 → frame.header s ≡ 0
header_other s other = rw (ne_eqb (64 + 2144 * s + 1) 16 (λ e. omega (arith, e)), ne_eqb (64 + 2144 * s + 1) 65 (λ e. other (omega (arith, e)))) refl

no_link : (s : ℕ) → frame.link s ≡ 0
no_link s = rw (ne_eqb (64 + 2144 * s + 2) 16 (λ e. omega (arith, e)), ne_eqb (64 + 2144 * s + 2) 65 (λ e. omega (arith, e))) refl

only_first : (s : ℕ) → IsLive frame s → s ≡ 0
only_first s live = elim (cases_eq s 0) [
  | inl is ↦ is
  | inr other ↦ absurd (dead (subst (λ h1. (state_in h1 ≡ normal) ⊎ (state_in h1 ≡ splitting)) (header_other s other) live))
]
  where
    dead : (state_in 0 ≡ normal) ⊎ (state_in 0 ≡ splitting) → ⊥
    dead (inl e) = omega (arith, e)
    dead (inr e) = omega (arith, e)

no_top : (h : ℕ) → h < 2 ^ 64 → top 0 h ≡ 0
no_top h fits = omega (arith, top_below 0 h (lit≤ tt) fits)

first_claims : (h : ℕ) → h < 2 ^ 64 → Claims frame 0 h
first_claims h fits = record {
  live = record { slot = lit< tt; live = inl refl; covers = no_top h fits };
  kept = λ side inside. whole side.1.splits;
}
  where
    whole : normal ≡ splitting → ⊥
    whole e = omega (arith, e)

free_fits : HeadFits 3 0
free_fits = record { known = lit≤ tt; depth = λ taken. absurd (taken refl); pattern = λ taken. absurd (taken refl) }

pub formatted-sound : HasSoundFrame eight formatted
formatted-sound = record {
  root = lit≤ tt;
  version = lit≤ tt;
  head = λ s slot. elim (cases_eq s 0) [
    | inl is ↦ head_in_range 3 frame s 257 (ap frame.header is) (record { known = lit≤ tt; depth = λ taken. lit≤ tt; pattern = λ taken. lit< tt })
    | inr other ↦ head_in_range 3 frame s 0 (header_other s other) free_fits
  ];
  link = λ s slot taken. omega (arith, no_link s);
  past = λ s slot. elim (cases_eq s 0) [
    | inl is ↦ subst (λ t. frame.header t % 2 ^ 8 ≤ 1) (sym is) (lit≤ tt)
    | inr other ↦ subst (λ h1. h1 % 2 ^ 8 ≤ 1) (sym (header_other s other)) (lit≤ tt)
  ];
  not_deep = λ s slot live. subst (λ t. depth_at frame t ≤ 0) (sym (only_first s live)) (lit≤ tt);
  some = λ h fits. (0, first_claims h fits);
  one = λ h s t fits a b. only_first s a.live.live ∙ sym (only_first t b.live.live);
  leads = λ h fits. subst (λ i. LeadsToClaimer frame h (formatted (32 + i))) (sym (no_top h fits)) (arrived (first_claims h fits));
}

-- THE SPLIT of slot 0 into slots 0 and 1, store by store
-- a restart clears the marker
abbrev pub opened : Words
opened = with_word formatted 16 1

pub opened-sound : HasSoundFrame eight opened
opened-sound =
    (opens eight formatted eight-IsShape formatted-sound 1 (record { some = lit≤ tt; past = formatted-sound.past })).goes_on.sound

-- the link of slot 0 names slot 1
abbrev pub joined : Words
joined = with_word opened 66 2

pub joined-sound : HasSoundFrame eight joined
joined-sound =
    (links eight opened eight-IsShape opened-sound 0 2 (record { slot = lit< tt; not_splitting = λ e. omega (arith, e); in_range = lit≤ tt })).goes_on.sound

-- slot 0 is splitting
abbrev pub split : Words
split = with_word joined 65 513

pub split-sound : HasSoundFrame eight split
split-sound =
    (begins_split eight joined eight-IsShape joined-sound 0 513
    (record {
      slot = lit< tt;
      was = refl;
      becomes = refl;
      region = record { depth = refl; pattern = refl };
      past = lit≤ tt;
    })).goes_on.sound

-- slot 1 is new, with depth 1 and pattern 1
abbrev pub taken : Words
taken = with_word split 2209 4295033601

pub taken-sound : HasSoundFrame eight taken
taken-sound =
    (takes_slot eight split eight-IsShape split-sound 1 4295033601
    (record { slot = lit< tt; was = refl; unlinked = refl; becomes = refl; depth = lit≤ tt; pattern = lit< tt; past = lit≤ tt })).goes_on.sound

-- both entries of the directory area of depth 1 name slot 0 already, and the root becomes 1
abbrev pub deeper : Words
deeper = with_word taken 8 1

pub deeper-sound : HasSoundFrame eight deeper
deeper-sound = (doubles eight taken eight-IsShape taken-sound (record { room = lit< tt; filled = filled })).goes_on.sound
  where
    filled : (i : ℕ) → i < 2 → taken (33 + i) ≡ taken (32 + i / 2)
    filled i below = elim (cases_eq i 0) [
      | inl is ↦ subst (λ j. taken (33 + j) ≡ taken (32 + j / 2)) (sym is) refl
      | inr other ↦ subst (λ j. taken (33 + j) ≡ taken (32 + j / 2)) (sym (second i below other)) refl
    ]
      where
        second : (i : ℕ) → i < 2 → i ≢ 0 → i ≡ 1
        second i below other = omega (arith, below, other)

-- slot 1 becomes normal, and takes the hashes with the top bit 1
abbrev pub shared : Words
shared = with_word deeper 2209 4295033089

pub handed : StoreHandsOver eight deeper 0 1 2209 4295033089
handed =
    goes_live eight deeper eight-IsShape deeper-sound 0 1 4295033089
    (record {
      slot = lit< tt;
      splits = refl;
      linked = refl;
      side_slot = lit< tt;
      was = refl;
      becomes = refl;
      depth = refl;
      pattern = refl;
      shallow = lit< tt;
      past = lit≤ tt;
    })

-- entry 1 names it
abbrev pub named : Words
named = with_word shared 34 1

pub named-sound : HasSoundFrame eight named
named-sound =
    (names_claimer eight shared eight-IsShape handed.goes_on.sound 1 1
    (record { index = lit< tt; claims = λ h fits at. (handed.given h fits at).1 })).goes_on.sound

-- slot 0 is normal again, with depth 1 and pattern 0
abbrev pub ended : Words
ended = with_word named 65 65793

ended-sound : HasSoundFrame eight ended
ended-sound =
    (ends_split eight named eight-IsShape named-sound 0 65793
    (record {
      slot = lit< tt;
      was = refl;
      ready = (1, side);
      deep = λ h fits inside. subst (λ i. 0 < depth_at (frame_of eight named) (named (33 + i))) (sym inside) (lit< tt);
      becomes = refl;
      depth = refl;
      pattern = refl;
      past = lit≤ tt;
    })).goes_on.sound
  where
    side : IsReadySide (frame_of eight named) 0 1
    side = record { splits = refl; named = refl; slot = lit< tt; live = inl refl; deeper = lit< tt; zeros = refl }

-- A REPAIR of this split, where it was cut off before slot 1 is live: slot 1 is free, and its other fields stay
abbrev freed : Words
freed = with_word deeper 2209 4295032833

freed-sound : HasSoundFrame eight freed
freed-sound =
    (frees_slot eight deeper eight-IsShape deeper-sound 1 4295032833
    (record { slot = lit< tt; was = refl; becomes = refl; past = lit≤ tt })).goes_on.sound

-- and slot 0 is normal again, as deep as before
abbrev dropped : Words
dropped = with_word freed 65 257

dropped-sound : HasSoundFrame eight dropped
dropped-sound =
    (drops_split eight freed eight-IsShape freed-sound 0 257
    (record {
      slot = lit< tt;
      was = refl;
      unready = unready;
      becomes = refl;
      region = record { depth = refl; pattern = refl };
      past = lit≤ tt;
    })).goes_on.sound
  where
    linked_slot : (n : ℕ) → 2 ≡ suc n → n ≡ 1
    linked_slot n e = omega (arith, e)

    dead : (state_in 4295032833 ≡ normal) ⊎ (state_in 4295032833 ≡ splitting) → ⊥
    dead (inl e) = omega (arith, e)
    dead (inr e) = omega (arith, e)

    unready : HasReadySide (frame_of eight freed) 0 → ⊥
    unready side = dead (subst (λ n. IsLive (frame_of eight freed) n) (linked_slot side.0 side.1.named) side.1.live)

-- and where it was cut off after that: entry 1, which names slot 0 still, is to name slot 1; the split then ends as above
repaired-sound : HasSoundFrame eight named
repaired-sound =
    (names_side eight shared eight-IsShape handed.goes_on.sound 0 1 1
    (record { slot = lit< tt; side = side; index = lit< tt; in_side = λ h fits at. at; shallow = lit≤ tt })).goes_on.sound
  where
    side : IsReadySide (frame_of eight shared) 0 1
    side = record { splits = refl; named = refl; slot = lit< tt; live = inl refl; deeper = lit< tt; zeros = refl }

-- a version byte of the table as it was formatted becomes 0
abbrev swept : Words
swept = with_word formatted 65 256

swept-sound : HasSoundFrame eight swept
swept-sound =
    (renews eight formatted eight-IsShape formatted-sound 0 256
    (record { slot = lit< tt; becomes = refl; region = record { depth = refl; pattern = refl }; past = lit≤ tt })).goes_on.sound

-- THE OWNERS of the first hash of each half, before and after: they move when slot 1 becomes normal, and at no other store
abbrev low : ℕ
low = 0

abbrev high : ℕ
high = 2 ^ 63

formatted_owners : (owner (frame_of eight formatted) low ≡ Some 0) × (owner (frame_of eight formatted) high ≡ Some 0)
unfolding owner_below
formatted_owners = (refl, refl)

doubled_owners : (owner (frame_of eight deeper) low ≡ Some 0) × (owner (frame_of eight deeper) high ≡ Some 0)
unfolding owner_below
doubled_owners = (refl, refl)

shared_owners : (owner (frame_of eight shared) low ≡ Some 0) × (owner (frame_of eight shared) high ≡ Some 1)
unfolding owner_below
shared_owners = (refl, refl)

named_owners : (owner (frame_of eight named) low ≡ Some 0) × (owner (frame_of eight named) high ≡ Some 1)
unfolding owner_below
named_owners = (refl, refl)

ended_owners : (owner (frame_of eight ended) low ≡ Some 0) × (owner (frame_of eight ended) high ≡ Some 1)
unfolding owner_below
ended_owners = (refl, refl)
