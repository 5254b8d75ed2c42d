-- Repairs of the first split of a table of eight slots, cut off before its side is live and after: what facts let them store, and what
-- may be said throughout.
use Rattle.std.proofs.Common.{◌≡◌, ◌≢◌, ℕ, suc, ◌+◌, ◌%◌, ◌^◌, ◌<◌, ◌≤◌, ◌⊎◌, inl, inr, refl, sym, ap, subst, lit<, lit≤, arith}
use Rattle.trace.specs.Events.{Words, with_word}
use Rattle.segment_head.specs.HeadWord.{version_in, state_in, normal, splitting}
use Rattle.bucket_words.specs.Segments.{frame_of, IsReadySide, HasReadySide}
use Rattle.bucket_words.specs.Claims.{HasSoundFrame}
use Rattle.bucket_words.specs.Stores.{FreesSlot, NamesSide, DropsSplit, Renews}
use Rattle.bucket_words.proofs.frames.Regions.{top_below}
use Rattle.bucket_words.proofs.Claimers.{unready_claims_all}
use Rattle.bucket_words.proofs.StoreLaws.{opens, frees_slot, drops_split}
use Rattle.bucket_words.proofs.WorkedSplit.{eight, deeper, deeper-sound, shared}
use Rattle.frame_facts.specs.Facts.{Fact, Lives, Current, Rooted, Owns, Begins, Taken, IsNewSide, HoldsFact}
use Rattle.frame_facts.specs.Keeping.{KeepsFact, KeepsFacts}
use Rattle.frame_facts.proofs.Sides.{one_parent}
use Rattle.frame_facts.proofs.Stores.{frees, drops, renewed, named_side}
use Rattle.frame_facts.proofs.Told.{current_told, unready_claims, names_side}
use Rattle.frame_facts.proofs.WorkedFacts.{shared-sound, eight-IsShape, settled}

abbrev Says : Words → Fact → Type 0
Says word fact = HoldsFact eight 2 word fact word

one_two : (a : ℕ) → a ≡ 1 → a ≡ 2 → ⊥
one_two a one two = omega (arith, one, two)

-- CUT OFF BEFORE slot 1 is live: a restart has made the version 2, so slot 0, which is splitting, is not current
abbrev cut : Words
cut = with_word deeper 16 2

one_past : (word : Words) → HasSoundFrame eight word → word 16 ≡ 1 → (s : ℕ) → s < 8 → version_in ((frame_of eight word).header s) ≤ 2
one_past word sound is s slot = omega (arith, subst (λ w. version_in ((frame_of eight word).header s) ≤ w % 2 ^ 8) is (sound.past s slot))

cut-sound : HasSoundFrame eight cut
cut-sound = (opens eight deeper eight-IsShape deeper-sound 2 (record { some = lit≤ tt; past = one_past deeper deeper-sound refl })).goes_on.sound

cut_begins : Says cut (Begins 0 0)
cut_begins = (record { slot = lit< tt; live = inr refl }, refl)

-- its new side is that of a segment of an older version, so no current segment splits to it
side_of_old : IsNewSide (frame_of eight cut) 1 0 1
side_of_old = record { slot = lit< tt; splits = refl; current = refl; linked = refl; side_slot = lit< tt; new = refl; depth = refl; pattern = refl }

unused : (s : ℕ) → IsNewSide (frame_of eight cut) 2 s 1 → ⊥
unused s side =
    let same : s ≡ 0 = one_parent 3 (frame_of eight cut) (lit≤ tt) cut-sound 2 1 s 0 1 side side_of_old in
    one_two (version_in ((frame_of eight cut).header s)) (ap (λ u. version_in ((frame_of eight cut).header u)) same) side.current

-- SLOT 1 is freed
abbrev freed : Words
freed = with_word cut 2209 4295032833

frees_one : FreesSlot (frame_of eight cut) 1 4295032833
frees_one = record { slot = lit< tt; was = refl; becomes = refl; past = lit≤ tt }

freed-sound : HasSoundFrame eight freed
freed-sound = (frees_slot eight cut eight-IsShape cut-sound 1 4295032833 frees_one).goes_on.sound

freed_keeps : (fact : Fact) → fact ≢ Taken 1 → KeepsFact eight 2 cut cut 2209 4295032833 fact
freed_keeps = frees eight 2 cut cut (settled cut cut-sound) 1 4295032833 (frees_one, frees_one) unused

-- but one fact: that it is taken
cut_taken : Says cut (Taken 1)
cut_taken = record { slot = lit< tt; taken = λ e. omega (arith, e) }

freed_lost : Says freed (Taken 1) → ⊥
freed_lost is = is.taken refl

begins_not_taken : Begins 0 0 ≢ Taken 1
begins_not_taken e = cc

-- THE SPLIT of slot 0 is dropped: it has no ready side
abbrev dropped : Words
dropped = with_word freed 65 257

unready : HasReadySide (frame_of eight freed) 0 → ⊥
unready side = dead (subst (λ n. (state_in ((frame_of eight freed).header n) ≡ normal) ⊎ (state_in ((frame_of eight freed).header n) ≡ splitting)) (linked_slot side.0 side.1.named) side.1.live)
  where
    linked_slot : (n : ℕ) → 2 ≡ suc n → n ≡ 1
    linked_slot n e = omega (arith, e)

    dead : (state_in 4295032833 ≡ normal) ⊎ (state_in 4295032833 ≡ splitting) → ⊥
    dead (inl e) = omega (arith, e)
    dead (inr e) = omega (arith, e)

-- so it owns all hashes, and that it owns its 1-side lets it drop the split
freed_owns : Says freed (Owns 0 0 0)
freed_owns = unready_claims (frame_of eight freed) 0 (record { slot = lit< tt; live = inr refl }) unready

freed_side : Says freed (Owns 0 1 1)
freed_side h fits covers = freed_owns h fits (omega (arith, top_below 0 h (lit≤ tt) fits))

drops_zero : DropsSplit (frame_of eight freed) 0 257
drops_zero = record {
  slot = lit< tt;
  was = refl;
  unready = (unready_claims_all 3 (lit≤ tt) (frame_of eight freed) freed-sound 0 (lit< tt) (inr refl)).1 freed_side;
  becomes = refl;
  region = record { depth = refl; pattern = refl };
  past = lit≤ tt;
}

dropped-sound : HasSoundFrame eight dropped
dropped-sound = (drops_split eight freed eight-IsShape freed-sound 0 257 drops_zero).goes_on.sound

dropped_keeps : KeepsFacts eight 2 freed freed 65 257
dropped_keeps = drops eight 2 freed freed (settled freed freed-sound) 0 257 (drops_zero, drops_zero)
    (λ is. absurd (one_two (version_in (freed 65)) refl is)) (λ n side. one_two (version_in (freed 65)) refl side.current)

-- AND SLOT 0 gets the image's version: it is current
abbrev renewed_words : Words
renewed_words = with_word dropped 65 258

renews_zero : Renews (frame_of eight dropped) 0 258
renews_zero = record { slot = lit< tt; becomes = refl; region = record { depth = refl; pattern = refl }; past = lit≤ tt }

renewed_keeps : KeepsFacts eight 2 dropped dropped 65 258
renewed_keeps = renewed eight 2 dropped dropped (settled dropped dropped-sound) 0 258 (renews_zero, renews_zero) ((λ is. refl), (λ is. refl))

renewed_owns : Says renewed_words (Owns 0 0 0)
renewed_owns = (renewed_keeps (Owns 0 0 0)).has ((dropped_keeps (Owns 0 0 0)).has freed_owns)

renewed_begins : Says renewed_words (Begins 0 0)
renewed_begins = (renewed_keeps (Begins 0 0)).has ((dropped_keeps (Begins 0 0)).has ((freed_keeps (Begins 0 0) begins_not_taken).has cut_begins))

renewed_current : Says renewed_words (Current 0)
renewed_current = current_told eight 2 renewed_words renewed_words 0 (lit< tt) (inl refl) refl

-- CUT OFF AFTER slot 1 is live: entry 1 names slot 0 still
abbrev halved : Words
halved = with_word shared 16 2

halved-sound : HasSoundFrame eight halved
halved-sound = (opens eight shared eight-IsShape shared-sound 2 (record { some = lit≤ tt; past = one_past shared shared-sound refl })).goes_on.sound

halved_begins : Says halved (Begins 0 0)
halved_begins = (record { slot = lit< tt; live = inr refl }, refl)

side : IsReadySide (frame_of eight halved) 0 1
side = record { splits = refl; named = refl; slot = lit< tt; live = inl refl; deeper = lit< tt; zeros = refl }

-- what it names begins no later than slot 0, so it is mended
mends : NamesSide (frame_of eight halved) 0 1 1
mends =
    names_side 3 (lit≤ tt) (frame_of eight halved) halved-sound 0 1 1 (lit< tt) side (lit< tt) (record { from = lit≤ tt; to = lit< tt }) 0
    halved_begins.0 halved_begins.1 (lit≤ tt)

mended_keeps : KeepsFacts eight 2 halved halved 34 1
mended_keeps = named_side eight 2 halved halved (settled halved halved-sound) refl 0 1 1 (mends, mends)

mended_rooted : Says (with_word halved 34 1) (Rooted 0)
mended_rooted = (mended_keeps (Rooted 0)).has (lit≤ tt, λ i below. subst (λ j. Says halved (Lives (halved (32 + j)))) (sym (none i below)) (record { slot = lit< tt; live = inr refl }))
  where
    none : (i : ℕ) → i < 1 → i ≡ 0
    none i below = omega (arith, below)
