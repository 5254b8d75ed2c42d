-- What each step leaves as it was: the power word, lock words that are free with the last version, what every key has but for
-- the two that make a change, and what its caller has seen.
use Rattle.std.proofs.Common.{◌≡◌, ℕ, inl, inr, refl, sym, ap, ◌∙◌}
use Rattle.op_core.specs.declared.want.Want.{Want}
use Rattle.trace.specs.Events.{Words, with_word}
use Rattle.image_layout.specs.Places.{Shape}
use Rattle.image_layout.specs.Volatile.{power_word}
use Rattle.frame_facts.specs.Hits.{find}
use Rattle.world.specs.Ground.{Ground}
use Rattle.world.specs.Wants.{words_after}
use Rattle.world.specs.Kinds.{Kind}
use Rattle.world.specs.Laws.{words_by}
use Rattle.world.specs.areas.Kinds.{wanted_at}
use Rattle.world.specs.StepKinds.{of_call, of_structure, IsMildKind, of_peek, of_power, of_flush, of_cut}
use Rattle.world.specs.StepLaws.{PowerStays, OtherStepsKeepPairs, SpentLocksStay, RepliesComeLater}
use Rattle.world.proofs.basics.Tables.{same_find, power_cores}
use Rattle.world.proofs.device.Worlds.{one_word}
use Rattle.world.proofs.stepping.Steps.{power_kept}
use Rattle.world.proofs.stepping.SpentLocks.{spent_lock_stays}
use Rattle.world.proofs.stepping.Pairs.{pairs_kept}
use Rattle.world.proofs.stepping.Later.{later_same, later_at}
use Rattle.world.proofs.mild.Kept.{steps_spare, steps_reply_nothing}
use Rattle.world.proofs.mild.Callers.{backing_stands}
use Rattle.world.proofs.moving.SpentNumbers.{spending_stands}
use Rattle.world.proofs.calls.mildly.Mildly.{mild_or_none}

-- the words that a want leaves are the same whoever wants it
same_for_all : (shape : Shape) (want : Want) (c d : ℕ) (words : Words) → words_after shape want c words ≡ words_after shape want d words
same_for_all shape want c d words = one_word shape want c words ∙ sym (one_word shape want d words)

pub power_stays : PowerStays
power_stays site words views j v (of_call kind) c h at other may = power_kept site words views j v h.locks at c kind (λ e. other (ap of_call e)) may.0
power_stays site words views j v (of_structure kind) c h at other may =
    ap (λ (us : Words). us (power_word site.shape)) (same_for_all site.shape (wanted_at site.shape kind) c j words) ∙ steps_spare.power site kind words views j v h at may

pub spent_locks_stay : SpentLocksStay
spent_locks_stay site words views j v (of_call kind) lock h at may is = spent_lock_stays site words views j v (spending_stands site words views h) at lock kind may.0 is
spent_locks_stay site words views j v (of_structure kind) lock h at may is = steps_spare.spent site kind words views j v h at may lock is

-- a mild kind stores to no word that has a part in a pair
mild_pairs : (site : Ground) (words : Words) (kind : Kind) → IsMildKind kind → (number k : ℕ) → find site.shape (words_by site kind number words) k ≡ find site.shape words k
mild_pairs site words kind (of_peek i) number k = refl
mild_pairs site words kind of_power number k = refl
mild_pairs site words kind (of_flush l) number k = refl
mild_pairs site words kind of_cut number k = same_find site (with_word words (power_word site.shape) 1) words k (power_cores site words 1)

pub pairs_stay : OtherStepsKeepPairs
pairs_stay site words views j v (of_call kind) number h at may other k = elim (mild_or_none site v kind) [
  | inl mild ↦ mild_pairs site words kind mild number k
  | inr none ↦ pairs_kept site words views j v (backing_stands site words views j v h at (none may.1)) at number kind may.0 other k
]
pairs_stay site words views j v (of_structure kind) number h at may other k =
    ap (λ (us : Words). find site.shape us k) (same_for_all site.shape (wanted_at site.shape kind) number j words) ∙ steps_spare.pairs site kind words views j v h at may k

pub later_view : RepliesComeLater
later_view site words views j v (of_call kind) h at = later_at site words views j v h.log h.history (λ a. h.notes.answered j v a at) at kind
later_view site words views j v (of_structure kind) h at = later_same v _ (steps_reply_nothing.own site kind words v) (steps_reply_nothing.seen site kind words v)
