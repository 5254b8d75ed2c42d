-- A guard that is taken, and a segment that is split, is some view's that has areas.
use Rattle.std.proofs.Common.{◌≡◌, ℕ, ◌<◌, List, inl, inr, subst}
use Rattle.std.proofs.lemmas.Bool.{cases_eq}
use Rattle.trace.specs.Events.{Words}
use Rattle.segment_head.specs.HeadWord.{state_in, splitting}
use Rattle.world.specs.Ground.{Ground, IsCurrentIn}
use Rattle.world.specs.Views.{View, Has, At}
use Rattle.world.specs.areas.Areas.{Area, Whole, header_word}
use Rattle.world.specs.areas.Kinds.{guard_word, area_of}
use Rattle.world.specs.Slots.{AllCurrent, OthersHaveNoAreas, RestsAreQuiet, OthersAreQuiet, CurrentSegmentsRest}
use Rattle.world.proofs.basics.Seats.{is_v}
use Rattle.world.proofs.calls.deeds.Calls.{has_none}

-- an area that some view has is that of the one view with areas
only_here : (views : List View) (j : ℕ) (v : View) → At views j v → OthersHaveNoAreas j views → (i : ℕ) (u : View) (a : Area) → At views i u → Has a u.areas → Has a v.areas
only_here views j v at none i u a here has = elim (cases_eq i j) [
  | inl e ↦ subst (λ (u : View). Has a u.areas) (is_v views j v v at i u here e) has
  | inr apart ↦ absurd (has_none u (none i u apart here) a has)
]

-- a segment that is split is current
splits_current : (site : Ground) (words : Words) → AllCurrent site words → (s : ℕ) → s < site.shape.segments → state_in (words (header_word site.shape s)) ≡ splitting → IsCurrentIn site words s
splits_current site words all s slot split = record {
  live = record { slot = slot; live = inr split };
  current = all s (record { slot = slot; live = inr split });
}

pub rests_are_quiet : RestsAreQuiet
rests_are_quiet = record {
  guards = λ site words views h none guard is. elim (cases_eq (words (guard_word site.shape guard)) 0) [
    | inl e ↦ e
    | inr some ↦ absurd (let o = h.structure.held_guards guard is some in has_none o.1 (none o.0 o.1 o.2) (area_of guard) o.3)
  ];
  splits = λ site words views h none all s slot split.
      let o = h.structure.fits.splits s (splits_current site words all s slot split) split in has_none o.1 (none o.0 o.1 o.2) (Whole s) o.3;
}

pub others_are_quiet : OthersAreQuiet
others_are_quiet = record {
  guards = λ site words views j v h at none guard is some. let o = h.structure.held_guards guard is some in only_here views j v at none o.0 o.1 (area_of guard) o.2 o.3;
  splits = λ site words views j v h at none all s slot split.
      let o = h.structure.fits.splits s (splits_current site words all s slot split) split in
      let whole = only_here views j v at none o.0 o.1 (Whole s) o.2 o.3 in
      ((h.structure.fits.whole j v s at whole).0, whole);
}

pub current_segments_rest : CurrentSegmentsRest
current_segments_rest = record {
  nobody = λ site words views h none s is split. let o = h.structure.fits.splits s is split in has_none o.1 (none o.0 o.1 o.2) (Whole s) o.3;
  others = λ site words views j v h at none s is split.
      let o = h.structure.fits.splits s is split in
      let whole = only_here views j v at none o.0 o.1 (Whole s) o.2 o.3 in
      ((h.structure.fits.whole j v s at whole).0, whole);
}
