-- Each step keeps the world well, where it keeps what holds.
use Rattle.std.proofs.Common.{◌≡◌, ℕ, List, ◌∷◌, sym, ap, subst}
use Rattle.trace.specs.Events.{Words, Trace, value, after}
use Rattle.world.specs.Ground.{Ground}
use Rattle.world.specs.Views.{View, At}
use Rattle.world.specs.Wants.{word_of, event_of}
use Rattle.world.specs.Tied.{Tied}
use Rattle.world.specs.Invariant.{Holds}
use Rattle.world.specs.StepKinds.{StepKind, of_call, of_structure, wanted_of, view_by, MayTake}
use Rattle.world.specs.StepLaws.{found_of, words_of_step, views_of_step, Keeps, StepsDoEvents, KeepsWell}
use Rattle.world.proofs.device.Worlds.{changed_is}
use Rattle.world.proofs.moving.media.Tying.{keep_tied, callers_keep_tied}

-- the events of the device and the views stay tied
steps_tied : (site : Ground) (start : Words) (es : Trace) (views : List View) (kind : StepKind) (j : ℕ) (v : View) → At views j v → MayTake site kind v → Tied site start es views
    → Holds site (value start es) views
    → Tied site start (event_of site.shape (wanted_of site.shape kind) (found_of site kind (value start es)) j ∷ es) (views_of_step site kind j v (value start es) views)
steps_tied site start es views (of_call kind) j v at may tied h = callers_keep_tied site start es kind views j v h at may.0 tied
steps_tied site start es views (of_structure kind) j v at may tied h = keep_tied site start es kind views j v h at may tied

-- so they do over words that the events made
tied_after : (site : Ground) (start : Words) (es : Trace) (views : List View) (kind : StepKind) (j : ℕ) (v : View) → At views j v → MayTake site kind v → Tied site start es views
    → (ws : Words) → ws ≡ value start es → Holds site ws views
    → Tied site start (event_of site.shape (wanted_of site.shape kind) (found_of site kind ws) j ∷ es) (views_of_step site kind j v ws views)
tied_after site start es views kind j v at may tied ws is =
    subst (λ (ws : Words). Holds site ws views → Tied site start (event_of site.shape (wanted_of site.shape kind) (found_of site kind ws) j ∷ es) (views_of_step site kind j v ws views))
    (sym is) (λ h. steps_tied site start es views kind j v at may tied h)

pub does_its_event : StepsDoEvents
does_its_event shape start kind j world is = ap (after (event_of shape (wanted_of shape kind) (world.words (word_of shape (wanted_of shape kind))) j)) is

pub steps_keep_well : ((site : Ground) (kind : StepKind) → Keeps site kind) → KeepsWell
steps_keep_well every site start kind world j v well at may =
    let same = changed_is j (view_by site.shape kind (found_of site kind world.words)) world.views v at in
    record {
      words_are = does_its_event site.shape start kind j world well.words_are;
      holds = subst (λ (views : List View). Holds site (words_of_step site kind j world.words) views) (sym same) (every site kind world.words world.views j v well.holds at may).0;
      tied = subst (λ (views : List View). Tied site start (event_of site.shape (wanted_of site.shape kind) (found_of site kind world.words) j ∷ world.trace) views) (sym same)
          (tied_after site start world.trace world.views kind j v at may well.tied world.words well.words_are well.holds);
    }
