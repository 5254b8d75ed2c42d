-- Each kind of step at the structure keeps plans, records, the notes of homes, the notes of readers, and all that it does not touch.
use Rattle.std.proofs.Common.{ℕ, List}
use Rattle.trace.specs.Events.{Words}
use Rattle.world.specs.Ground.{Ground}
use Rattle.world.specs.Views.{View, At}
use Rattle.world.specs.areas.Kinds.{StructureKind, view_then}
use Rattle.world.specs.areas.Asking.{MayBeNewest, MayStandBeside, MayAt}
use Rattle.world.specs.Invariant.{Holds}
use Rattle.world.specs.areas.Keeping.{found_at, words_then, KeepsOwnedRecords, KeepsNotesOfHomes, KeepsOthers, StructureStepsSpare, StructureStepsReplyNothing}
use Rattle.world.proofs.moving.Known.{known_is_so}
use Rattle.world.proofs.mild.Mild.{IsMild, records, notes_of_homes, plans}
use Rattle.world.proofs.mild.Steps.{mild_step}
use Rattle.world.proofs.mild.Noted.{SparesNotes, spares_notes, notes_stay}
use Rattle.world.proofs.mild.Rest.{KeepsFar, HasSame, keeps_far, same_view, history, room, spending, powered}

module _ (site : Ground) (kind : StructureKind) (words : Words) (views : List View) (j : ℕ) (v : View) (h : Holds site words views) (at : At views j v) (may : MayAt site kind v) where
  abbrev w : View
  w = view_then site.shape kind (found_at site kind words) v

  abbrev us : Words
  us = words_then site kind j words

  now : MayBeNewest site v words
  now = known_is_so.newest site words views j v h at

  itself : MayStandBeside site v words words
  itself = known_is_so.itself site words views j v h at

  mild : IsMild site words us v w
  mild = mild_step site words views j v h at now itself kind may

  spares : SparesNotes site words us
  spares = spares_notes site words views j v h at now itself kind may

  far : KeepsFar site words us
  far = keeps_far site words views j v h at now kind may (λ s live. (spares.heads s live).0)

  same : HasSame v w
  same = same_view site words v kind

pub records_kept : KeepsOwnedRecords
records_kept site kind words views j v h at may = records site words (words_then site kind j words) views j v (view_then site.shape kind (found_at site kind words) v) h at
    (mild site kind words views j v h at may)

pub notes_of_homes_kept : KeepsNotesOfHomes
notes_of_homes_kept site kind words views j v h at may = notes_of_homes site words (words_then site kind j words) views j v (view_then site.shape kind (found_at site kind words) v) h at
    (mild site kind words views j v h at may)

pub others_kept : KeepsOthers
others_kept = record {
  plans = λ site kind words views j v h at may. plans site words (words_then site kind j words) views j v (view_then site.shape kind (found_at site kind words) v) h at
      (mild site kind words views j v h at may);
  history = λ site kind words views j v h at may. history site words (words_then site kind j words) views j v (view_then site.shape kind (found_at site kind words) v) h at
      (far site kind words views j v h at may) (same site kind words views j v h at may);
  notes = λ site kind words views j v h at may. notes_stay site words (words_then site kind j words) views h.log j v (view_then site.shape kind (found_at site kind words) v) at h.notes
      (spares site kind words views j v h at may) (same site kind words views j v h at may).alike;
  room = λ site kind words views j v h at may. room site words (words_then site kind j words) views j v (view_then site.shape kind (found_at site kind words) v) h at
      (far site kind words views j v h at may) (same site kind words views j v h at may);
  spending = λ site kind words views j v h at may. spending site words (words_then site kind j words) views j v (view_then site.shape kind (found_at site kind words) v) h at
      (far site kind words views j v h at may) (same site kind words views j v h at may);
  powered = λ site kind words views j v h at may. powered site words (words_then site kind j words) views j v (view_then site.shape kind (found_at site kind words) v) h at
      (far site kind words views j v h at may) (same site kind words views j v h at may);
}

pub steps_spare : StructureStepsSpare
steps_spare = record {
  pairs = λ site kind words views j v h at may. (mild site kind words views j v h at may).pairs;
  power = λ site kind words views j v h at may. (far site kind words views j v h at may).power;
  spent = λ site kind words views j v h at may. (far site kind words views j v h at may).spent;
}

pub steps_reply_nothing : StructureStepsReplyNothing
steps_reply_nothing = record {
  own = λ site kind words v. (same_view site words v kind).own;
  seen = λ site kind words v. (same_view site words v kind).seen;
  callers = λ site kind words v. (same_view site words v kind).callers;
}
