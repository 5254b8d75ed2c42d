-- Each kind of step at the structure keeps the invariant: its parts, put together.
use Rattle.std.proofs.Common.{refl}
use Rattle.world.specs.areas.Keeping.{KeepsHolding}
use Rattle.world.proofs.moving.media.Whole.{structure_kept}
use Rattle.world.proofs.moving.Words.{keeps_held_words}
use Rattle.world.proofs.moving.keeping.LocksKept.{keeps_locks}
use Rattle.world.proofs.moving.media.MediaKept.{media_kept}
use Rattle.world.proofs.mild.Kept.{records_kept, notes_of_homes_kept, others_kept}

pub holding_kept : KeepsHolding
holding_kept site kind words views j v h at may = (
  record {
    site_is = h.site_is;
    log = h.log;
    structure = structure_kept site kind words views j v h at may;
    locks = keeps_locks site kind words views j v h at may;
    known = keeps_held_words site kind words views j v h at may;
    plans = others_kept.plans site kind words views j v h at may;
    history = others_kept.history site kind words views j v h at may;
    records = records_kept site kind words views j v h at may;
    notes_of_homes = notes_of_homes_kept site kind words views j v h at may;
    media = media_kept site kind words views j v h at may;
    notes = others_kept.notes site kind words views j v h at may;
    room = others_kept.room site kind words views j v h at may;
    spending = others_kept.spending site kind words views j v h at may;
    powered = others_kept.powered site kind words views j v h at may;
  },
  refl,
)
