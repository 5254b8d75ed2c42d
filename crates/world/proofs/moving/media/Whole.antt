-- Each kind of step at the structure keeps all that is said of the structure.
use Rattle.world.specs.areas.Keeping.{KeepsStructure}
use Rattle.world.proofs.moving.keeping.Fitting.{keep_areas}
use Rattle.world.proofs.moving.keeping.Keepers.{keep_guards, keep_sayers, keep_pins}
use Rattle.world.proofs.moving.keeping.HeldGuards.{keep_held_guards}
use Rattle.world.proofs.moving.media.Said.{sound_kept, facts_kept}
use Rattle.world.proofs.moving.Used.{used_kept}
use Rattle.world.proofs.moving.media.Taken.{slots_settled}

pub structure_kept : KeepsStructure
structure_kept site kind words views j v h at may =
    let all = keep_areas site kind words views j v h at may in
    record {
      sound = sound_kept site kind words views j v h at may;
      fits = all.0;
      guards = keep_guards site kind words views j v h at may;
      held_guards = keep_held_guards site kind words views j v h at may;
      says = facts_kept site kind words views j v h at may;
      may_say = keep_sayers site kind words views j v h at may;
      pinned = keep_pins site kind words views j v h at may;
      owners = all.1;
      lasting = all.2;
      settled_slots = slots_settled site kind words views j v h at may;
      used_slots = used_kept site kind words views j v h at may;
    }
