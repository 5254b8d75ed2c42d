-- A reply, and a draw where nothing is loose, leave a view from which the locks may be given back.
use Rattle.std.proofs.Common.{◌≡◌, ℕ, [], ◌∷◌, inl, inr, refl, ap, ◌∙◌}
use Rattle.map_model.specs.declared.call.Call.{Call}
use Rattle.map_model.specs.declared.entry.Entry.{Entry}
use Rattle.map_model.specs.Map.{key_of}
use Rattle.world.specs.declared.site.Site.{Site}
use Rattle.world.specs.Ground.{Ground}
use Rattle.world.specs.Views.{View}
use Rattle.world.specs.Kinds.{of_other_keys, with_reply, with_draw}
use Rattle.phase.specs.declared.held.Held.{Held}
use Rattle.phase.specs.Giving.{IsLocated, HoldsLocks, GivesBack}
use Rattle.phase.specs.Knows.{HasNoneLoose}
use Rattle.phase.proofs.Handing.{own_drawn}
use Rattle.phase.proofs.locks.Giving.{nothing_left, held_same}

module _ (site : Ground) (here : Site) (hash segment : ℕ) (held : Held) (v : View) where
  pub reply_gives : (e : Entry) → GivesBack site here hash segment held v → GivesBack site here hash segment held (with_reply v e)
  reply_gives e g = record {
    located = g.located;
    locks = held_same here hash segment held v (with_reply v e) refl refl refl g.locks;
    quiet = record { dirty = g.quiet.dirty; flushed = g.quiet.flushed; planned = g.quiet.planned; moving = g.quiet.moving; owed = g.quiet.owed };
  }

  pub draw_gives : (call : Call) (n : ℕ) → IsLocated site here segment → HoldsLocks here hash segment held v → HasNoneLoose v → v.planned ≡ call ∷ [] → v.moving ≡ [] → v.owed ≡ []
      → GivesBack site here hash segment held (with_draw call n v)
  draw_gives call n located locks settled planned still owes = record {
    located = located;
    locks = held_same here hash segment held v (with_draw call n v) refl refl refl locks;
    quiet = record {
      dirty = nothing_left v.dirty (λ p has. settled p (inl has));
      flushed = nothing_left v.flushed (λ p has. settled p (inr has));
      planned = ap (of_other_keys (key_of call)) planned ∙ own_drawn call;
      moving = still;
      owed = owes;
    };
  }
