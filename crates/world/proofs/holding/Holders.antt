-- What the holder of locks has to know of buckets to place a record, to change one, and to tell of one.
use Rattle.std.proofs.Common.{Some, inr, sym, ap, ◌∙◌, subst}
use Rattle.map_model.specs.Map.{key_of}
use Rattle.frame_facts.proofs.segments.Finding.{find_is, find_none}
use Rattle.world.specs.Ground.{Ground}
use Rattle.world.specs.Views.{View}
use Rattle.world.specs.History.{MayReply}
use Rattle.world.specs.Holders.{MayPlace, MayChange, MayUnstash, MayTell}
use Rattle.world.proofs.holding.Placing.{none_newest, may_insert}
use Rattle.world.proofs.holding.stash.Stashing.{may_stash}
use Rattle.world.proofs.holding.Changing.{hit_newest, may_update, may_remove}
use Rattle.world.proofs.holding.stash.Unstashing.{may_unstash}
use Rattle.world.proofs.holding.Known.{same_value, newest_same}

module _ (site : Ground) (v : View) where
  pub may_unstash_all : MayUnstash site v
  may_unstash_all = record { remove = λ s c r k x word f owes small frees. may_unstash site v word s c r k f owes small x frees }

  pub may_change : MayChange site v
  may_change = record {
    update = λ s b r k a word f. may_update site v word s b r k f a;
    remove = λ s b r k x word f low frees. may_remove site v word s b r k f x low frees;
  }

  -- ---- THE REPLIES that change nothing
  pub may_tell : MayTell site v
  may_tell = record {
    absent = λ call reply s word f seg may. inr (
      s,
      f.led,
      f.unplanned,
      λ words n. subst (λ z. MayReply z call reply) (sym (find_none site.shape words s (key_of call) seg (f.led.0 words n) (none_newest site v word s (key_of call) f words n))) may,
    );
    present = λ call reply s b r word f may. inr (
      s,
      f.led,
      f.unplanned,
      λ words n. subst (λ z. MayReply z call reply)
          (ap Some (sym (same_value site.shape word words s b (newest_same site v words word s b n f.there) r f.hit.slot))
          ∙ sym (find_is site.shape words n.table s b r (key_of call) (hit_newest site v word s b r (key_of call) f words n) (f.led.0 words n))) may,
    );
  }

  pub may_place : MayPlace site v
  may_place = record {
    insert = λ s b r k a x word f low known made value takes. may_insert site v s b r k a x word f low known made value takes;
    stash = λ s c r k a x word f small known made value takes. may_stash site v word s k f c r a x small known made value takes;
  }
