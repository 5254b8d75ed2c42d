-- What a restart leaves of areas: nobody has one.
use Rattle.std.proofs.Common.{◌≡◌, ◌≢◌, ℕ, ◌<◌, List, inl, inr, sym, subst}
use Rattle.trace.specs.Events.{Words}
use Rattle.segment_head.specs.HeadWord.{splitting}
use Rattle.image_layout.specs.Places.{words_of}
use Rattle.sound_image.specs.Segments.{frame_of, state_at}
use Rattle.frame_facts.specs.Claims.{HasSoundFrame}
use Rattle.frame_facts.proofs.Roots.{untouched_keeps}
use Rattle.frame_facts.specs.Core.{core}
use Rattle.frame_facts.specs.Owners.{HasStructure}
use Rattle.frame_facts.proofs.Structure.{beside}
use Rattle.world.specs.Ground.{Ground, IsGround, IsCurrentIn}
use Rattle.world.specs.Views.{View, Has, At, HasLock, IsLoose}
use Rattle.world.specs.Media.{IsPossible}
use Rattle.world.specs.World.{fresh_view}
use Rattle.world.specs.areas.Areas.{Area}
use Rattle.world.specs.areas.Beginning.{AreasStand, FreshViewsStand}
use Rattle.world.proofs.basics.Tables.{core_structure_same, core_owner}
use Rattle.world.proofs.fitting.lasting.Lasting.{heads_of, same_steady, same_live}

module _ (site : Ground) (words : Words) (views : List View) (is : IsGround site) (sound : HasSoundFrame site.shape words)
    (fresh : (j : ℕ) (v : View) → At views j v → v ≡ fresh_view v.callers)
    (unsplit : (s : ℕ) → IsCurrentIn site words s → state_at (frame_of site.shape words) s ≢ splitting) where
  no_area : (j : ℕ) (v : View) (a : Area) → At views j v → Has a v.areas → ⊥
  no_area j v a at h = subst (λ (u : View). Has a u.areas) (fresh j v at) h

  no_lock : (j : ℕ) (v : View) (lock : ℕ) → At views j v → HasLock v.held lock → ⊥
  no_lock j v lock at h = (subst (λ (u : View). HasLock u.held lock) (fresh j v at) h).1

  no_loose : (j : ℕ) (v : View) (p : ℕ × ℕ) → At views j v → IsLoose v p → ⊥
  no_loose j v p at l = elim (subst (λ (u : View). IsLoose u p) (fresh j v at) l) [ inl d ↦ d | inr h ↦ h ]

  -- a medium has the cores of the newest words
  cores : (m : Words) → IsPossible site words views m → (n : ℕ) → n < words_of site.shape → core site.shape m n ≡ core site.shape words n
  cores m p n within = elim (p n within) [ inl e ↦ e | inr l ↦ absurd (no_loose l.0 l.1 (n, l.2) l.3 l.4) ]

  structure : (m : Words) → IsPossible site words views m → HasStructure site.shape words m
  structure m p = core_structure_same site words m (cores m p)

  pub stand : AreasStand site words views
  stand = record {
    fits = record {
      lock = λ j v lock at h. absurd (no_lock j v lock at h);
      segment = λ j v s at h. absurd (no_area j v _ at h);
      stale = λ j v s at h. absurd (no_area j v _ at h);
      side = λ j v n at h. absurd (no_area j v _ at h);
      free_slot = λ j v n at h. absurd (no_area j v _ at h);
      whole = λ j v s at h. absurd (no_area j v _ at h);
      splits = λ s c split. absurd (unsplit s c split);
      one_segment = λ i j u v s a b h k. absurd (no_area i u _ a h);
      one_allocation = λ i j u v a b h k. absurd (no_area i u _ a h);
      one_directory = λ i j u v a b h k. absurd (no_area i u _ a h);
    };
    sound = λ m p.
        (untouched_keeps site.shape.depth is.shape.depth (frame_of site.shape words) (frame_of site.shape m) sound (beside site.shape words m (structure m p) sound.root)).goes_on.sound;
    owners = record { same = λ m p h. inl (core_owner site words m (cores m p) h) };
    lasting = record {
      steady = λ m p. same_steady site.shape m words (λ s slot. sym (heads_of site.shape words m (structure m p) s slot));
      living = λ s l. inl (λ m p. same_live site.shape words m (heads_of site.shape words m (structure m p)) s l);
    };
    saying = record {
      said = λ j v fact at h. absurd (subst (λ (u : View). Has fact u.facts) (fresh j v at) h);
      may = λ j v fact at h. absurd (subst (λ (u : View). Has fact u.facts) (fresh j v at) h);
    };
    guards = record { taken = λ j v a i at h k. absurd (no_area j v a at h) };
  }

pub fresh_stand : FreshViewsStand
fresh_stand site words views is sound fresh unsplit = stand site words views is sound fresh unsplit
