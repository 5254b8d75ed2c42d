-- A turn of any part keeps the world: no machine, no control point and no kind of step is named here.
use Rattle.std.proofs.Common.{◌≡◌, ℕ, ◌<◌, ◌⊎◌, inl, inr, set, sym, subst}
use Rattle.op_core.specs.declared.want.Want.{Want}
use Rattle.trace.specs.Events.{Words}
use Rattle.image_layout.specs.Volatile.{power_word}
use Rattle.world.specs.Hits.{find}
use Rattle.world.specs.Ground.{Ground}
use Rattle.world.specs.Views.{View}
use Rattle.world.specs.Wants.{word_of, words_after}
use Rattle.world.specs.Kinds.{Kind, publishes, stashes}
use Rattle.world.specs.Laws.{CallersStay}
use Rattle.world.specs.Pairs.{IsPublishingKind}
use Rattle.world.specs.Invariant.{Holds}
use Rattle.world.specs.areas.Keeping.{StructureStepsReplyNothing}
use Rattle.world.specs.StepKinds.{StepKind, of_call, of_structure, view_by}
use Rattle.world.specs.StepLaws.{Keeps, OtherStepsKeepPairs, PowerStays, IsPublishingStep, found_of}
use Rattle.part.specs.Part.{Part, IsPart, StepsWell, finds, next, next_view}
use Rattle.part.specs.Turns.{TurnKeeps}

-- a kind of calls makes a change or does not
call_publishes_or_not : (kind : Kind) → IsPublishingKind kind ⊎ (IsPublishingKind kind → ⊥)
call_publishes_or_not (publishes i x call) = inl tt
call_publishes_or_not (stashes i x call o) = inl tt
call_publishes_or_not kind = inr (λ f. f)

-- and so each kind of step
pub publishing_or_not : (kind : StepKind) → IsPublishingStep kind ⊎ (IsPublishingStep kind → ⊥)
publishing_or_not (of_call kind) = call_publishes_or_not kind
publishing_or_not (of_structure kind) = inr (λ f. f)

-- a step leaves the view for as many callers
pub as_many_callers : CallersStay → StructureStepsReplyNothing → (site : Ground) (kind : StepKind) (words : Words) (v : View)
    → (view_by site.shape kind (found_of site kind words) v).callers ≡ v.callers
as_many_callers calls structure site (of_call kind) words v = calls site.shape kind (found_of site (of_call kind) words) v
as_many_callers calls structure site (of_structure kind) words v = structure.callers site kind words v

module _ {M : Type 0} (p : Part M) (part : IsPart p) (each : (site : Ground) (kind : StepKind) → Keeps site kind) (calls : CallersStay) (structure : StructureStepsReplyNothing)
    (others : OtherStepsKeepPairs) (powers : PowerStays) where
  pub turn_keeps : TurnKeeps p
  turn_keeps site here call words views j op before v h at s asks small =
      let w : StepsWell p site here call words op before v = part.steps site here call words views j op before v h at s asks in
      let n : ℕ = finds p site words op in
      let k : StepKind = p.kind op n in
      let Kept : Want → Type 0 = λ x. Holds site (words_after site.shape x j words) (set views j (view_by site.shape k (words (word_of site.shape x)) v)) in
      let Same : Want → Type 0 = λ x. (key : ℕ) → find site.shape (words_after site.shape x j words) key ≡ find site.shape words key in
      let On : Want → Type 0 = λ x. words_after site.shape x j words (power_word site.shape) ≡ words (power_word site.shape) in
      let As : Want → Type 0 = λ x. (view_by site.shape k (words (word_of site.shape x)) v).callers ≡ v.callers in
      let some : 0 < (next_view p site words op v).callers = subst (λ m. 0 < m) (sym (subst As (sym w.wants) (as_many_callers calls structure site k words v))) s.callers in
      record {
        holds = subst Kept (sym w.wants) (each site k words views j v h at w.may).0;
        suits = record { stands = w.stands small; enters = w.enters small; callers = some };
        pairs = elim (publishing_or_not k) [
          | inl change ↦ inr (w.makes change)
          | inr other ↦ inl (subst Same (sym w.wants) (others site words views j v k j h at w.may other))
        ];
        power = subst On (sym w.wants) (powers site words views j v k j h at (part.power op n) w.may);
        ends = λ done closed on. record {
          nothing = part.ends site here call (next p site words op) (next_view p site words op v) (w.stands small) done closed on;
          callers = some;
          enters = w.enters small;
        };
      }
