-- From the step on that decides, the segment is left to be split for the call's insert.
use Rattle.std.proofs.Common.{◌≡◌, ℕ, Some, refl, subst}
use Rattle.map_model.specs.declared.call.Call.{Call}
use Rattle.map_model.specs.declared.change.Effect.{Effect}
use Rattle.map_model.specs.declared.change.Effect.TheVariants.{Insert, Update, Remove}
use Rattle.map_model.specs.Changes.{doing, change_of}
use Rattle.map_model.specs.Legal.{IsInsert}
use Rattle.world.specs.declared.site.Site.{Site}
use Rattle.part.specs.Outcomes.{need_split}
use Rattle.phase.specs.Stands.{IsThere}
use Rattle.release_op.specs.Split.{LeavesThere}
use Rattle.release_op.proofs.ReleaseIsPart.{is_giving, bare_at}
use Rattle.release_op.proofs.Ends.{no_other_at}

-- the change that the call of a change is
change_done : (key : ℕ) (d : Effect) → change_of (doing key d) ≡ Some (record { key = key; effect = d })
change_done key (Insert value) = refl
change_done key (Update value) = refl
change_done key Remove = refl

pub leaves_there : LeavesThere
leaves_there site here call op v st segment some =
    let told : need_split segment ≡ need_split op.kept.segment = no_other_at op.kept op.step (need_split segment) some in
    let same : op.kept.segment ≡ segment = cc in
    record {
      shape = subst (λ (place : Site). place.geometry ≡ site.shape) st.may.at st.located.shape;
      same = st.may.same;
      change = subst (λ (c : Call). change_of c ≡ Some op.kept.change) st.may.same (change_done op.kept.change.key op.kept.change.effect);
      insert = subst IsInsert st.may.same st.insert;
      key = st.may.key;
      there = subst (λ s. IsThere site s v.facts) same (is_giving site op.kept op.step v st.view).there;
      bare = λ done. bare_at site here call op.kept op.step v st done;
    }
