-- The draw of the insert is of a kind that the view may take: its record stands in a bucket that is held.
use Rattle.std.proofs.Common.{ℕ, List, inl, refl, sym, subst}
use Rattle.map_model.specs.declared.call.Call.{Call}
use Rattle.map_model.specs.Changes.{call_of}
use Rattle.bucket_words.specs.Hits.{Hit}
use Rattle.world.specs.Ground.{Ground}
use Rattle.world.specs.Views.{Owed, View, Has}
use Rattle.world.specs.Kinds.{draws_place}
use Rattle.world.specs.Conditions.{May}
use Rattle.world.specs.Holders.{DrawsWell, KnowsBucket}
use Rattle.world.proofs.holding.Drawing.{may_draw}
use Rattle.phase.specs.declared.kept.Kept.{Kept}
use Rattle.phase.specs.Places.{bucket_of_role}
use Rattle.phase.specs.Finding.{HoldsBuckets}
use Rattle.phase.proofs.Handing.{key_called}
use Rattle.phase.proofs.locks.Finding.{holders_find}
use Rattle.stash_op.specs.declared.step.Seen.{Seen}
use Rattle.stash_op.specs.Search.{place_of}
use Rattle.stash_op.specs.Fits.{IsDrawing, IsIn}
use Rattle.stash_op.proofs.permitting.Publishing.{holds_all}

module _ (site : Ground) (kept : Kept) (is : IsIn site kept) (seen : Seen) (v : View) (d : IsDrawing site kept seen v) where
  abbrev call : Call
  call = call_of kept.change

  abbrev b : ℕ
  b = bucket_of_role kept.hash (place_of seen.bucket)

  holds : HoldsBuckets site kept.site kept.hash kept.segment seen.held d.word kept.change.key v
  holds = holds_all site kept is seen v d.all d.word d.knows

  draws : DrawsWell site v call kept.segment d.word
  draws = holders_find.draw site kept.site kept.hash kept.segment seen.held d.word call v
      (subst (λ k. HoldsBuckets site kept.site kept.hash kept.segment seen.held d.word k v) (sym (key_called kept.change)) holds) d.settled
      (subst (λ (calls : List Call). Has call calls) (sym d.planned) (inl refl)) d.all.room
      (λ o has. absurd (subst (λ (owed : List Owed). Has o owed) d.owes has))

  knows_here : KnowsBucket site.shape v kept.segment b d.word
  knows_here = holders_find.bucket site kept.site kept.hash kept.segment seen.held d.word kept.change.key v holds d.settled (place_of seen.bucket) d.all.bucket

  pub draw_may : May site (draws_place call) v
  draw_may = (may_draw site v).shown call kept.segment b seen.written.slot d.word draws knows_here
      (subst (λ k. Hit site.shape d.word kept.segment b seen.written.slot k) (sym (key_called kept.change)) d.stands) d.all.still
      (holders_find.kept site kept.site kept.hash kept.segment seen.held d.word kept.change.key v holds d.settled)
