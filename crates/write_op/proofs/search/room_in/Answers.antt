-- By the bucket that is chosen, which the marks of both say as their words do.
use Rattle.std.proofs.Common.{◌≡◌, ◌∙◌, ℕ, ap, sym, Option, None, slice_index, count_ones}
use Rattle.std.proofs.lemmas.Option.{IfSome_then}
use Rattle.bucket_meta.specs.Bucket.{mark_place, records_of}
use Rattle.bucket_meta.specs.MetaWords.{IsMetaOf}
use Rattle.bucket_meta.specs.declared.metadata.Meta.{Meta}
use Rattle.balance.specs.Choices.{choice_by}
use Rattle.balance.specs.declared.choice.Choice.{Choice}
use Rattle.phase.specs.declared.kept.Buckets.{Buckets}
use Rattle.phase.specs.declared.role.Role.TheVariants.{Home, Probing}
use Rattle.write_op.specs.Search.{spot_or, room_by, room_in}
use Rattle.write_op.proofs.search.room_in.Goals as goal

room_of : (home probing : Meta) (buckets : Buckets) (w2 w3 u2 u3 : ℕ) (choice : Choice) → IsMetaOf home (slice_index buckets.home mark_place) w2 w3
    → IsMetaOf probing (slice_index buckets.probing mark_place) u2 u3 → choice ≡ choice_by (count_ones home.alloc) (count_ones probing.alloc)
    → room_by choice buckets ≡ room_in buckets
room_of home probing buckets w2 w3 u2 u3 choice of_home of_probing is =
    ap (λ (c : Choice). room_by c buckets) (is ∙ ap (λ (n : ℕ). choice_by (count_ones n) (count_ones probing.alloc)) of_home.alloc ∙ ap (λ (n : ℕ). choice_by (records_of (slice_index buckets.home mark_place)) (count_ones n)) of_probing.alloc)

pub spot_or-requires-clause-slot : goal.spot_or-requires-clause-slot
spot_or-requires-clause-slot c = IfSome_then c.lowest_free.result c.lowest_free.ensures.free (λ slot free. free.0)

pub spot_or-requires-in-Probe-clause-slot : goal.spot_or-requires-in-Probe-clause-slot
spot_or-requires-in-Probe-clause-slot c = IfSome_then c.lowest_free-in-Probe.result c.lowest_free-in-Probe.ensures.free (λ slot free. free.0)

pub returns-in-Home-clause-is : goal.returns-in-Home-clause-is
returns-in-Home-clause-is c = let b = c.args.buckets.now in
    c.spot_or.ensures.is ∙ ap (λ (slot : Option ℕ). spot_or Home slot None) c.lowest_free.ensures.is
    ∙ ap (λ (choice : Choice). room_by choice b) (sym c.in-Home.is) ∙ room_of _ _ b _ _ _ _ _ c.meta_of.ensures c.meta_of-2.ensures c.choose.ensures.is

pub returns-in-Probe-clause-is : goal.returns-in-Probe-clause-is
returns-in-Probe-clause-is c = let b = c.args.buckets.now in
    c.spot_or-in-Probe.ensures.is ∙ ap (λ (slot : Option ℕ). spot_or Probing slot None) c.lowest_free-in-Probe.ensures.is
    ∙ ap (λ (choice : Choice). room_by choice b) (sym c.in-Probe.is) ∙ room_of _ _ b _ _ _ _ _ c.meta_of.ensures c.meta_of-2.ensures c.choose.ensures.is

pub returns-in-Neither-clause-is : goal.returns-in-Neither-clause-is
returns-in-Neither-clause-is c = let b = c.args.buckets.now in
    ap (λ (choice : Choice). room_by choice b) (sym c.in-Neither.is) ∙ room_of _ _ b _ _ _ _ _ c.meta_of.ensures c.meta_of-2.ensures c.choose.ensures.is
