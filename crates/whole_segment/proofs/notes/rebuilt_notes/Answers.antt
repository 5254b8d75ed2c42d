-- The notes of the fields are those of the words, and the records that were gathered are those of the stash.
use Rattle.std.proofs.Common.{ℕ, ◌<◌, List, [], ◌∷◌, ◌∙◌, refl, subst, arith, lit<, slice_index}
use Rattle.std.specs.Prelude.{All}
use Rattle.bucket_meta.specs.declared.metadata.Meta.{Meta}
use Rattle.bucket_meta.specs.Notes.{OverflowNote}
use Rattle.hash_word.specs.Hash.{probing_of}
use Rattle.sound_image.specs.Records.{key_hash}
use Rattle.stash.specs.Noted.{IsRebuilt}
use Rattle.stash.specs.Exact.{IsExactFor}
use Rattle.stash.specs.Segment.{Stashed, IsStashed, bucket, of_home}
use Rattle.whole_segment.specs.Records.{first_in, third_in, key_in}
use Rattle.whole_segment.specs.Notes.{stash_entries}
use Rattle.whole_segment.specs.Rebuilding.{rebuilt}
use Rattle.whole_segment.proofs.rebuilding.Rebuilt.{rebuilt_says, first_says, third_says}
use Rattle.whole_segment.proofs.StashLists.{entries_of_home}
use Rattle.whole_segment.proofs.rebuilding.NotesByWords.{exact_by_words, keeps_records}
use Rattle.whole_segment.proofs.notes.rebuilt_notes.Goals as goal

-- some metadata, for what no list of 64 lacks
abbrev blank : Meta
blank = record {
  alloc = 0;
  member = 0;
  used = 0;
  omember = 0;
  oindex = 0;
  ocount = 0;
  fps = 0 ∷ 0 ∷ 0 ∷ 0 ∷ 0 ∷ 0 ∷ 0 ∷ 0 ∷ 0 ∷ 0 ∷ 0 ∷ 0 ∷ 0 ∷ 0 ∷ [];
  ofps = 0 ∷ 0 ∷ 0 ∷ 0 ∷ [];
  alloc_fits = lit< tt;
  member_fits = lit< tt;
  used_fits = lit< tt;
  omember_fits = lit< tt;
  oindex_fits = lit< tt;
  ocount_fits = lit< tt;
  each_finger = refl;
  each_note_finger = refl;
}

pub returns-clause-exact : goal.returns-clause-exact
returns-clause-exact c b low =
    let loaded = c.args.loaded.now in
    let hash = key_hash c.args.geometry.now in
    let metas = c.rebuild.new.metas in
    let first : ℕ → ℕ = λ n. slice_index c.words_of-notes.result.first n in
    let third : ℕ → ℕ = λ n. slice_index c.words_of-notes.result.third n in
    let probing_low : probing_of b < 64 = omega arith in
    let own = c.words_of-notes.ensures.fields b blank low in
    let probe = c.words_of-notes.ensures.fields (probing_of b) blank probing_low in
    let P : List Stashed → Type 0 = λ records. IsExactFor (bucket metas b blank) (bucket metas (probing_of b) blank) (of_home records b) in
    let Q : List OverflowNote → Type 0 = λ stashed. IsExactFor (bucket metas b blank) (bucket metas (probing_of b) blank) stashed in
    let exact = subst P (c.as_slice.ensures.is ∙ c.gathered-stashed.ensures.are) (c.rebuild.ensures.exact b blank low) in
    exact_by_words (bucket metas b blank) (bucket metas (probing_of b) blank) first third b own.0 probe.0 _ own.1 probe.1
    (subst Q (entries_of_home (first_in loaded) (key_in loaded) hash b) exact)

pub returns-clause-records : goal.returns-clause-records
returns-clause-records c b low =
    let own = c.words_of-notes.ensures.fields b blank low in
    keeps_records (bucket c.metas_of-metas.result b blank) (bucket c.rebuild.new.metas b blank) _ 0 _ _ own.0 _ (c.metas_of-metas.ensures b blank low) own.1
    (c.rebuild.ensures.slots b blank low)

pub returns-clause-is : goal.returns-clause-is
returns-clause-is c b low =
    let loaded = c.args.loaded.now in
    let first : ℕ → ℕ = first_in loaded in
    let third : ℕ → ℕ = third_in loaded in
    let hash = key_hash c.args.geometry.now in
    let metas = c.rebuild.new.metas in
    let entries = stash_entries first (key_in loaded) hash in
    let gathered = c.as_slice.ensures.is ∙ c.gathered-stashed.ensures.are in
    let Q : List Stashed → Type 0 = All IsStashed in
    let R : List Stashed → Type 0 = λ records. IsRebuilt c.metas_of-metas.result metas records in
    let stashed = subst Q c.gathered-stashed.ensures.are c.gathered-stashed.ensures.stashed in
    let says = rebuilt_says entries c.metas_of-metas.result metas stashed (subst R gathered c.rebuild.ensures.rebuilt) in
    let own = c.words_of-notes.ensures.fields b blank low in
    let keeps = returns-clause-records c b low in
    let o = rebuilt first (key_in loaded) hash b in
    let v1 = slice_index c.words_of-notes.result.first b in
    let v3 = slice_index c.words_of-notes.result.third b in (
      first_says (bucket metas b blank) o (first b) (third b) v1 own.0 v3 (says b blank low) own.1 (c.each_fits.ensures b) (c.words_of-notes.ensures.upper b low) keeps.slots,
      third_says (bucket metas b blank) o (first b) (third b) v1 own.0 v3 (says b blank low) own.1 (c.each_fits-2.ensures b) keeps.fingers,
    )
