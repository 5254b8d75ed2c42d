-- The bucket that was read, and those before it.
use Rattle.std.proofs.Common.{ℕ, ◌<◌, length, set, get_or, sym, ◌∙◌, subst, inl, inr, arith, length-set}
use Rattle.std.proofs.lemmas.Bool.{cases_eq}
use Rattle.std.proofs.lemmas.List.{get_or-set_same, get_or-set_other}
use Rattle.bucket_meta.specs.declared.metadata.Meta.{Meta}
use Rattle.bucket_meta.specs.MetaWords.{IsMetaOf}
use Rattle.whole_segment.specs.Records.{first_in, third_in}
use Rattle.whole_segment.proofs.notes.metas_of.Goals as goal

pub loop-bucket-preserved : goal.loop-bucket-preserved
loop-bucket-preserved c =
    let loaded = c.args.loaded.now in
    let metas = c.loop-bucket.metas in
    let at = c.from-at.result in
    let m = c.read.result in
    let long = c.loop-bucket.invariant.long in
    let inside : at < length metas = omega (arith, long, c.from-at.ensures, c.loop-bucket-test.true) in
    record {
      long = length-set metas at m ∙ long;
      read = λ b d low. elim (cases_eq b at) [
        | inl same ↦
            let P : ℕ → Type 0 = λ n. IsMetaOf (get_or (set metas at m) n d) (first_in loaded n) 0 (third_in loaded n) in
            let Q : Meta → Type 0 = λ x. IsMetaOf x (first_in loaded at) 0 (third_in loaded at) in
            subst P (sym same) (subst Q (sym (get_or-set_same metas at m d inside)) c.read.ensures)
        | inr apart ↦
            let Q : Meta → Type 0 = λ x. IsMetaOf x (first_in loaded b) 0 (third_in loaded b) in
            let below : b < c.loop-bucket.bucket = omega (arith, low, apart, c.from-at.ensures) in
            subst Q (sym (get_or-set_other metas at b m d apart)) (c.loop-bucket.invariant.read b d below)
      ];
    }
