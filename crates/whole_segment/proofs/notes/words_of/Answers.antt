-- The bucket that was written, and those before it.
use Rattle.std.proofs.Common.{◌≡◌, ℕ, ◌<◌, length, set, get_or, refl, sym, ap, ◌∙◌, subst, inl, inr, arith, rules, length-set}
use Rattle.std.proofs.lemmas.Bool.{cases_eq}
use Rattle.std.proofs.lemmas.List.{get_or_read, get_or-set_same, get_or-set_other}
use Rattle.word_bits.specs.Bits.{bits}
use Rattle.bucket_meta.specs.declared.metadata.Meta.{Meta}
use Rattle.bucket_meta.specs.MetaWords.{IsMetaOf}
use Rattle.whole_segment.proofs.notes.words_of.Goals as goal

-- the fields of equal words
along : (m n : Meta) (w1 w2 w3 x1 x3 : ℕ) → n ≡ m → x1 ≡ w1 → x3 ≡ w3 → IsMetaOf m w1 w2 w3 → IsMetaOf n x1 w2 x3
along m n w1 w2 w3 x1 x3 a b c is =
    let P : Meta → Type 0 = λ y. IsMetaOf y w1 w2 w3 in
    let Q : ℕ → Type 0 = λ y. IsMetaOf n y w2 w3 in
    let R : ℕ → Type 0 = λ y. IsMetaOf n x1 w2 y in
    subst R (sym c) (subst Q (sym b) (subst P (sym a) is))

pub loop-bucket-preserved : goal.loop-bucket-preserved
loop-bucket-preserved c =
    let metas = c.args.metas.now in
    let first = c.loop-bucket.first in
    let third = c.loop-bucket.third in
    let at = c.from-at.result in
    let seen = c.index-metas-at.result in
    let m = get_or metas at seen in
    let w1 = get_or c.write.result 0 0 in
    let w2 = get_or c.write.result 1 0 in
    let w3 = get_or c.write.result 2 0 in
    let long = c.loop-bucket.invariant.long in
    let as_long = c.loop-bucket.invariant.as_long in
    let many : length metas ≡ 64 = search rules in
    let inside : at < length metas = omega (arith, many, c.from-at.ensures, c.loop-bucket-test.true) in
    let in_first : at < length first = omega (arith, many, long, inside) in
    let in_third : at < length third = omega (arith, many, as_long, inside) in
    record {
      long = length-set first at w1 ∙ long;
      as_long = length-set third at w3 ∙ as_long;
      upper = λ b low. elim (cases_eq b at) [
        | inl same ↦
            ap (bits 61 3) (ap (λ n. get_or (set first at w1) n 0) same ∙ get_or-set_same first at w1 0 in_first) ∙ c.write.ensures.zero
        | inr apart ↦
            let below : b < c.loop-bucket.bucket = omega (arith, low, apart, c.from-at.ensures) in
            ap (bits 61 3) (get_or-set_other first at b w1 0 apart) ∙ c.loop-bucket.invariant.upper b below
      ];
      written = λ b d low. elim (cases_eq b at) [
        | inl same ↦
            let P : ℕ → Type 0 = λ n. (x : ℕ) × IsMetaOf (get_or metas n d) (get_or (set first at w1) n 0) x (get_or (set third at w3) n 0) in
            subst P (sym same) (
              w2,
              along m (get_or metas at d) w1 w2 w3 (get_or (set first at w1) at 0) (get_or (set third at w3) at 0)
                  (sym (get_or_read metas at seen inside c.index-metas-at.is d) ∙ c.index-metas-at.is) (get_or-set_same first at w1 0 in_first) (get_or-set_same third at w3 0 in_third)
                  c.write.ensures.fields,
            )
        | inr apart ↦
            let below : b < c.loop-bucket.bucket = omega (arith, low, apart, c.from-at.ensures) in
            let before = c.loop-bucket.invariant.written b d below in (
              before.0,
              along (get_or metas b d) (get_or metas b d) (get_or first b 0) before.0 (get_or third b 0) (get_or (set first at w1) b 0) (get_or (set third at w3) b 0)
                  refl (get_or-set_other first at b w1 0 apart) (get_or-set_other third at b w3 0 apart) before.1,
            )
      ];
    }
