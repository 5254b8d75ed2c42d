-- Words and fields determine each other: the fields of given words are one, and so are the words of given fields.
use Rattle.std.proofs.Common.{◌≡◌, ℕ, ◌^◌, ◌<◌, List, ap, sym, ◌∙◌, subst, arith, length, lit<, get_or, below_more}
use borrow.Author.Count.{below_none}
use Rattle.std.proofs.Props.{props}
use Rattle.std.proofs.lemmas.Grind.{same_number_lists}
use Rattle.bucket_meta.specs.declared.metadata.Meta.{Meta}
use Rattle.word_bits.specs.Bits.{bits}
use Rattle.bucket_meta.specs.MetaWords.{IsMetaOf, AreMetaWords, WordsGiveMeta, MetaGivesWords}

-- ---- the fields of given words

-- the numbers and the fingerprints of a `Meta`, without what is known of them
abbrev Plain : Type 0
Plain = ℕ × ℕ × ℕ × ℕ × ℕ × ℕ × List ℕ × List ℕ

abbrev Facts : Plain → Type 0
Facts p = (p.0 < 2 ^ 14) × (p.1 < 2 ^ 14) × (p.2 < 2 ^ 4) × (p.3 < 2 ^ 4) × (p.4 < 2 ^ 4) × (p.5 < 2 ^ 5) × (length p.6 ≡ 14) × (length p.7 ≡ 4)

abbrev meta_of : (p : Plain) → Facts p → Meta
meta_of p known = record {
  alloc = p.0;
  member = p.1;
  used = p.2;
  omember = p.3;
  oindex = p.4;
  ocount = p.5;
  fps = p.6;
  ofps = p.7;
  alloc_fits = known.0;
  member_fits = known.1;
  used_fits = known.2;
  omember_fits = known.3;
  oindex_fits = known.4;
  ocount_fits = known.5;
  each_finger = known.6;
  each_note_finger = known.7;
}

Facts-prop : (p : Plain) → IsProp (Facts p)
Facts-prop p = hlevel props

meta_by_fields : (p q : Plain) → p ≡ q → (k : Facts p) (l : Facts q) → meta_of p k ≡ meta_of q l
meta_by_fields p q e =
    let P : Plain → Type 0 = λ r. (k : Facts p) (l : Facts r) → meta_of p k ≡ meta_of r l in
    subst P e (λ k l. ap (λ f. meta_of p f) (Facts-prop p k l))

same_meta : (a b : Meta) → a.alloc ≡ b.alloc → a.member ≡ b.member → a.used ≡ b.used → a.omember ≡ b.omember → a.oindex ≡ b.oindex → a.ocount ≡ b.ocount → a.fps ≡ b.fps → a.ofps ≡ b.ofps → a ≡ b
same_meta a b e1 e2 e3 e4 e5 e6 e7 e8 =
    let p : Plain = (a.alloc, a.member, a.used, a.omember, a.oindex, a.ocount, a.fps, a.ofps) in
    let q : Plain = (b.alloc, b.member, b.used, b.omember, b.oindex, b.ocount, b.fps, b.ofps) in
    let e : p ≡ q = cc in
    meta_by_fields p q e
    (a.alloc_fits, a.member_fits, a.used_fits, a.omember_fits, a.oindex_fits, a.ocount_fits, a.each_finger, a.each_note_finger)
    (b.alloc_fits, b.member_fits, b.used_fits, b.omember_fits, b.oindex_fits, b.ocount_fits, b.each_finger, b.each_note_finger)

-- fields of the same words are the same
pub words_give_meta : WordsGiveMeta
words_give_meta a b w1 w2 w3 of_a of_b =
    same_meta a b (of_a.alloc ∙ sym of_b.alloc) (of_a.member ∙ sym of_b.member) (of_a.used ∙ sym of_b.used)
    (of_a.omember ∙ sym of_b.omember) (of_a.oindex ∙ sym of_b.oindex) (of_a.ocount ∙ sym of_b.ocount)
    (same_number_lists a.fps b.fps (a.each_finger ∙ sym b.each_finger)
    (λ s h. let within : s < 14 = omega arith in of_a.fps s within ∙ sym (of_b.fps s within)))
    (same_number_lists a.ofps b.ofps (a.each_note_finger ∙ sym b.each_note_finger)
    (λ i h. let within : i < 4 = omega arith in of_a.ofps i within ∙ sym (of_b.ofps i within)))

-- ---- the words of given fields

-- words of which each number of bits is the same are the same
same_first : (v w : ℕ) → v < 2 ^ 64 → w < 2 ^ 64 → bits 61 3 v ≡ 0 → bits 61 3 w ≡ 0
    → bits 0 14 v ≡ bits 0 14 w → bits 14 14 v ≡ bits 14 14 w → bits 28 4 v ≡ bits 28 4 w → bits 32 4 v ≡ bits 32 4 w → bits 36 4 v ≡ bits 36 4 w
    → bits 40 5 v ≡ bits 40 5 w → bits 45 8 v ≡ bits 45 8 w → bits 53 8 v ≡ bits 53 8 w → v ≡ w
same_first v w v_fits w_fits v_zero w_zero e0 e1 e2 e3 e4 e5 e6 e7 = omega arith

same_bytes : (v w : ℕ) → v < 2 ^ 64 → w < 2 ^ 64
    → bits 0 8 v ≡ bits 0 8 w → bits 8 8 v ≡ bits 8 8 w → bits 16 8 v ≡ bits 16 8 w → bits 24 8 v ≡ bits 24 8 w → bits 32 8 v ≡ bits 32 8 w
    → bits 40 8 v ≡ bits 40 8 w → bits 48 8 v ≡ bits 48 8 w → bits 56 8 v ≡ bits 56 8 w → v ≡ w
same_bytes v w v_fits w_fits e0 e1 e2 e3 e4 e5 e6 e7 = omega arith

pub meta_gives_words : MetaGivesWords
meta_gives_words m v1 v2 v3 w1 w2 w3 vs ws of_v of_w =
    let slot = λ (s : ℕ) (within : s < 14). sym (of_v.fps s within) ∙ of_w.fps s within in
    let place = λ (i : ℕ) (within : i < 4). sym (of_v.ofps i within) ∙ of_w.ofps i within in (
      same_first v1 w1 vs.first ws.first vs.zero ws.zero (sym of_v.alloc ∙ of_w.alloc) (sym of_v.member ∙ of_w.member) (sym of_v.used ∙ of_w.used)
          (sym of_v.omember ∙ of_w.omember) (sym of_v.oindex ∙ of_w.oindex) (sym of_v.ocount ∙ of_w.ocount) (place 2 (lit< tt)) (place 3 (lit< tt)),
      same_bytes v2 w2 vs.second ws.second (slot 0 (lit< tt)) (slot 1 (lit< tt)) (slot 2 (lit< tt)) (slot 3 (lit< tt))
          (slot 4 (lit< tt)) (slot 5 (lit< tt)) (slot 6 (lit< tt)) (slot 7 (lit< tt)),
      same_bytes v3 w3 vs.third ws.third (slot 8 (lit< tt)) (slot 9 (lit< tt)) (slot 10 (lit< tt)) (slot 11 (lit< tt))
          (slot 12 (lit< tt)) (slot 13 (lit< tt)) (place 0 (lit< tt)) (place 1 (lit< tt)),
    )

-- the same for three words in a list
pub same_three : (m : Meta) (vs ws : List ℕ) → length vs ≡ 3 → length ws ≡ 3
    → AreMetaWords (get_or vs 0 0) (get_or vs 1 0) (get_or vs 2 0) → AreMetaWords (get_or ws 0 0) (get_or ws 1 0) (get_or ws 2 0)
    → IsMetaOf m (get_or vs 0 0) (get_or vs 1 0) (get_or vs 2 0) → IsMetaOf m (get_or ws 0 0) (get_or ws 1 0) (get_or ws 2 0) → vs ≡ ws
same_three m vs ws v_three w_three v_fits w_fits of_v of_w =
    let same = meta_gives_words m _ _ _ _ _ _ v_fits w_fits of_v of_w in
    let P : ℕ → Type 0 = λ i. get_or vs i 0 ≡ get_or ws i 0 in
    same_number_lists vs ws (v_three ∙ sym w_three)
    (λ i h. let within : i < 3 = omega arith in
    below_more P 2 (below_more P 1 (below_more P 0 (below_none P) same.0) same.1) same.2 i within)
