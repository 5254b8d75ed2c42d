-- The two buckets of the home are exact with the record, and the other homes' data stay.
use Rattle.std.proofs.Common.{◌≡◌, ℕ, ◌<◌, [], ◌∷◌, ◌++◌, length, set, get_or, sym, ◌∙◌, ap, subst, arith, rules}
use Rattle.std.proofs.lemmas.List.{get_or_read}
use Rattle.bucket_meta.specs.declared.metadata.Meta.{Meta}
use Rattle.hash_word.specs.Hash.{probing_of}
use Rattle.stash.specs.Noted.{IsNotedInSegment}
use Rattle.stash.specs.Segment.{IsExactSegment}
use Rattle.stash.proofs.Buckets.{noted_in, noted_in_segment}
use Rattle.stash.proofs.segment.note_in.Goals as goal

pub returns-clause-noted : goal.returns-clause-noted
returns-clause-noted c =
    let metas = c.args.metas.now in
    let home = c.from-home.result in
    let next = c.from-next.result in
    let own = get_or metas home c.index-metas-home.result in
    let probe = get_or metas next c.index-metas-next.result in
    let long : length metas ≡ 64 = search rules in
    let home_in : home < 64 = omega arith in
    let home_of_list : home < length metas = omega (arith, long) in
    let next_of_list : next < length metas = omega (arith, long) in
    let is_next : next ≡ probing_of home = c.from-next.ensures ∙ c.probing.ensures.of ∙ ap probing_of (sym c.from-home.ensures) in
    let P : ℕ → Type 0 = λ of. IsNotedInSegment metas (set (set metas home c.note.new.home) next c.note.new.probe) (of, c.args.finger, c.args.index) in
    let Q : ℕ → Type 0 = λ n. ((d : Meta) → get_or metas n d ≡ probe) → IsNotedInSegment metas (set (set metas home c.note.new.home) n c.note.new.probe) (home, c.args.finger, c.args.index) in
    subst P c.from-home.ensures (subst Q (sym is_next) (λ reads. noted_in_segment metas home own probe c.note.new.home c.note.new.probe c.args.finger c.args.index long home_in
    (λ d. sym (get_or_read metas home c.index-metas-home.result home_of_list c.index-metas-home.is d) ∙ c.index-metas-home.is)
    reads
    (record { in_home = c.note.ensures.in_home; in_probe = c.note.ensures.in_probe; counted = c.note.ensures.counted }))
    (λ d. sym (get_or_read metas next c.index-metas-next.result next_of_list c.index-metas-next.is d) ∙ c.index-metas-next.is))

pub returns-clause-exact : goal.returns-clause-exact
returns-clause-exact c records exact =
    let metas = c.args.metas.now in
    let home = c.from-home.result in
    let next = c.from-next.result in
    let own = get_or metas home c.index-metas-home.result in
    let probe = get_or metas next c.index-metas-next.result in
    let long : length metas ≡ 64 = search rules in
    let home_in : home < 64 = omega arith in
    let home_of_list : home < length metas = omega (arith, long) in
    let next_of_list : next < length metas = omega (arith, long) in
    let is_next : next ≡ probing_of home = c.from-next.ensures ∙ c.probing.ensures.of ∙ ap probing_of (sym c.from-home.ensures) in
    let P : ℕ → Type 0 = λ of. IsExactSegment (set (set metas home c.note.new.home) next c.note.new.probe) (records ++ (of, c.args.finger, c.args.index) ∷ []) in
    let Q : ℕ → Type 0 = λ n. ((d : Meta) → get_or metas n d ≡ probe)
    → IsExactSegment (set (set metas home c.note.new.home) n c.note.new.probe) (records ++ (home, c.args.finger, c.args.index) ∷ []) in
    subst P c.from-home.ensures (subst Q (sym is_next) (λ reads. noted_in metas home own probe c.note.new.home c.note.new.probe c.args.finger c.args.index long home_in
    (λ d. sym (get_or_read metas home c.index-metas-home.result home_of_list c.index-metas-home.is d) ∙ c.index-metas-home.is)
    reads
    (record {
      exact = c.note.ensures.exact;
      home_before = c.note.ensures.home_before;
      home_after = c.note.ensures.home_after;
      count_after = c.note.ensures.count_after;
    }) records exact)
    (λ d. sym (get_or_read metas next c.index-metas-next.result next_of_list c.index-metas-next.is d) ∙ c.index-metas-next.is))
