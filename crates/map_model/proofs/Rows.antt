-- The replies along two rows joined may stand exactly where those of the first may, and those of the second after it.
use Rattle.std.proofs.Common.{◌≡◌, ◌≤◌, false, cond, List, [], ◌∷◌, ◌++◌, length, refl, sym, ap, subst, ◌∙◌, arith}
use Rattle.std.specs.List.{AllByRecursion}
use Rattle.map_model.specs.declared.entry.Entry.{Entry}
use Rattle.map_model.specs.Map.{Map, is_done, after, changed}
use Rattle.map_model.specs.Legal.{IsReplyOf, replay, AreReplies}

pub replay-append : (m : Map) (es fs : List Entry) → replay m (es ++ fs) ≡ replay (replay m es) fs
replay-append m [] fs = refl
replay-append m (e ∷ es) fs = replay-append (after m e.call e.reply) es fs

pub AreReplies-append : (m : Map) (es fs : List Entry) → AreReplies m es → AreReplies (replay m es) fs → AreReplies m (es ++ fs)
AreReplies-append m [] fs first second = second
AreReplies-append m (e ∷ es) fs first second = (first.0, AreReplies-append (after m e.call e.reply) es fs first.1 second)

pub AreReplies-parts : (m : Map) (es fs : List Entry) → AreReplies m (es ++ fs) → AreReplies m es × AreReplies (replay m es) fs
AreReplies-parts m [] fs both = (tt, both)
AreReplies-parts m (e ∷ es) fs both =
    let parts = AreReplies-parts (after m e.call e.reply) es fs both.1 in
    ((both.0, parts.0), parts.1)

-- ---- entries that change nothing
abbrev pub IsQuiet : Entry → Type 0
IsQuiet e = is_done e.reply ≡ false

pub after-quiet : (m : Map) (e : Entry) → IsQuiet e → after m e.call e.reply ≡ m
after-quiet m e quiet = ap (λ b. cond b (changed m e.call) m) quiet

pub replay-quiet : (m : Map) (es : List Entry) → AllByRecursion IsQuiet es → replay m es ≡ m
replay-quiet m [] quiet = refl
replay-quiet m (e ∷ es) quiet = ap (λ n. replay n es) (after-quiet m e quiet.0) ∙ replay-quiet m es quiet.1

-- the entry's reply may stand where the map is m
abbrev pub MayAnswer : Map → Entry → Type 0
MayAnswer m e = IsReplyOf m e.call e.reply

-- quiet entries and then at most one more: they all stand at the same map
pub AreReplies-at_one_map : (m : Map) (es fs : List Entry) → AllByRecursion IsQuiet es → length fs ≤ 1 → AllByRecursion (MayAnswer m) (es ++ fs) → AreReplies m (es ++ fs)
AreReplies-at_one_map m [] [] quiet few right = tt
AreReplies-at_one_map m [] (f ∷ []) quiet few right = (right.0, tt)
AreReplies-at_one_map m [] (f ∷ g ∷ fs) quiet few right = absurd (omega arith)
AreReplies-at_one_map m (e ∷ es) fs quiet few right =
    (right.0, subst (λ n. AreReplies n (es ++ fs)) (sym (after-quiet m e quiet.0)) (AreReplies-at_one_map m es fs quiet.1 few right.1))

pub at_one_map-AreReplies : (m : Map) (es fs : List Entry) → AllByRecursion IsQuiet es → length fs ≤ 1 → AreReplies m (es ++ fs) → AllByRecursion (MayAnswer m) (es ++ fs)
at_one_map-AreReplies m [] [] quiet few right = tt
at_one_map-AreReplies m [] (f ∷ []) quiet few right = (right.0, tt)
at_one_map-AreReplies m [] (f ∷ g ∷ fs) quiet few right = absurd (omega arith)
at_one_map-AreReplies m (e ∷ es) fs quiet few right =
    (right.0, at_one_map-AreReplies m es fs quiet.1 few (subst (λ n. AreReplies n (es ++ fs)) (after-quiet m e quiet.0) right.1))
