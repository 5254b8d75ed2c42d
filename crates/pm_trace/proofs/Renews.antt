-- What flushes hold after a caller has fenced: each its own words, or those of a later flush of its line by the caller.
use Rattle.std.proofs.Common.{◌≡◌, ℕ, suc, ◌<◌, ◌⊎◌, inl, inr, Bool, true, false, cond, ◌&&◌, eqb, List, [], ◌∷◌, ◌++◌, ◌+◌, length, take, drop, get_or, append_assoc, map, refl, sym, ◌∙◌, ap, subst, arith}
use Rattle.std.specs.Prelude.{AllPairs}
use Rattle.std.proofs.Math.Seq.{drop-cons, take-append_seam, drop-append_seam}
use Rattle.std.proofs.lemmas.List.{get_or-drop, take_more, length-append, length-map, length-take-le}
use Rattle.std.proofs.lemmas.Bool.{cases_Bool, cases_eq, eq-eqb, ne_eqb}
use Rattle.std.proofs.lemmas.List.Kept.{AllPairs-cons}
use Rattle.trace.specs.Listed.{Has}
use Rattle.pm_trace.specs.declared.flushes.Flush.{Flush}
use Rattle.pm_trace.specs.FlushLists.{is_of, last_words, renewed_by, renewed}
use Rattle.pm_trace.specs.Memory.{flushes_of}
use Rattle.pm_trace.proofs.Elements.{both_true, both_is, all_of_has, pairs_head, pairs_tail}

-- the words are the given ones, and no flush is the caller's and of the line
pub record IsAlone (caller : ℕ) (flushes : List Flush) (line : ℕ) (words : List ℕ) : Type 0 where
  pub same : last_words caller flushes line words ≡ words
  pub none : (f : Flush) → Has f flushes → f.caller ≡ caller → f.line ≡ line → ⊥

-- the words are those of one that is
pub record IsOutdated (caller : ℕ) (flushes : List Flush) (line : ℕ) (words : List ℕ) : Type 0 where
  pub by : Flush
  pub is_one : Has by flushes
  pub is_caller : by.caller ≡ caller
  pub is_line : by.line ≡ line
  pub value : last_words caller flushes line words ≡ by.words

pub last_is : (caller : ℕ) (flushes : List Flush) (line : ℕ) (words : List ℕ) → IsAlone caller flushes line words ⊎ IsOutdated caller flushes line words
last_is caller [] line words = inl (record { same = refl; none = λ f h c l. h })
last_is caller (f ∷ flushes) line words =
    elim (last_is caller flushes line (cond (is_of caller line f) f.words words)) [
      | inr o ↦ inr (record { by = o.by; is_one = inr o.is_one; is_caller = o.is_caller; is_line = o.is_line; value = o.value })
      | inl a ↦ elim (cases_Bool (is_of caller line f)) [
        | inl t ↦ inr (record {
          by = f;
          is_one = inl refl;
          is_caller = (both_true f.caller caller f.line line t).0;
          is_line = (both_true f.caller caller f.line line t).1;
          value = a.same ∙ ap (λ b. cond b f.words words) t;
        })
        | inr t ↦ inl (record {
          same = a.same ∙ ap (λ b. cond b f.words words) t;
          none = λ g h c l. elim h [
            | inl e ↦ let s : is_of caller line f ≡ true = both_is f.caller caller f.line line (sym (ap (λ (z : Flush). z.caller) e) ∙ c) (sym (ap (λ (z : Flush). z.line) e) ∙ l) in cc
            | inr q ↦ a.none g q c l
          ];
        })
      ]
    ]

-- ---- callers and lines stay

abbrev pub Same : Flush → Flush → Type 0
Same f g = (f.caller ≡ g.caller) × (f.line ≡ g.line)

-- each flush is one of before, but for its words
pub renewed_from : (caller : ℕ) (flushes : List Flush) (g : Flush) → Has g (renewed_by caller flushes) → (f : Flush) × Has f flushes × Same f g
renewed_from caller [] g h = absurd h
renewed_from caller (f ∷ flushes) g h = elim h [
  | inl e ↦ (f, inl refl, (sym (ap (λ (z : Flush). z.caller) e), sym (ap (λ (z : Flush). z.line) e)))
  | inr q ↦ let r = renewed_from caller flushes g q in (r.0, inr r.1, r.2)
]

pub renewed_to : (caller : ℕ) (flushes : List Flush) (f : Flush) → Has f flushes → (g : Flush) × Has g (renewed_by caller flushes) × Same f g
renewed_to caller [] f h = absurd h
renewed_to caller (e ∷ flushes) f h = elim h [
  | inl q ↦ (record e { words = last_words caller flushes e.line e.words }, inl refl, (ap (λ (z : Flush). z.caller) q, ap (λ (z : Flush). z.line) q))
  | inr q ↦ let r = renewed_to caller flushes f q in (r.0, inr r.1, r.2)
]

-- and so do how many words each holds
pub renewed_eight : (caller : ℕ) (flushes : List Flush) → ((f : Flush) → Has f flushes → length f.words ≡ 8) → (g : Flush) → Has g (renewed_by caller flushes) → length g.words ≡ 8
renewed_eight caller [] eight g h = absurd h
renewed_eight caller (f ∷ flushes) eight g h = elim h [
  | inl e ↦ ap (λ (z : Flush). length z.words) e ∙ elim (last_is caller flushes f.line f.words) [
    | inl a ↦ ap length a.same ∙ eight f (inl refl)
    | inr o ↦ ap length o.value ∙ eight o.by (inr o.is_one)
  ]
  | inr q ↦ renewed_eight caller flushes (λ f' k. eight f' (inr k)) g q
]

-- how many flushes each caller has
pub renewed_count : (caller c : ℕ) (flushes : List Flush) → length (flushes_of c (renewed_by caller flushes)) ≡ length (flushes_of c flushes)
renewed_count caller c [] = refl
renewed_count caller c (f ∷ flushes) =
    let g : Flush = record f { words = last_words caller flushes f.line f.words } in
    let rest : length (flushes_of c (renewed_by caller flushes)) ≡ length (flushes_of c flushes) = renewed_count caller c flushes in
    let P : Bool → Type 0 = λ b. length (cond b (g ∷ flushes_of c (renewed_by caller flushes)) (flushes_of c (renewed_by caller flushes))) ≡ length (cond b (f ∷ flushes_of c flushes) (flushes_of c flushes)) in
    elim (cases_Bool (eqb f.caller c)) [
      | inl t ↦ subst P (sym t) (omega arith)
      | inr t ↦ subst P (sym t) rest
    ]

-- pairs that are related by their callers and lines
pub renewed_pairs : (R : Flush → Flush → Type 0) → ((f g f' g' : Flush) → Same f f' → Same g g' → R f g → R f' g')
    → (caller : ℕ) (flushes : List Flush) → AllPairs R flushes → AllPairs R (renewed_by caller flushes)
renewed_pairs R same caller [] pairs = pairs
renewed_pairs R same caller (f ∷ flushes) pairs =
    AllPairs-cons R (record f { words = last_words caller flushes f.line f.words }) (renewed_by caller flushes)
    (all_of_has (R (record f { words = last_words caller flushes f.line f.words })) (renewed_by caller flushes)
    (λ g h. let r = renewed_from caller flushes g h in same f r.0 (record f { words = last_words caller flushes f.line f.words }) g (refl, refl) r.2 (pairs_head R f flushes pairs r.0 r.1)))
    (renewed_pairs R same caller flushes (pairs_tail R f flushes pairs))

-- ---- one flush more

last_push : (caller : ℕ) (flushes : List Flush) (f : Flush) (line : ℕ) (words : List ℕ)
    → last_words caller (flushes ++ f ∷ []) line words ≡ cond (is_of caller line f) f.words (last_words caller flushes line words)
last_push caller [] f line words = refl
last_push caller (g ∷ flushes) f line words = last_push caller flushes f line (cond (is_of caller line g) g.words words)

flush_same : (g : Flush) (ws vs : List ℕ) → ws ≡ vs → ◌≡◌ {A = Flush} (record g { words = ws }) (record g { words = vs })
flush_same g ws vs h = ap (λ x. record g { words = x }) h

-- behind a flush of another caller all hold what they held
push_other : (caller : ℕ) (flushes : List Flush) (f : Flush) → eqb f.caller caller ≡ false → renewed_by caller (flushes ++ f ∷ []) ≡ renewed_by caller flushes ++ f ∷ []
push_other caller [] f n = refl
push_other caller (g ∷ flushes) f n =
    let off : is_of caller g.line f ≡ false = ap (λ b. b && eqb f.line g.line) n in
    let same : last_words caller (flushes ++ f ∷ []) g.line g.words ≡ last_words caller flushes g.line g.words =
    last_push caller flushes f g.line g.words ∙ ap (λ b. cond b f.words (last_words caller flushes g.line g.words)) off in
    let head : record g { words = last_words caller (flushes ++ f ∷ []) g.line g.words } ≡ record g { words = last_words caller flushes g.line g.words } = flush_same g _ _ same in
    let rest : renewed_by caller (flushes ++ f ∷ []) ≡ renewed_by caller flushes ++ f ∷ [] = push_other caller flushes f n in
    cc

-- behind one of the caller those of its line hold its words
push_own : (caller : ℕ) (flushes : List Flush) (f : Flush) → eqb f.caller caller ≡ true
    → renewed_by caller (flushes ++ f ∷ []) ≡ map (renewed f.line f.words) (renewed_by caller flushes) ++ f ∷ []
push_own caller [] f t = refl
push_own caller (g ∷ flushes) f t =
    let on : is_of caller g.line f ≡ eqb f.line g.line = ap (λ b. b && eqb f.line g.line) t in
    let same : last_words caller (flushes ++ f ∷ []) g.line g.words ≡ cond (eqb f.line g.line) f.words (last_words caller flushes g.line g.words) =
    last_push caller flushes f g.line g.words ∙ ap (λ b. cond b f.words (last_words caller flushes g.line g.words)) on in
    let old : Flush = record g { words = last_words caller flushes g.line g.words } in
    let head : record g { words = last_words caller (flushes ++ f ∷ []) g.line g.words } ≡ renewed f.line f.words old = flush_same g _ _ same ∙ choose g f (last_words caller flushes g.line g.words) in
    let rest : renewed_by caller (flushes ++ f ∷ []) ≡ map (renewed f.line f.words) (renewed_by caller flushes) ++ f ∷ [] = push_own caller flushes f t in
    cc
  where
    choose : (g f : Flush) (ws : List ℕ) → ◌≡◌ {A = Flush} (record g { words = cond (eqb f.line g.line) f.words ws }) (renewed f.line f.words (record g { words = ws }))
    choose g f ws = elim (cases_eq g.line f.line) [
      | inl e ↦ flush_same g _ _ (ap (λ b. cond b f.words ws) (eq-eqb f.line g.line (sym e)))
          ∙ sym (ap (λ b. cond b (record g { words = f.words }) (record g { words = ws })) (eq-eqb g.line f.line e))
      | inr n ↦ flush_same g _ _ (ap (λ b. cond b f.words ws) (ne_eqb f.line g.line (λ q. n (sym q))))
          ∙ sym (ap (λ b. cond b (record g { words = f.words }) (record g { words = ws })) (ne_eqb g.line f.line n))
    ]

pub renewed_push : (caller : ℕ) (flushes : List Flush) (f : Flush)
    → renewed_by caller (flushes ++ f ∷ []) ≡ cond (eqb f.caller caller) (map (renewed f.line f.words) (renewed_by caller flushes)) (renewed_by caller flushes) ++ f ∷ []
renewed_push caller flushes f = elim (cases_Bool (eqb f.caller caller)) [
  | inl t ↦ push_own caller flushes f t ∙ ap (λ b. cond b (map (renewed f.line f.words) (renewed_by caller flushes)) (renewed_by caller flushes) ++ f ∷ []) (sym t)
  | inr t ↦ push_other caller flushes f t ∙ ap (λ b. cond b (map (renewed f.line f.words) (renewed_by caller flushes)) (renewed_by caller flushes) ++ f ∷ []) (sym t)
]

pub length-renewed_by : (caller : ℕ) (flushes : List Flush) → length (renewed_by caller flushes) ≡ length flushes
length-renewed_by caller [] = refl
length-renewed_by caller (f ∷ flushes) = ap suc (length-renewed_by caller flushes)

-- ---- the flushes so far, and those behind

module _ (caller at : ℕ) (init now : List Flush) (within : at < length init) (long : length now ≡ length init)
    (before : take at now ≡ renewed_by caller (take at init)) (behind : drop at now ≡ drop at init) (d : Flush) where
  abbrev this : Flush
  this = get_or now at d

  is_this : get_or init at d ≡ this
  is_this =
      let here : at + 0 ≡ at = omega arith in
      sym (ap (λ k. get_or init k d) here) ∙ sym (get_or-drop at init 0 d) ∙ ap (λ fs. get_or fs 0 d) (sym behind) ∙ get_or-drop at now 0 d ∙ ap (λ k. get_or now k d) here

  here_now : drop at now ≡ this ∷ drop (suc at) now
  here_now = drop-cons now at d (omega arith)

  here_init : drop at init ≡ get_or init at d ∷ drop (suc at) init
  here_init = drop-cons init at d within

  rest_same : drop (suc at) now ≡ drop (suc at) init
  rest_same = let e : this ∷ drop (suc at) now ≡ get_or init at d ∷ drop (suc at) init = sym here_now ∙ behind ∙ here_init in cc

  before_push : renewed_by caller (take (at + 1) init) ≡ cond (eqb this.caller caller) (map (renewed this.line this.words) (take at now)) (take at now) ++ this ∷ []
  before_push =
      ap (λ fs. renewed_by caller fs) (take_more init at d within ∙ ap (λ f. take at init ++ f ∷ []) is_this)
      ∙ renewed_push caller (take at init) this
      ∙ ap (λ fs. cond (eqb this.caller caller) (map (renewed this.line this.words) fs) fs ++ this ∷ []) (sym before)

  -- what stands before is some list, and behind it is the rest
  module _ (fs : List Flush) (as_long : length fs ≡ at) where
    parts : fs ++ drop at now ≡ (fs ++ this ∷ []) ++ drop (suc at) now
    parts = ap (λ xs. fs ++ xs) here_now ∙ sym (append_assoc fs (this ∷ []) (drop (suc at) now))

    front : length (fs ++ this ∷ []) ≡ at + 1
    front = length-append fs (this ∷ []) ∙ ap (λ n. n + 1) as_long

    pub take_front : take (at + 1) (fs ++ drop at now) ≡ fs ++ this ∷ []
    take_front = ap (λ n. take n (fs ++ drop at now)) (sym front) ∙ ap (λ xs. take (length (fs ++ this ∷ [])) xs) parts ∙ take-append_seam (fs ++ this ∷ []) (drop (suc at) now)

    pub drop_front : drop (at + 1) (fs ++ drop at now) ≡ drop (at + 1) init
    drop_front =
        let next : suc at ≡ at + 1 = omega arith in
        ap (λ n. drop n (fs ++ drop at now)) (sym front) ∙ ap (λ xs. drop (length (fs ++ this ∷ [])) xs) parts
        ∙ drop-append_seam (fs ++ this ∷ []) (drop (suc at) now) ∙ rest_same ∙ ap (λ n. drop n init) next

  pub own_before : (fs : List Flush) → this.caller ≡ caller → fs ≡ map (renewed this.line this.words) (take at now)
      → take (at + 1) (fs ++ drop at now) ≡ renewed_by caller (take (at + 1) init)
  own_before fs own is =
      take_front fs (long_enough fs is) ∙ ap (λ xs. xs ++ this ∷ []) is
      ∙ sym (before_push ∙ ap (λ b. cond b (map (renewed this.line this.words) (take at now)) (take at now) ++ this ∷ []) (eq-eqb this.caller caller own))
    where
      long_enough : (xs : List Flush) → xs ≡ map (renewed this.line this.words) (take at now) → length xs ≡ at
      long_enough xs q = ap length q ∙ length-map (take at now) (renewed this.line this.words) ∙ length-take-le at now (omega arith)

  pub own_behind : (fs : List Flush) → fs ≡ map (renewed this.line this.words) (take at now) → drop (at + 1) (fs ++ drop at now) ≡ drop (at + 1) init
  own_behind fs is = drop_front fs (ap length is ∙ length-map (take at now) (renewed this.line this.words) ∙ length-take-le at now (omega arith))

  pub other_before : (this.caller ≡ caller → ⊥) → take (at + 1) now ≡ renewed_by caller (take (at + 1) init)
  other_before other =
      take_more now at d (omega arith)
      ∙ sym (before_push ∙ ap (λ b. cond b (map (renewed this.line this.words) (take at now)) (take at now) ++ this ∷ []) (ne_eqb this.caller caller other))

  pub other_behind : drop (at + 1) now ≡ drop (at + 1) init
  other_behind = let next : suc at ≡ at + 1 = omega arith in ap (λ n. drop n now) (sym next) ∙ rest_same ∙ ap (λ n. drop n init) next
