-- The way again.
use Rattle.std.proofs.Common.{◌≡◌, ◌≢◌, ℕ, ◌+◌, ◌<◌, ◌≤◌, Bool, true, false, refl, sym, ap, ◌∙◌, arith}
use Rattle.std.specs.Prelude.{◌==◌, ◌&&◌, if◌then◌else◌}
use Rattle.std.proofs.lemmas.Bool.{eqb-true, lt-ltb, and_parts, false≢true, cond_both}
use Rattle.op_core.specs.declared.want.Want.TheVariants.{Load as LoadWord}
use Rattle.image_layout.specs.Places.{Shape, root_word, head_at}
use Rattle.way.specs.Ways.{is_leading}
use Rattle.world.specs.declared.site.Site.{Site}
use Rattle.world.specs.Ground.{Ground}
use Rattle.world.specs.Views.{View}
use Rattle.world.specs.Kinds.{Kind, pins, wanted, view_after}
use Rattle.world.specs.Conditions.{May}
use Rattle.phase.specs.declared.walk.Path.{Path}
use Rattle.phase.specs.declared.back.Back.{Back}
use Rattle.phase.specs.declared.back.Back.TheVariants.{Root, Entry, Head}
use Rattle.phase.specs.declared.back.Backed.{Backed}
use Rattle.phase.specs.declared.back.Backed.TheVariants.{Same, Moved}
use Rattle.phase.specs.Backs.{back_word, back_before, back_on, back_leads, back_taken}
use Rattle.phase.specs.Stands.{back_kind, back_left, backed_left}
use Rattle.phase.specs.Laws.{BackFits, BackLeads, BackLeadsAway}

-- what it makes of a word: the next one, or that it moved or leads away
module _ (P : Backed → Type 0) (here : Site) (hash : ℕ) (path : Path) (at : Back) (n : ℕ) where
  abbrev test : Bool
  test = (n == back_before path at) && back_leads here hash path at

  pub back_by_test : (test ≡ true → P (back_on at)) → (test ≡ false → P (Moved (back_word here hash path at) (back_before path at) n)) → P (back_taken here hash path at n)
  back_by_test same moved = cond_both test (back_on at) (Moved (back_word here hash path at) (back_before path at) n) P same moved

  pub back_cases : P (back_on at) → P (Moved (back_word here hash path at) (back_before path at) n) → P (back_taken here hash path at n)
  back_cases same moved = back_by_test (λ t. same) (λ f. moved)

on_falls : (at : Back) → backed_left (back_on at) < back_left at
on_falls Root = omega arith
on_falls Entry = omega arith
on_falls Head = omega arith

some_left : (at : Back) → 0 < back_left at
some_left Root = omega arith
some_left Entry = omega arith
some_left Head = omega arith

pub back_few : (at : Back) → back_left at ≤ 3
back_few Root = omega arith
back_few Entry = omega arith
back_few Head = omega arith

pub back_falls : (here : Site) (hash : ℕ) (path : Path) (at : Back) (n : ℕ) → backed_left (back_taken here hash path at n) < back_left at
back_falls here hash path at n = back_cases (λ x. backed_left x < back_left at) here hash path at n (on_falls at) (some_left at)

-- ---- its events
module _ (shape : Shape) (here : Site) (hash : ℕ) (path : Path) (last : Kind) where
  pub back_wants : (at : Back) → wanted shape last ≡ LoadWord (back_word here hash path Head) → LoadWord (back_word here hash path at) ≡ wanted shape (back_kind here hash path last at)
  back_wants Root is = refl
  back_wants Entry is = refl
  back_wants Head is = sym is

  pub back_same : (at : Back) (n : ℕ) (v : View) → at ≢ Head → view_after shape (back_kind here hash path last at) n v ≡ v
  back_same Root n v other = refl
  back_same Entry n v other = refl
  back_same Head n v other = absurd (other refl)

pub back_may : (site : Ground) (here : Site) (hash : ℕ) (path : Path) (last : Kind) (at : Back) (v : View) → May site last v → May site (back_kind here hash path last at) v
back_may site here hash path last Root v may = tt
back_may site here hash path last Entry v may = tt
back_may site here hash path last Head v may = may

pub back_pins : (shape : Shape) (here : Site) (hash : ℕ) (path : Path) (b : ℕ) → here.geometry ≡ shape → path.segment < shape.segments
    → wanted shape (pins path.segment b) ≡ LoadWord (back_word here hash path Head)
back_pins shape here hash path b same within =
    ap (λ (g : Shape). LoadWord (head_at g path.segment + 1)) (sym same)
    ∙ ap (λ t. LoadWord (if t then head_at here.geometry path.segment + 1 else root_word))
    (sym (lt-ltb path.segment here.geometry.segments (let s = ap (λ (g : Shape). g.segments) same in omega (arith, s, within))))

pub back_fits : BackFits
back_fits = record { wants = back_wants; may = back_may; view = back_same; validates = λ shape here hash path. refl; pins = back_pins }

-- ---- where it ends
on_same : (at : Back) → back_on at ≡ Same → at ≡ Head
on_same Root e = absurd (let z = e in cc)
on_same Entry e = absurd (let z = e in cc)
on_same Head e = refl

module _ (here : Site) (hash : ℕ) (path : Path) (n : ℕ) where
  head_found : (at : Back) → at ≡ Head → ((n == back_before path at) && back_leads here hash path at) ≡ true → (n ≡ path.head) × (is_leading path.head hash ≡ true)
  head_found at is t =
      let at_head : ((n == path.head) && is_leading path.head hash) ≡ true = ap (λ (a : Back). (n == back_before path a) && back_leads here hash path a) (sym is) ∙ t in
      let parts = and_parts (n == path.head) (is_leading path.head hash) at_head in
      (eqb-true n path.head parts.0, parts.1)

pub back_ends : BackLeads
back_ends here hash path at n =
    back_by_test (λ x. x ≡ Same → (at ≡ Head) × (n ≡ path.head) × (is_leading path.head hash ≡ true)) here hash path at n
    (λ t e. let is = on_same at e in let found = head_found here hash path n at is t in (is, found.0, found.1))
    (λ f e. absurd (let z = e in cc))

pub back_never : BackLeadsAway
back_never here hash path at n away same = false≢true (sym away ∙ (back_ends here hash path at n same).2)
