-- What the check of some lists found, part by part, is whether they are a legal history.
use Rattle.std.proofs.Common.{◌≡◌, suc, Bool, false, List, sym, ap, subst, ◌∙◌, arith}
use Rattle.std.specs.Prelude.{◌↔◌, IsTrue, IfOk, Result, Ok, Err}
use Rattle.std.specs.List.{AllByRecursion}
use Rattle.map_model.specs.declared.entry.Entry.{Entry}
use Rattle.map_model.specs.declared.by_place.AtPlace.{AtPlace}
use Rattle.map_model.specs.Map.{Map}
use Rattle.map_model.specs.Weave.{all_of, draws, weave_below}
use Rattle.map_model.specs.Legal.{InOrder, IsPlace, IsLegal, AreReplies}
use Rattle.map_model.specs.Apart.{ArePutApart, IsRightWoven, joined_again}
use Rattle.map_model.proofs.PutApart.{joined_again-weave_below, ShowOneDraw, shown-AreDrawnOnce, drawn-ShowOneDraw}

never : {P : Type 0} → (P → ⊥) → IsTrue false ↔ P
never none = (λ is. absurd (cc), λ p. absurd (none p))

contradicted : (b : Bool) → IsTrue b → b ≡ false → ⊥
contradicted b is isnt = absurd (grind arith)

module _ (start : Map) (all : List Entry) (places : List AtPlace) (apart : ArePutApart all (suc (draws all)) places) where
  -- a place that does not show one draw is fault enough
  pub unshown : (shown : Bool) → (IsTrue shown ↔ ShowOneDraw all places) → shown ≡ false → IsTrue false ↔ IsRightWoven start all
  unshown shown tells isnt = never (λ woven. contradicted shown (tells.1 (drawn-ShowOneDraw all (draws all) places apart woven.0)) isnt)

  -- otherwise the replies along the joined places tell
  pub shown : {E : Type 0} (r : Result Bool E) (plain : Map) (row : List Entry) → ShowOneDraw all places → plain ≡ start → row ≡ joined_again places
      → IfOk r (λ yes. IsTrue yes ↔ AreReplies plain row) → IfOk r (λ yes. IsTrue yes ↔ IsRightWoven start all)
  shown (Ok answer) plain row one same_map same_row tells =
      let weave = same_row ∙ joined_again-weave_below all (suc (draws all)) places apart in
      let told = subst (λ m. IsTrue answer ↔ AreReplies m (weave_below all (suc (draws all)))) same_map (subst (λ es. IsTrue answer ↔ AreReplies plain es) weave tells) in
      (λ is. (shown-AreDrawnOnce all (draws all) places apart one, told.0 is), λ woven. told.1 woven.1)
  shown (Err error) plain row one same_map same_row tells = tt

-- callers in order, and all entries at places that the draws have reached
abbrev pub HaveOrder : List (List Entry) → List Entry → Type 0
HaveOrder rows all = AllByRecursion (InOrder 1 0) rows × AllByRecursion (IsPlace (draws all)) all

module _ (start : Map) (lists rows : List (List Entry)) (all : List Entry) (same_rows : rows ≡ lists) (same_all : all ≡ all_of rows) where
  all_are : all ≡ all_of lists
  all_are = same_all ∙ ap all_of same_rows

  IsLegal-parts : IsLegal start lists → HaveOrder rows all × IsRightWoven start all
  IsLegal-parts legal =
      subst (λ es. HaveOrder rows es × IsRightWoven start es) (sym all_are)
      (subst (λ ls. HaveOrder ls (all_of lists) × IsRightWoven start (all_of lists)) (sym same_rows)
      ((legal.callers, legal.places), (legal.each_once, legal.replies)))

  parts-IsLegal : HaveOrder rows all → IsRightWoven start all → IsLegal start lists
  parts-IsLegal order woven =
      let order_there = subst (λ es. HaveOrder lists es) all_are (subst (λ ls. HaveOrder ls all) same_rows order) in
      let woven_there = subst (IsRightWoven start) all_are woven in
      record { callers = order_there.0; places = order_there.1; each_once = woven_there.0; replies = woven_there.1 }

  -- where they have order, the weave tells
  pub ordered : {E : Type 0} (r : Result Bool E) → HaveOrder rows all → IfOk r (λ yes. IsTrue yes ↔ IsRightWoven start all) → IfOk r (λ yes. IsTrue yes ↔ IsLegal start lists)
  ordered (Ok answer) order tells = (λ is. parts-IsLegal order (tells.0 is), λ legal. tells.1 (IsLegal-parts legal).1)
  ordered (Err error) order tells = tt
