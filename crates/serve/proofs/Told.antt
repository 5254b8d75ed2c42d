-- The entries of callers that have all their replies, as what callers were told.
use Rattle.std.proofs.Common.{◌≡◌, ℕ, List, [], ◌∷◌, length, refl, sym, ap, ◌∙◌, arith}
use Rattle.std.specs.Prelude.{map, take}
use Rattle.std.specs.List.{AllZip}
use Rattle.std.proofs.lemmas.List.{length-map, take_all}
use Rattle.map_model.specs.declared.call.Call.{Call}
use Rattle.map_model.specs.declared.entry.Entry.{Entry}
use Rattle.session.specs.Callers.{history_of, FollowsScript, IsAnswered}
use Rattle.serve.specs.Served.{AreMade, told_by}

pub histories : (lists : List (List Entry)) → map history_of (map told_by lists) ≡ lists
histories [] = refl
histories (es ∷ lists) = ap (λ (ls : List (List Entry)). es ∷ ls) (histories lists)

same_length : (calls : List Call) (entries : List Entry) → AreMade calls entries → length entries ≡ length calls
same_length calls entries made = sym (length-map entries (λ (e : Entry). e.call)) ∙ ap length made

pub follows : (calls : List Call) (entries : List Entry) → AreMade calls entries → FollowsScript calls (told_by entries)
follows calls entries made =
    let long = same_length calls entries made in
    record {
      its_calls = made ∙ sym (ap (λ (n : ℕ). take n calls) long ∙ take_all (length calls) calls (omega arith));
      within = omega (arith, long);
    }

pub all_follow : (scripts : List (List Call)) (lists : List (List Entry)) → AllZip AreMade scripts lists → AllZip FollowsScript scripts (map told_by lists)
all_follow [] [] all = tt
all_follow [] (es ∷ lists) all = absurd all
all_follow (cs ∷ scripts) [] all = absurd all
all_follow (cs ∷ scripts) (es ∷ lists) all = (follows cs es all.0, all_follow scripts lists all.1)

pub all_answered : (scripts : List (List Call)) (lists : List (List Entry)) → AllZip AreMade scripts lists → AllZip IsAnswered scripts (map told_by lists)
all_answered [] [] all = tt
all_answered [] (es ∷ lists) all = absurd all
all_answered (cs ∷ scripts) [] all = absurd all
all_answered (cs ∷ scripts) (es ∷ lists) all = (record { each = same_length cs es all.0; none_open = refl }, all_answered scripts lists all.1)
