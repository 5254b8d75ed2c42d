-- Words of one form are of no other.
use Rattle.std.proofs.Common.{◌≡◌, ℕ, List, [], ◌∷◌, refl, sym, ◌∙◌, inl, inr, false}
use Rattle.std.specs.Prelude.{codes}
use Rattle.std.specs.Str.{bytes_eq}
use Rattle.std.proofs.lemmas.Slice.Eq.{bytes_eq-Decides}
use Rattle.std.proofs.lemmas.Bool.{both_ways}
use Rattle.image_layout.specs.Places.{Shape}
use Rattle.script_text.specs.declared.line.Mode.{Mode}
use Rattle.script_text.specs.declared.line.Mode.TheVariants.{Play, Serve}
use Rattle.command_line.specs.declared.command.StormSize.{StormSize}
use Rattle.command_line.specs.Commands.{check_words, list_words, SaysFormat, SaysStorm, IsNoCommand, RunsScript, ReadsSource, LeavesStore}

-- ---- one word, and four
only_word : (a b : List ℕ) → a ∷ [] ≡ b ∷ [] → a ≡ b
only_word a b h = cc

-- words that are not the same bytes
pub differ : (words : List (List ℕ)) (a b : List ℕ) → bytes_eq a b ≡ false → words ≡ a ∷ [] → words ≡ b ∷ [] → ⊥
differ words a b unlike h k = both_ways (bytes_eq a b) unlike ((bytes_eq-Decides a b).1 (only_word a b (sym h ∙ k)))

pub one_is_not_four : (words : List (List ℕ)) (a b c d e : List ℕ) → words ≡ a ∷ [] → words ≡ b ∷ c ∷ d ∷ e ∷ [] → ⊥
one_is_not_four words a b c d e h k = cc

-- four words that do not begin with the same bytes
first_of_four : (a b c d e f g h : List ℕ) → a ∷ b ∷ c ∷ d ∷ [] ≡ e ∷ f ∷ g ∷ h ∷ [] → a ≡ e
first_of_four a b c d e f g h k = cc

format_is_no_storm : (words : List (List ℕ)) {shape : Shape} {size : StormSize} → SaysFormat words shape → SaysStorm words size → ⊥
format_is_no_storm words f s =
    both_ways (bytes_eq (codes "format") (codes "storm")) refl
    ((bytes_eq-Decides (codes "format") (codes "storm")).1 (first_of_four _ _ _ _ _ _ _ _ (sym f.says ∙ s.says)))

-- ---- of two commands only one can be said
pub check_is_no_run : (words : List (List ℕ)) → words ≡ check_words → ReadsSource words → ⊥
check_is_no_run words h (Play, k) = differ words (codes "check") (codes "play") refl h k
check_is_no_run words h (Serve, k) = differ words (codes "check") (codes "serve") refl h k

pub list_is_no_run : (words : List (List ℕ)) → words ≡ list_words → ReadsSource words → ⊥
list_is_no_run words h (Play, k) = differ words (codes "list") (codes "play") refl h k
list_is_no_run words h (Serve, k) = differ words (codes "list") (codes "serve") refl h k

pub run_is_no_storm : (words : List (List ℕ)) (mode : Mode) {size : StormSize} → SaysStorm words size → RunsScript words mode → ⊥
run_is_no_storm words Play s h = one_is_not_four words _ _ s.seed s.sessions s.calls h s.says
run_is_no_storm words Serve s h = one_is_not_four words _ _ s.seed s.sessions s.calls h s.says

-- ---- which commands leave the store
pub format_is_no_reader : (words : List (List ℕ)) {shape : Shape} → SaysFormat words shape → LeavesStore words → ⊥
format_is_no_reader words f (inl h) = one_is_not_four words _ _ f.segments f.depth f.kind h f.says
format_is_no_reader words f (inr (inl h)) = one_is_not_four words _ _ f.segments f.depth f.kind h f.says
format_is_no_reader words f (inr (inr s)) = format_is_no_storm words f s.1

pub run_is_no_reader : (words : List (List ℕ)) (mode : Mode) → RunsScript words mode → LeavesStore words → ⊥
run_is_no_reader words mode h (inl k) = check_is_no_run words k (mode, h)
run_is_no_reader words mode h (inr (inl k)) = list_is_no_run words k (mode, h)
run_is_no_reader words mode h (inr (inr s)) = run_is_no_storm words mode s.1 h

pub none_is_no_reader : (words : List (List ℕ)) → IsNoCommand words → LeavesStore words → ⊥
none_is_no_reader words none (inl h) = none.no_check h
none_is_no_reader words none (inr (inl h)) = none.no_list h
none_is_no_reader words none (inr (inr s)) = none.no_storm s.0 s.1
