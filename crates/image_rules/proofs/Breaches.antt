-- The first breach, from what each rule says of the words.
use Rattle.std.proofs.Common.{◌≡◌, ℕ, ◌+◌, ◌<◌, ◌≤◌, refl, sym, ap, subst, ◌∙◌, arith, ⊎_elim}
use Rattle.std.specs.Prelude.{◌==◌, if◌then◌else◌}
use Rattle.std.proofs.lemmas.Bool.{cases_lt}
use Rattle.image_layout.specs.Places.{Shape}
use Rattle.sound_image.specs.Segments.{ImageWords}
use Rattle.sound_image.specs.Rules.{FollowsRules}
use Rattle.image_rules.specs.declared.breach.Rule.{Rule}
use Rattle.image_rules.specs.declared.breach.Rule.TheVariants.{Numbers, Owners, Entries, Records, Values, Versions, Repaired}
use Rattle.image_rules.specs.Breach.{IsLeast, number_of, HoldsAt, IsFirstBreach}
use Rattle.image_rules.specs.Divided.{IsDivided}

-- A RULE BY ITS NUMBER
abbrev rule_at : ℕ → Rule
rule_at n =
    if n == 1 then Numbers else (
    if n == 2 then Owners else (
    if n == 3 then Entries else (if n == 4 then Records else (if n == 5 then Values else (if n == 6 then Versions else Repaired)))))

by_number : (r : Rule) → rule_at (number_of r) ≡ r
by_number Numbers = refl
by_number Owners = refl
by_number Entries = refl
by_number Records = refl
by_number Values = refl
by_number Versions = refl
by_number Repaired = refl

-- the numbers are 1 to 7
record IsNumber (n : ℕ) : Type 0 where
  from : 1 ≤ n
  to : n < 8

has_number : (r : Rule) → IsNumber (number_of r)
has_number Numbers = record { from = omega arith; to = omega arith }
has_number Owners = record { from = omega arith; to = omega arith }
has_number Entries = record { from = omega arith; to = omega arith }
has_number Records = record { from = omega arith; to = omega arith }
has_number Values = record { from = omega arith; to = omega arith }
has_number Versions = record { from = omega arith; to = omega arith }
has_number Repaired = record { from = omega arith; to = omega arith }

module _ (shape : Shape) (word : ImageWords) where
  -- each rule of a lower number holds
  abbrev pub Known : ℕ → Type 0
  Known number = (r : Rule) (w : ℕ) → number_of r < number → HoldsAt shape word r w

  pub no_rules : Known 1
  no_rules r w less = absurd (omega (arith, less, (has_number r).from))

  -- and this one does too
  pub and_rule : (next : Rule) → Known (number_of next) → ((w : ℕ) → HoldsAt shape word next w) → Known (number_of next + 1)
  and_rule next known holds r w less =
      ⊎_elim (λ (earlier : number_of r < number_of next). known r w earlier)
      (λ (later : number_of next ≤ number_of r).
      let same : number_of next ≡ number_of r = omega (arith, later, less) in
      subst (λ (r : Rule). HoldsAt shape word r w) (sym (by_number next) ∙ ap rule_at same ∙ by_number r) (holds w))
      (cases_lt (number_of r) (number_of next))

  pub breaks : (r : Rule) (w : ℕ) → Known (number_of r) → IsLeast (HoldsAt shape word r) w → IsFirstBreach shape word r w
  breaks r w known least = record { least = least; rules_before = known }

  pub all_hold : Known 8 → (r : Rule) (w : ℕ) → HoldsAt shape word r w
  all_hold known r w = known r w (has_number r).to

  -- what is known of an image in which each hash has one owner
  pub of_divided : IsDivided shape word → Known 3
  of_divided divided = and_rule Owners (and_rule Numbers no_rules divided.numbered.numbers_fit) divided.hashes_owned

  -- THE RULES BY NUMBERS
  pub follows_rules : ((r : Rule) (w : ℕ) → HoldsAt shape word r w) → FollowsRules shape word
  follows_rules all n w =
      record {
        one = λ _. all Numbers w;
        two = λ _. all Owners w;
        three = λ _. all Entries w;
        four = λ _. all Records w;
        five = λ _. all Values w;
        six = λ _. all Versions w;
        seven = λ _. all Repaired w;
      }

  pub rules_hold : FollowsRules shape word → (r : Rule) (w : ℕ) → HoldsAt shape word r w
  rules_hold follows Numbers w = (follows 1 w).one refl
  rules_hold follows Owners w = (follows 2 w).two refl
  rules_hold follows Entries w = (follows 3 w).three refl
  rules_hold follows Records w = (follows 4 w).four refl
  rules_hold follows Values w = (follows 5 w).five refl
  rules_hold follows Versions w = (follows 6 w).six refl
  rules_hold follows Repaired w = (follows 7 w).seven refl
