-- The first breach of the rules: which rule is broken first, in the order of their numbers, and at which word.
use Rattle.std.specs.Prelude.{ℕ, ◌<◌}
use Rattle.image_layout.specs.Places.{Shape}
use Rattle.sound_image.specs.Segments.{ImageWords}
use Rattle.sound_image.specs.Rules.{numbers_rule, owners_rule, entries_rule, records_rule, values_rule, versions_rule, repaired_rule, NumbersFit, HashesAreOwned, EntriesLead, RecordsStandRight, KeysHaveOneValue, VersionsArePast, CleanMeansRepaired}
use Rattle.image_rules.specs.declared.breach.Rule.{Rule}
use Rattle.image_rules.specs.declared.breach.Rule.TheVariants as rule

-- the word is the least of which something does not hold
pub record IsLeast (Holds : ℕ → Type 0) (w : ℕ) : Type 0 where
  pub broken : Holds w → ⊥
  pub words_before : (v : ℕ) → v < w → Holds v

-- the number by which a rule is told
abbrev pub number_of : Rule → ℕ
number_of rule.Numbers = numbers_rule
number_of rule.Owners = owners_rule
number_of rule.Entries = entries_rule
number_of rule.Records = records_rule
number_of rule.Values = values_rule
number_of rule.Versions = versions_rule
number_of rule.Repaired = repaired_rule

module _ (shape : Shape) (word : ImageWords) where
  -- what a rule says of a word
  abbrev pub HoldsAt : Rule → ℕ → Type 0
  HoldsAt rule.Numbers = NumbersFit shape word
  HoldsAt rule.Owners = HashesAreOwned shape word
  HoldsAt rule.Entries = EntriesLead shape word
  HoldsAt rule.Records = RecordsStandRight shape word
  HoldsAt rule.Values = KeysHaveOneValue shape word
  HoldsAt rule.Versions = VersionsArePast shape word
  HoldsAt rule.Repaired = CleanMeansRepaired shape word

  -- the rule is broken at word w, and at no word before it; and each rule of a lower number holds
  pub record IsFirstBreach (broken : Rule) (w : ℕ) : Type 0 where
    pub least : IsLeast (HoldsAt broken) w
    pub rules_before : (r : Rule) (v : ℕ) → number_of r < number_of broken → HoldsAt r v
