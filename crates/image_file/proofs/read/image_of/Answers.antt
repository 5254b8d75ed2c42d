-- What was looked at before is known of the words.
use Rattle.std.proofs.Common.{ℕ, List, refl, ap, subst, ◌∙◌, length, slice_index}
use Rattle.sound_image.specs.Image.{image_bytes}
use Rattle.image_rules.specs.declared.breach.Rule.{Rule}
use Rattle.image_rules.specs.Breach.{HoldsAt, IsFirstBreach}
use Rattle.image_rules.proofs.Answered.{told_some, told_none}
use Rattle.image_file.proofs.Accepted.{all_words, accepted-IsSoundImage, breach-HasFault}
use Rattle.image_file.proofs.read.image_of.Goals as goal

pub first_breach-requires : goal.first_breach-requires
first_breach-requires c =
    record {
      whole = ap length c.as_slice.ensures.value
          ∙ all_words (image_bytes c.args.words) c.args.words refl c.as_slice.ensures.fits c.args.geometry c.requires.framed c.requires.shape;
    }

pub returns-in-Some-clause-fault : goal.returns-in-Some-clause-fault
returns-in-Some-clause-fault c =
    breach-HasFault (image_bytes c.args.words) c.args.words refl c.as_slice.ensures.fits c.args.geometry c.requires.framed c.requires.shape
    c.in-Some.breach.rule c.in-Some.breach.word
    (subst (λ (words : List ℕ). IsFirstBreach c.args.geometry (slice_index words) c.in-Some.breach.rule c.in-Some.breach.word)
    c.as_slice.ensures.value
    (told_some _ c.in-Ok.found c.in-Some.breach c.in-Some.is c.in-Ok.ensures.some))

pub returns-in-None-clause-sound : goal.returns-in-None-clause-sound
returns-in-None-clause-sound c =
    accepted-IsSoundImage (image_bytes c.args.words) c.args.words refl c.as_slice.ensures.fits c.args.geometry c.requires.framed c.requires.shape
    (subst (λ (words : List ℕ). (r : Rule) (w : ℕ) → HoldsAt c.args.geometry (slice_index words) r w) c.as_slice.ensures.value
    (told_none _ c.in-Ok.found c.in-None.is c.in-Ok.ensures.none))
