-- One step from a segment towards the owner of a hash.
use Rattle.std.specs.Prelude.{ℕ}
use Rattle.sound_image.specs.Segments.{Frame, IsLiveFor, Owns, IsReadySide, InOneSide}
use Rattle.image_rules.specs.declared.directory.Step.{Step}
use Rattle.image_rules.specs.declared.directory.Step.TheVariants.{Owner, On, Lost}

-- the segment gives the hash away to this slot
pub record IsGivenTo (frame : Frame) (h s n : ℕ) : Type 0 where
  pub over : IsLiveFor frame h s
  pub ready : IsReadySide frame s n
  pub in_side : InOneSide frame s h

-- the step is right: the segment is the owner, or gives the hash away to that slot, or is none that covers it
abbrev pub IsStep : Frame → ℕ → ℕ → Step → Type 0
IsStep frame h s Owner = Owns frame s h
IsStep frame h s (On n) = IsGivenTo frame h s n
IsStep frame h s Lost = IsLiveFor frame h s → ⊥
