-- Why a part of a command stopped is why the command did.
use Rattle.std.proofs.Common.{◌≡◌, ℕ, List, Result, Ok, Err, refl, sym, subst}
use Rattle.std.specs.Prelude.{IfErr, IsErrAnd}
use Rattle.image_layout.specs.Places.{Shape}
use Rattle.script_text.specs.declared.line.Mode.{Mode}
use Rattle.dash_top.specs.declared.work.Refused.{Refused}
use Rattle.dash_top.specs.declared.work.Refused.TheVariants.{Words, Script, Image, Source, Store, NoMemory}
use Rattle.command_line.specs.Commands.{SaysFormat, ReadsImage, RunsScript, words_of_mode}
use Rattle.dash_top.specs.Bytes.{Bytes, KeepsStore}
use Rattle.dash_top.specs.Reading.{HasScriptCause, HasImageCause}
use Rattle.dash_top.specs.Work.{HasCause, HasFormatCause, FindsScriptGood, StoreFailed}

module _ (t : Bytes) (words : List (List ℕ)) (source_old source_new store_old store_new : ℕ) where
  -- of a command that reads the image
  pub cause_of_reading : (refused : Refused) → ReadsImage words → FindsScriptGood t words → KeepsStore t → HasImageCause t.store_old store_old store_new refused
      → HasCause t words source_old source_new store_old store_new refused
  cause_of_reading Words reads good keeps h = absurd h
  cause_of_reading (Script fault) reads good keeps h = absurd h
  cause_of_reading (Image fault) reads good keeps h = (record { reads = reads; script = good; refused = h }, keeps)
  cause_of_reading Source reads good keeps h = absurd h
  cause_of_reading Store reads good keeps h = (h, StoreFailed.in_reading reads good keeps)
  cause_of_reading NoMemory reads good keeps h = keeps

  -- of a new image
  pub cause_of_format : {shape : Shape} (refused : Refused) → SaysFormat words shape
      → HasFormatCause t.store_old t.store_new t.writes_old t.writes_new t.lost store_old store_new refused
      → HasCause t words source_old source_new store_old store_new refused
  cause_of_format Words says h = absurd h
  cause_of_format (Script fault) says h = absurd h
  cause_of_format (Image fault) says h = absurd h
  cause_of_format Source says h = absurd h
  cause_of_format Store says h = (h.0, StoreFailed.in_formatting says (record { once = h.1.0; failed = h.1.1 }))
  cause_of_format NoMemory says h = record { same = h.0; unwritten = h.1 }

  -- of a run
  pub cause_of_run : (mode : Mode) (refused : Refused) → RunsScript words mode → HasCause t (words_of_mode mode) source_old source_new store_old store_new refused
      → HasCause t words source_old source_new store_old store_new refused
  cause_of_run mode refused form h = subst (λ w. HasCause t w source_old source_new store_old store_new refused) (sym form) h

-- of a script
pub cause_of_script : (t : Bytes) (mode : Mode) (source_old source_new store_old store_new : ℕ) (refused : Refused) → KeepsStore t
    → HasScriptCause mode t.source_old t.source_new source_old source_new refused → HasCause t (words_of_mode mode) source_old source_new store_old store_new refused
cause_of_script t mode source_old source_new store_old store_new Words keeps h = absurd h
cause_of_script t mode source_old source_new store_old store_new (Script fault) keeps h = ((mode, refl, h), keeps)
cause_of_script t mode source_old source_new store_old store_new (Image fault) keeps h = absurd h
cause_of_script t mode source_old source_new store_old store_new Source keeps h = ((mode, refl), h, keeps)
cause_of_script t mode source_old source_new store_old store_new Store keeps h = absurd h
cause_of_script t mode source_old source_new store_old store_new NoMemory keeps h = keeps

-- what holds of the error with which a result was made holds of its error
pub err_of : {T E : Type 0} (P : E → Type 0) (result : Result T E) (e : E) → IsErrAnd result (λ f. f ≡ e) → P e → IfErr result P
err_of P (Ok value) e is p = tt
err_of P (Err f) e is p = subst P (sym is) p
