-- Where the bytes are told, what was run is the headline.
use Rattle.std.proofs.Common.{◌≡◌, ℕ, ◌+◌, ◌≤◌, List, ◌++◌, length, take, sym, ap, ◌∙◌, subst, Option, None, Some, arith}
use Rattle.std.specs.Io.KnownBytes.{Appends, Consumes, IsAtEnd}
use Rattle.std.proofs.lemmas.Grind.{common_steps}
use Rattle.outside.specs.Storing.{Holds, IsFront}
use Rattle.sound_image.specs.Image.{image_bytes}
use Rattle.script_text.specs.declared.line.Mode.{Mode}
use Rattle.dash_top.specs.Modes.{IsRunIn}
use Rattle.dash_top.specs.Bytes.{Bytes}
use Rattle.dash_top.specs.Work.{Runs}
use Rattle.dash_top.specs.Top.{Headline}

-- what was read to the end is all that was left
pub consumed_all : (now : Option (List ℕ)) (taken all : List ℕ) → Consumes (Some all) now taken → IsAtEnd now → all ≡ taken
consumed_all None taken all h e = absurd h
consumed_all (Some rest) taken all h e = rw (h, e) (grind (arith, common_steps))

shorter_take : (n : ℕ) (all : List ℕ) → length (take (n + 1) all) ≤ n → take (n + 1) all ≡ all
shorter_take n all h = grind (arith, common_steps)

-- what was read of the store is all of it, where it is not more than may be
pub read_all : (limit : ℕ) (read held : List ℕ) → IsFront (Some held) limit read → length read ≤ limit → read ≡ held
read_all limit read held h le = h ∙ shorter_take limit held (subst (λ (x : List ℕ). length x ≤ limit) h le)

appended : (now : Option (List ℕ)) (text before : List ℕ) → Appends (Some before) now text → now ≡ Some (before ++ text)
appended None text before h = absurd h
appended (Some all) text before h = ap Some h

pub headline : (mode : Mode) (t : Bytes) (sink_old sink_new : Option (List ℕ)) (transcript : List ℕ) → Runs mode t transcript → Appends sink_old sink_new transcript → Headline mode t sink_old sink_new
headline mode t sink_old sink_new transcript runs appends start script before store_is source_is sink_is =
    let script_is : script ≡ runs.script =
    consumed_all t.source_new runs.script script (subst (λ (o : Option (List ℕ)). Consumes o t.source_new runs.script) source_is runs.reads_script.taken) (runs.reads_script.to_its_end runs.few) in
    let start_is : image_bytes runs.words ≡ start =
    read_all 282067200 (image_bytes runs.words) start (subst (λ (o : Option (List ℕ)). IsFront o 282067200 (image_bytes runs.words)) store_is runs.reads.front) runs.reads.all in (
      transcript,
      runs.ending,
      appended sink_new transcript before (subst (λ (o : Option (List ℕ)). Appends o sink_new transcript) sink_is appends),
      subst (λ (o : Option (List ℕ)). Holds o t.store_new runs.ending) store_is runs.stores,
      subst (λ (x : List ℕ). IsRunIn mode start x transcript runs.ending) (sym script_is)
          (subst (λ (x : List ℕ). IsRunIn mode x runs.script transcript runs.ending) start_is runs.run),
    )
