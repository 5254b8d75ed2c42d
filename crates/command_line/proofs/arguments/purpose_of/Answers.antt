-- Every other command writes the file, or is none.
use Rattle.std.proofs.Common.{◌≡◌, inl, inr, map, string_bytes, subst}
use Rattle.script_text.specs.declared.line.Mode.TheVariants.{Play as PlayMode, Serve as ServeMode}
use Rattle.command_line.specs.declared.command.Command.{Command}
use Rattle.command_line.specs.declared.command.Command.TheVariants.{Format, Play, Serve, Unknown}
use Rattle.command_line.specs.Commands.{IsCommand}
use Rattle.command_line.proofs.Forms.{format_is_no_reader, run_is_no_reader, none_is_no_reader}
use Rattle.command_line.proofs.arguments.purpose_of.Goals as goal

pub returns-in-Format : goal.returns-in-Format
returns-in-Format c =
    let words = map string_bytes c.args.words.now in
    let says : (command : Command) → c.command_of.result ≡ command → IsCommand words command = λ command is. subst (λ it. IsCommand words it) is c.command_of.ensures in (
      λ reads. absurd (cc),
      λ leaves. elim c.in-Format.is [
        | inl format ↦ absurd (format_is_no_reader words (says (Format format.0) format.1) leaves)
        | inr other ↦ elim other [
          | inl play ↦ absurd (run_is_no_reader words PlayMode (says Play play) leaves)
          | inr last ↦ elim last [
            | inl serve ↦ absurd (run_is_no_reader words ServeMode (says Serve serve) leaves)
            | inr none ↦ absurd (none_is_no_reader words (says Unknown none) leaves)
          ]
        ]
      ],
    )
