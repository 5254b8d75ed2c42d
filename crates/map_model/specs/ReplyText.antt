-- How a reply is written.
use Rattle.std.specs.Prelude.{ℕ, List, ◌++◌, codes}
use Rattle.std.specs.Fmt.{decimal}
use Rattle.map_model.specs.declared.entry.Reply.{Reply}
use Rattle.map_model.specs.declared.entry.Reply.TheVariants.{Found, Absent, Done, Exists, Full, Deep, Spent}

abbrev pub reply_text : Reply → List ℕ
reply_text (Found v) = codes "FOUND " ++ decimal v
reply_text Absent = codes "ABSENT"
reply_text Done = codes "DONE"
reply_text Exists = codes "EXISTS"
reply_text Full = codes "FULL"
reply_text Deep = codes "DEEP"
reply_text Spent = codes "SPENT"
