-- A ready side begins at the middle of its segment, in a medium as now.
use Rattle.segment_table.proofs.Media.{ready_now, ready_there, deeper_there}
use Rattle.segment_table.proofs.laws.sides_are_ready_in_media.Goals as goal

pub returns-clause-now : goal.returns-clause-now
returns-clause-now c greatest medium newest most sound_m sound_n steady s n slot header =
    ready_now greatest most medium newest sound_m sound_n steady s slot header n

pub returns-clause-there : goal.returns-clause-there
returns-clause-there c greatest medium newest most sound_m sound_n steady s n slot header =
    ready_there greatest most medium newest sound_m sound_n steady s slot header n

pub returns-clause-deeper : goal.returns-clause-deeper
returns-clause-deeper c greatest medium newest most sound_m sound_n steady s n h slot header =
    deeper_there greatest most medium newest sound_m sound_n steady s slot header n h
