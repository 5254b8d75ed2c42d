-- Seats that are cut in two and joined, by what the world says of their views.
use Rattle.std.specs.Prelude.{[], ◌∷◌, ◌++◌}
use Rattle.world.specs.World.{fresh_view}
use Rattle.world.specs.Seats.{cut_off, left_of, joined, spent}
use Rattle.vlock.specs.declared.knows.Watch.{Watch}

-- a pass is cut off for one caller, a note for none
abbrev pub pass_left : Watch → Watch
pass_left p = record p { view = left_of p.view 1 }

abbrev pub pass_right : Watch → Watch
pass_right p = record { view = cut_off p.view 1; past = []; took = [] }

abbrev pub note_left : Watch → Watch
note_left p = record p { view = left_of p.view 0 }

abbrev pub note_right : Watch → Watch
note_right p = record { view = cut_off p.view 0; past = []; took = [] }

-- what a seat knows that took in another: it holds, knows, owes and plans what both did; the replies of the other stay in views that it took in
abbrev pub both : Watch → Watch → Watch
both p q = record p { view = joined p.view q.view; past = p.past ++ spent q.view ∷ q.past }

-- the seat that was taken in is left with nothing
abbrev pub spent_watch : Watch
spent_watch = record { view = fresh_view 0; past = []; took = [] }
