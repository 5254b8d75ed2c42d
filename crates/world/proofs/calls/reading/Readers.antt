-- What is said of the notes and of the answer of one view, and that it is enough to say it of each.
use Rattle.std.proofs.Common.{◌≡◌, ◌≢◌, ◌⊎◌, ℕ, Bool, List, [], ◌∷◌, set, Option, None, Some, inl, inr, ◌∙◌, arith}
use Rattle.trace.specs.Events.{Words}
use Rattle.world.specs.Ground.{Ground, IsLockWord, IsUnder}
use Rattle.world.specs.Views.{Glance, Answer, View, Has, At}
use Rattle.world.specs.History.{Log, DrawnChange}
use Rattle.world.specs.Parts.{IsPastLock, IsUnmoved, IsAnswer}
use Rattle.world.specs.Invariant.{IsPastHeader, Notes}
use Rattle.world.proofs.basics.Structures.{lock_no_head}
use Rattle.world.proofs.basics.Seats.{each}
use Rattle.world.proofs.basics.Entries.{when_more}

-- a note of a lock word or of a header; while the word has the value that it had, the noted words are those of the bucket
pub record IsNote (site : Ground) (words : Words) (n : Glance) : Type 0 where
  pub past : IsPastLock site words n ⊎ IsPastHeader site words n
  pub inside : (i x : ℕ) → Has (i, x) n.words → IsUnder n.word i
  pub same : words n.word ≡ n.value → (i x : ℕ) → Has (i, x) n.words → words i ≡ x

-- all notes of a view are, and its answer is right where each noted word is unmoved
pub record AreNotes (site : Ground) (words : Words) (log : Log) (notes : List Glance) (answer : Option Answer) (seen : ℕ) : Type 0 where
  pub noted : (n : Glance) → Has n notes → IsNote site words n
  pub answered : (a : Answer) → answer ≡ Some a → ((n : Glance) → Has n notes → IsUnmoved words n) → IsAnswer site log seen a

-- so it is of each view
pub of_view : (site : Ground) (words : Words) (views : List View) (log : Log) → Notes site words views log → (j : ℕ) (v : View) → At views j v → AreNotes site words log v.notes v.answer v.seen
of_view site words views log o j v at = record {
  noted = λ n has. record { past = o.past j v n at has; inside = λ i x. o.inside j v n i x at has; same = λ e i x. o.same j v n i x at has e };
  answered = λ a is all. o.answered j v a at is all;
}

-- and where it is so of the new view and of all others, what is said of all views holds
pub of_all : (site : Ground) (us : Words) (views : List View) (log : Log) (j : ℕ) (v w : View) → At views j v
    → ((c : ℕ) (u : View) → c ≢ j → At views c u → AreNotes site us log u.notes u.answer u.seen) → AreNotes site us log w.notes w.answer w.seen → Notes site us (set views j w) log
of_all site us views log j v w at others own = record {
  past = λ c u n a has. ((all c u a).noted n has).past;
  inside = λ c u n i x a has. ((all c u a).noted n has).inside i x;
  same = λ c u n i x a has e. ((all c u a).noted n has).same e i x;
  answered = λ c u x a is un. (all c u a).answered x is un;
}
  where
    all : (c : ℕ) (u : View) → At (set views j w) c u → AreNotes site us log u.notes u.answer u.seen
    all = each views j v w at (λ c u. AreNotes site us log u.notes u.answer u.seen) own others

-- a view that noted nothing says nothing
pub none_noted : (site : Ground) (us : Words) (log : Log) (seen : ℕ) → AreNotes site us log [] None seen
none_noted site us log seen = record { noted = λ n has. absurd has; answered = λ a is all. absurd (cc) }

-- an answer that is right stays so where the history has one change more
answer_more : (site : Ground) (log : Log) (c : DrawnChange) (seen : ℕ) (a : Answer) → IsAnswer site log seen a → IsAnswer site (c ∷ log) seen a
answer_more site log c seen a r = record {
  within = (let w = r.within in omega (arith, w));
  had = when_more site.start log c a.place a.key r.within ∙ r.had;
  after_seen = r.after_seen;
}

pub notes_more : (site : Ground) (us : Words) (log : Log) (c : DrawnChange) (notes : List Glance) (answer : Option Answer) (seen : ℕ) → AreNotes site us log notes answer seen
    → AreNotes site us (c ∷ log) notes answer seen
notes_more site us log c notes answer seen o = record { noted = o.noted; answered = λ a is all. answer_more site log c seen a (o.answered a is all) }

-- a note that is marked, or not, is one as it was
pub marked_note : (site : Ground) (words : Words) (n : Glance) (b : Bool) → IsNote site words n → IsNote site words (record n { again = b })
marked_note site words n b f = record {
  past = elim f.past [
    | inl l ↦ inl (record { lock = l.lock; free = l.free; past = l.past })
    | inr d ↦ inr (record { slot = d.slot; head = d.head; lives = d.lives; past = d.past; again = d.again; alone = d.alone })
  ];
  inside = f.inside;
  same = f.same;
}

-- the note of a lock word is one of a free value of a current segment's lock
pub lock_note : (site : Ground) (words : Words) (n : Glance) → IsNote site words n → IsLockWord site.shape n.word → IsPastLock site words n
lock_note site words n f is = elim f.past [ inl l ↦ l | inr d ↦ absurd (lock_no_head site.shape n.word d.slot is d.head) ]
