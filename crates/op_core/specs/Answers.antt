-- What an answer says of the event that was asked for.
use Rattle.std.specs.Prelude.{◌≡◌, ◌≢◌, ℕ, ◌^◌, ◌<◌, ⊤, List, [], ◌∷◌}
use Rattle.op_core.specs.declared.want.Want.{Want}
use Rattle.op_core.specs.declared.want.Want.TheVariants.{Load, Store, Exchange, Flush, Fence, Draw, Power, Done}
use Rattle.op_core.specs.declared.want.Ans.{Ans}
use Rattle.op_core.specs.declared.want.Ans.TheVariants.{Value, Won, Lost, Drawn, Passed}

-- ---- what is asked for
-- an event that reads a word and changes none
abbrev pub IsLoad : Want → Type 0
IsLoad (Load word) = ⊤
IsLoad Power = ⊤
IsLoad w = ⊥

-- such an event, or none
abbrev pub IsReading : Want → Type 0
IsReading Done = ⊤
IsReading w = IsLoad w

-- ---- what is answered
-- an answer of the kind that was asked for
abbrev pub IsAnswer : Want → Ans → Type 0
IsAnswer (Load word) (Value n) = ⊤
IsAnswer (Store word x) Passed = ⊤
IsAnswer (Exchange word x y) Won = ⊤
IsAnswer (Exchange word x y) (Lost n) = ⊤
IsAnswer (Flush line) Passed = ⊤
IsAnswer Fence Passed = ⊤
IsAnswer Draw (Drawn place) = ⊤
IsAnswer Power (Value n) = ⊤
IsAnswer w a = ⊥

-- a value that is answered is a word
abbrev pub IsWord : Ans → Type 0
IsWord (Value n) = n < 2 ^ 64
IsWord a = ⊤

-- an exchange that is lost found another value than it expected
abbrev pub IsHonest : Want → Ans → Type 0
IsHonest (Exchange word x y) (Lost n) = x ≢ n
IsHonest w a = ⊤

-- ---- what an event with this answer found and did
-- it loaded this word, or tried to exchange it in vain, and found this value
abbrev pub Finds : Want → Ans → ℕ → ℕ → Type 0
Finds (Load i) (Value n) word seen = (i ≡ word) × (n ≡ seen)
Finds (Exchange i x y) (Lost n) word seen = (i ≡ word) × (n ≡ seen)
Finds w a word seen = ⊥

-- the word that it loaded, with its value
abbrev pub load_of : Want → Ans → List (ℕ × ℕ)
load_of (Load i) (Value n) = (i, n) ∷ []
load_of w a = []

-- the word that it changed: a store's, and that of an exchange that was won
abbrev pub change_of : Want → Ans → List ℕ
change_of (Store i x) a = i ∷ []
change_of (Exchange i x y) Won = i ∷ []
change_of w a = []
