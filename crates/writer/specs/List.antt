-- The lent list of admissions: its keys.
-- Assumes nothing.
use Rattle.std.specs.Prelude.{true, List, [], ◌∷◌, ℕ}
use Rattle.format.specs.Key.{key_of}
use Rattle.format.specs.Question.{Question}
use Rattle.format.specs.declared.Admission.{Admission}

-- 35 has got a yes
abbrev pub yes_to_35 : Question
yes_to_35 = (35, true)

-- the keys of a list: `woven (pairs_in list)`, in one step from an admission to its key
abbrev pub keys_in : List Admission → List ℕ
keys_in [] = []
keys_in (a ∷ list) = key_of a.holder a.slot ∷ keys_in list
