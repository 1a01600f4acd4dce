-- The lookups' answer in the papers' terms: a refusal's number, or what the job returns.
-- Assumes nothing.
use Rattle.std.specs.Prelude.{ℕ, Option, Some, None, Result, Ok, Err}
use Rattle.format.specs.Question.{Outcome, refused, returns}
use Rattle.format.specs.Answer.{LookupAnswer, absent, listed}
use Rattle.format.specs.Refusal.{number_of}
use Rattle.format.specs.declared.refusal.Refusal.{Refusal}
use Rattle.paged_lookup.specs.declared.Found.{Found}
use Rattle.paged_lookup.specs.declared.Found.TheVariants.{Listed, Absent}

-- the rank with the page numbers, or absent with the number of smaller keys
abbrev pub answer_of : Found → LookupAnswer
answer_of (Listed rank pages) = listed rank pages
answer_of (Absent smaller) = absent smaller

abbrev pub lookup_outcome : Result Found Refusal → Outcome LookupAnswer
lookup_outcome (Ok found) = returns (answer_of found)
lookup_outcome (Err refusal) = refused (number_of refusal)

-- the rank of a listed admission
abbrev pub rank_in : Found → Option ℕ
rank_in (Listed rank pages) = Some rank
rank_in (Absent smaller) = None

-- the number of smaller keys: of a listed admission its rank
abbrev pub smaller_in : Found → ℕ
smaller_in (Listed rank pages) = rank
smaller_in (Absent smaller) = smaller
