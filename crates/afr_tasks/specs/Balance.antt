-- What was put is what was taken and what the queue holds, however the tasks are weighed.
use Rattle.std.specs.Prelude.{◌≡◌, ℕ, ◌+◌, ◌<◌, List, [], ◌∷◌}
use mathlib.Core.Option.{some}
use lib.ListN.{get_elem?}
use Rattle.afr_tasks.specs.declared.rule.Hand.{Hand}
use Rattle.afr_tasks.specs.declared.rule.Task.{Task}

abbrev pub hand : ℕ → List Task → List Task → Hand
hand parts put taken = record { parts = parts; put = put; taken = taken }

-- the weights of a list, added up
abbrev pub weigh : {A : Type 0} → (A → ℕ) → List A → ℕ
weigh h [] = 0
weigh h (x ∷ xs) = h x + weigh h xs

-- f of each pass, added up
abbrev pub total : (Hand → ℕ) → List Hand → ℕ
total f [] = 0
total f (v ∷ vs) = f v + total f vs

-- a pass with no part has taken nothing, and one with fewer than three has put nothing: of five parts only one pass can have three
abbrev pub HasRights : Hand → Type 0
HasRights v = (v.parts ≡ 0 → v.taken ≡ []) × (v.parts < 3 → v.put ≡ [])

abbrev pub AllHaveRights : List Hand → Type 0
AllHaveRights views = (port : ℕ) (v : Hand) → get_elem? views port ≡ some v → HasRights v

abbrev pub Balanced : List Task → List Hand → Type 0
Balanced items views =
    (total (λ v. v.parts) views ≡ 5)
    × ((h : Task → ℕ) → total (λ v. weigh h v.put) views ≡ total (λ v. weigh h v.taken) views + weigh h items)
    × AllHaveRights views
