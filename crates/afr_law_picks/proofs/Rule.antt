-- What the rule answered is one of the good copies by the last looks, as the model counts them.
use Rattle.std.proofs.Common.{◌≡◌, ℕ, ◌<◌, false, List, [], ◌∷◌, Option, None, Some, refl, subst, arith, length, map, option_map, if◌then◌else◌}
use Rattle.afr_base.specs.Bricks.{is_nothing}
use Rattle.afr_base.specs.declared.ids.BrickId.{BrickId}
use Rattle.afr_base.specs.declared.ids.Kind.{Kind}
use Rattle.afr_base.specs.declared.ids.Shape.{Shape}
use Rattle.afr_choice.specs.Looks.{view_at, len_in}
use Rattle.afr_choice.specs.Verdict.{good_copies, verdict_of}
use Rattle.afr_choice.specs.declared.looked.Looked.{Looked}
use Rattle.afr_choice.specs.declared.verdict.Verdict.TheVariants.{Sources}
use Rattle.afr_model.specs.Chosen as model
use Rattle.afr_model.specs.Chosen.{Picks}
use Rattle.afr_law_picks.specs.Readings.{PickAnswers}
use Rattle.afr_rule.specs.declared.candidate.Candidate.{Candidate}
use Rattle.afr_client_walk.proofs.ChoosingLemmas.{some_listed, sources_some}
use Rattle.afr_client_walk.specs.Choosing.{candidates_of, choices, has_sources, reader_of}
use Rattle.afr_rule.specs.Copies.{copy_in}

-- a candidate by its numbers
abbrev pub numbers_of : Candidate → ℕ × ℕ
numbers_of candidate = (candidate.brick.0, candidate.len)

-- the number of a brick
abbrev pub number_of : BrickId → ℕ
number_of b = b.0

-- what was picked of these copies, as the model sees it
abbrev pub Picked : Picks → List Candidate → Option BrickId → Type 0
Picked picks from picked = PickAnswers picks (map numbers_of from) (option_map number_of picked)

numbers_in : (looked : Looked) (xs : List ℕ) → map numbers_of (map (copy_in looked) xs) ≡ map (λ b. (b, len_in (view_at b looked))) xs
numbers_in looked [] = refl
numbers_in looked (x ∷ xs) =
    let rest = numbers_in looked xs in
    λ i. (x, len_in (view_at x looked)) ∷ rest i

-- the copies that the rule chooses from are the model's candidates
pub candidates_are : (shape : Shape) (looked : Looked) (kind : Kind) → map numbers_of (candidates_of shape looked kind) ≡ model.candidates_of shape kind looked
candidates_are shape looked kind = numbers_in looked (good_copies shape looked kind)

empty_map : (from : List Candidate) → 0 < length from → map numbers_of from ≡ [] → ⊥
empty_map [] l e = omega (arith, l)
empty_map (x ∷ from) l e = cc e

-- of some good copies one was picked
pub one_picked : (picks : Picks) (shape : Shape) (looked : Looked) (kind : Kind) (picked : Option BrickId) → is_nothing (good_copies shape looked kind) ≡ false → Picked picks (candidates_of shape looked kind) picked
    → picks (model.candidates_of shape kind looked) (reader_of picked).0
one_picked picks shape looked kind None some k = absurd (empty_map (candidates_of shape looked kind) (some_listed looked (good_copies shape looked kind) some) k)
one_picked picks shape looked kind (Some b) some k = subst (λ (from : List (ℕ × ℕ)). picks from b.0) (candidates_are shape looked kind) k

-- so where the verdict has sources
pub source_picked : (picks : Picks) (shape : Shape) (looked : Looked) (kind : Kind) (s : List ℕ) (picked : Option BrickId) → verdict_of shape looked kind ≡ Sources s → Picked picks (choices shape looked kind) picked
    → picks (model.candidates_of shape kind looked) (reader_of picked).0
source_picked picks shape looked kind s picked e k =
    one_picked picks shape looked kind picked (sources_some shape looked kind _ s refl e) (subst (λ v. Picked picks (if has_sources v then candidates_of shape looked kind else []) picked) e k)
