-- Accusations that have their cause, and some that have none.
use Rattle.std.specs.Prelude.{◌≡◌, not, Bool, true, false, List, [], ◌∷◌, ◌++◌, refl}
use Rattle.std.specs.List.{list_all}
use Rattle.std.proofs.Common.{sym}
use Rattle.afr_base.specs.Bricks.{and_left, and_right, below, is_nothing}
use Rattle.afr_base.specs.declared.ids.Kind.TheVariants.{Bytes}
use Rattle.afr_object.specs.Tables.{root}
use Rattle.afr_lines.specs.declared.line.Line.{Line}
use Rattle.afr_lines.specs.declared.line.Line.TheVariants.{Ask}
use Rattle.afr_lines.specs.declared.request.Request.TheVariants as request
use Rattle.afr_plan.specs.declared.plan.Plan.{Plan}
use Rattle.afr_model.specs.Blamed.{AreBlamed, Blames, IsBlaming}
use Rattle.afr_test_model.proofs.Means.{fails, passes, told_apart}
use Rattle.afr_test_model.proofs.Words.{apply, at_each, at_two, begin, file, half_done, half_written, led_to_file, lock, look_file, look_lacking, plan, post, pre, ready, work_of, write_area, write_change}

-- a line is a post-op
abbrev pub posts : Line → Bool
posts (Ask a b (request.Post attempt of kind missed) told took) = true
posts line = false

-- a log without a post-op accuses nobody
pub none_blamed : (p : Plan) (log : List Line) → list_all (λ line. not (posts line)) log ≡ true → AreBlamed p log
none_blamed p [] calm = tt
none_blamed p (line ∷ older) calm = (here line (and_left (not (posts line)) _ calm), none_blamed p older (and_right (not (posts line)) _ calm))
  where
    here : (line : Line) → not (posts line) ≡ true → Blames p line older
    here (Ask a b (request.Post attempt of kind missed) told took) free = fails free
    here line free = tt

-- lines without a post-op accuse nobody further
pub none_blamed_after : (p : Plan) (lines older : List Line) → list_all (λ line. not (posts line)) lines ≡ true → AreBlamed p older → AreBlamed p (lines ++ older)
none_blamed_after p [] older calm blamed = blamed
none_blamed_after p (line ∷ lines) older calm blamed = (here line (and_left (not (posts line)) _ calm), none_blamed_after p lines older (and_right (not (posts line)) _ calm) blamed)
  where
    here : (line : Line) → not (posts line) ≡ true → Blames p line (lines ++ older)
    here (Ask a b (request.Post attempt of kind missed) told took) free = fails free
    here line free = tt

-- brick 2 refused its pre-op, and brick 0 accuses it alone
pub the_one_that_missed_is_accused : IsBlaming plan 10 file Bytes (2 ∷ []) 0 (work_of half_done)
unfolding below
the_one_that_missed_is_accused = record { change = write_change; begun = refl; is_change = refl; object = refl; counted = refl; once = refl; did = refl; enough = refl; others = refl; why = λ c among. among }

-- so it is in a whole log
pub a_log_whose_accusations_have_causes : AreBlamed plan (post 10 file Bytes (2 ∷ []) 0 ∷ half_done)
a_log_whose_accusations_have_causes = (the_one_that_missed_is_accused, none_blamed plan half_done refl)

-- a brick that lacks the file, and the other two did it
abbrev lacking : List Line
lacking = at_two (apply 10) (at_two (pre file Bytes) (begin write_change ∷ look_lacking file 2 ∷ at_two look_file (at_each (lock write_area) led_to_file)))

pub one_that_lacks_it_is_accused : IsBlaming plan 10 file Bytes (2 ∷ []) 0 (work_of lacking)
unfolding below
one_that_lacks_it_is_accused = record { change = write_change; begun = refl; is_change = refl; object = refl; counted = refl; once = refl; did = refl; enough = refl; others = refl; why = λ c among. among }

-- where all did it nobody is accused
pub where_all_did_nobody_is : IsBlaming plan 10 file Bytes [] 0 (work_of (at_each (apply 10) (at_each (pre file Bytes) (begin write_change ∷ ready))))
unfolding below
where_all_did_nobody_is = record { change = write_change; begun = refl; is_change = refl; object = refl; counted = refl; once = refl; did = refl; enough = refl; others = refl; why = λ c among. among }

-- brick 2 did it and is accused
pub one_that_did_is_not_accused : IsBlaming plan 10 file Bytes (2 ∷ []) 0 (work_of (at_each (apply 10) (at_each (pre file Bytes) (begin write_change ∷ ready)))) → ⊥
unfolding below
one_that_did_is_not_accused blaming = told_apart is_nothing _ _ refl refl (sym blaming.others)

-- brick 2 missed it and isn't accused
pub one_that_missed_is_not_spared : IsBlaming plan 10 file Bytes [] 0 (work_of half_done) → ⊥
unfolding below
one_that_missed_is_not_spared blaming = told_apart is_nothing _ _ refl refl blaming.others

-- brick 2 wasn't asked, and so nothing failed there
pub one_that_was_not_asked_is_not_accused : IsBlaming plan 10 file Bytes (2 ∷ []) 0 (work_of (at_two (apply 10) (at_two (pre file Bytes) (begin write_change ∷ ready)))) → ⊥
one_that_was_not_asked_is_not_accused blaming = fails (blaming.why 2 refl)

-- brick 2 was looked at for the root alone, which it lacks
abbrev lacking_another : List Line
lacking_another = at_two (apply 10) (at_two (pre file Bytes) (begin write_change ∷ look_lacking root 2 ∷ at_two look_file (at_each (lock write_area) led_to_file)))

pub one_that_lacks_another_object_is_not_accused : IsBlaming plan 10 file Bytes (2 ∷ []) 0 (work_of lacking_another) → ⊥
one_that_lacks_another_object_is_not_accused blaming = fails (blaming.why 2 refl)

-- a second post-op at brick 0
pub no_second_post : IsBlaming plan 10 file Bytes (2 ∷ []) 0 (work_of half_written) → ⊥
no_second_post blaming = passes blaming.once

-- a post-op at brick 2, which didn't do it
pub no_post_where_it_was_not_done : IsBlaming plan 10 file Bytes (2 ∷ []) 2 (work_of half_done) → ⊥
no_post_where_it_was_not_done blaming = fails blaming.did

-- a post-op where one brick alone did it
pub no_post_where_one_did_it : IsBlaming plan 10 file Bytes (1 ∷ 2 ∷ []) 0 (work_of (apply 10 0 ∷ at_each (pre file Bytes) (begin write_change ∷ ready))) → ⊥
no_post_where_one_did_it blaming = fails blaming.enough

-- so it is of a whole log
pub a_log_with_an_accusation_without_cause : AreBlamed plan (post 10 file Bytes (2 ∷ []) 0 ∷ at_two (apply 10) (at_two (pre file Bytes) (begin write_change ∷ ready))) → ⊥
a_log_with_an_accusation_without_cause blamed = one_that_was_not_asked_is_not_accused blamed.0
