-- Where a line of a rename's work belongs, and what the cut leaves of the path and of what is among the lines.
use Rattle.std.proofs.Common.{◌≡◌, ℕ, ◌+◌, ◌||◌, ◌&&◌, nat_le, nat_lt, Bool, true, false, List, [], ◌∷◌, length, refl, sym, ◌∙◌, subst, arith, if◌then◌else◌}
use Rattle.std.proofs.lemmas.Bool.Decides.{nat_tests}
use Rattle.std.proofs.lemmas.Bool.{or_parts}
use Rattle.afr_base.specs.declared.ids.NameId.{NameId}
use Rattle.afr_lines.specs.Work.{Work}
use Rattle.afr_lines.specs.declared.line.Line.{Line}
use Rattle.afr_lines.specs.declared.line.Line.TheVariants.{Ask}
use Rattle.afr_lines.specs.declared.request.Request.TheVariants.{ReadName}
use Rattle.afr_plan.specs.declared.plan.Plan.{Plan}
use Rattle.afr_model.specs.Parts.{Walks, Makes, Removes, after_names, is_again, names_asked, part_at, second_part, unlocks_any, upto_names}
use Rattle.afr_model.specs.Showing.{Path, has, path_after, path_by}
use Rattle.afr_model.specs.Standing.{asks_name, locks_any}
use Rattle.afr_model.proofs.Cut.Cut.{names_whole, still_first}
use Rattle.afr_law_client.proofs.Rename.MakingParts.{has_append, or_left}

-- ---- lines of no second transaction
-- as long as there is none, a line that asks for no lock doesn't begin it
pub not_again : (line : Line) (w : Work) → second_part w ≡ [] → locks_any line ≡ false → is_again line w ≡ false
not_again line [] e f = refl
not_again line (x ∷ w) e f = go (is_again x.0 w) e
  where
    go : (again : Bool) → (if again then x ∷ second_part w else []) ≡ [] → ((locks_any line && has unlocks_any (x ∷ w)) || again) ≡ false
    go true e = absurd (cc e)
    go false e = rw f refl

-- a work without locks has none
pub none_again : (w : Work) → has locks_any w ≡ false → second_part w ≡ []
none_again [] h = refl
none_again (x ∷ w) h = let both = or_parts (locks_any x.0) (has locks_any w) h in still_first x w (not_again x.0 w (none_again w both.1) both.0)

-- ---- what the cut leaves
-- a line that asks no name leaves the path
path_quiet : (p : Plan) (line : Line) (older : List Line) (path : Path) → asks_name line ≡ false → path_after p line older path ≡ path
path_quiet p (Ask a b (ReadName g name) told took) older path e = absurd (cc e)
path_quiet p line older path e = refl

-- up to the last name the path has led where all lines lead it
pub path_upto_last : (p : Plan) (k : ℕ) (w : Work) → names_asked w ≡ k → path_by p (upto_names k w) ≡ path_by p w
path_upto_last p k [] e = refl
path_upto_last p k (x ∷ w) e = go (asks_name x.0) refl (λ f. path_upto_last p k w f) e
  where
    go : (named : Bool) → asks_name x.0 ≡ named → (names_asked w ≡ k → path_by p (upto_names k w) ≡ path_by p w) → (if named then names_asked w + 1 else names_asked w) ≡ k
        → path_by p (if nat_le k (names_asked w) then upto_names k w else x ∷ w) ≡ path_after p x.0 x.1 (path_by p w)
    go true f rest e = let low : nat_le k (names_asked w) ≡ false = grind (arith, nat_tests, e) in rw low refl
    go false f rest e = let here : nat_le k (names_asked w) ≡ true = grind (arith, nat_tests, e) in rw here (rest e ∙ sym (path_quiet p x.0 x.1 (path_by p w) f))

-- what is among the lines after a name is among all of them
pub has_after : (test : Line → Bool) (k : ℕ) (w : Work) → has test (after_names k w) ≡ true → has test w ≡ true
has_after test k w h =
    subst (λ (v : Work). has test v ≡ true) (names_whole k w)
    (has_append test (after_names k w) (upto_names k w) ∙ or_left (has test (after_names k w)) (has test (upto_names k w)) h)

-- where the next line belongs
module _ (from : List NameId) (line : Line) (w : Work) where
  pub line_walks : is_again line w ≡ false → nat_le (length from) (names_asked w) ≡ false → part_at from line w ≡ Walks
  line_walks e f = let low : nat_lt (names_asked w) (length from) ≡ true = grind (arith, nat_tests, f) in rw (e, low) refl

  pub line_makes : is_again line w ≡ false → nat_le (length from) (names_asked w) ≡ true → part_at from line w ≡ Makes
  line_makes e f = let over : nat_lt (names_asked w) (length from) ≡ false = grind (arith, nat_tests, f) in rw (e, over) refl

  pub line_removes : is_again line w ≡ true → part_at from line w ≡ Removes
  line_removes e = rw e refl
