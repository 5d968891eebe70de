-- What the walk of a rename leaves to the lines after it, and that it stays.
use Rattle.std.proofs.Common.{◌≡◌, ◌-◌, ◌&&◌, Bool, true, false, List, ◌∷◌, ◌++◌, length, refl, sym, ap, ◌∙◌, subst}
use Rattle.afr_base.specs.declared.ids.NameId.{NameId}
use Rattle.afr_base.specs.declared.ids.What.TheVariants.{File}
use Rattle.afr_lines.specs.Work.{Work}
use Rattle.afr_lines.specs.declared.line.Line.{Line}
use Rattle.afr_lines.specs.declared.request.Request.TheVariants.{Look, ReadName, ReadBytes, ReadAttr, List as ListNames}
use Rattle.afr_plan.specs.declared.command.Command.TheVariants as command
use Rattle.afr_plan.specs.declared.plan.Plan.{Plan}
use Rattle.afr_model.specs.Parts.{first_part, is_again, the_make, the_walk, unlocks_any}
use Rattle.afr_model.specs.Renamed.{AreLegs}
use Rattle.afr_model.specs.Showing.{At, begins_attempt, has, path_by}
use Rattle.afr_model.specs.Skipped.{SkipsNothing}
use Rattle.afr_model.specs.Standing.{locks_any}
use Rattle.afr_model.proofs.Cut.Cut.{asked_before, first_more, make_grows, still_asked, still_first, upto_more, walk_stays}
use Rattle.afr_law_client.specs.Read.WalkLaws.{IsUntouched}
use Rattle.afr_law_client.specs.Read.WalkTelling.{GoesOn}
use Rattle.afr_law_client.proofs.Read.Quiet.{IsQuiet, has_none}
use Rattle.afr_law_client.proofs.Read.Untouched.{touches_nothing}
use Rattle.afr_client_entry.specs.declared.renaming.paths.Paths.{Paths}
use Rattle.afr_law_client.specs.Rename.RenameTelling.{HasWalked, OnFirst, old_dir}
use Rattle.afr_law_client.proofs.Rename.Looks.{make_and_walk}
use Rattle.afr_law_client.proofs.Rename.MakingParts.{again_by, has_front}

-- a look or a read is no unlock
pub quiet_unlocks : IsQuiet unlocks_any
quiet_unlocks a b (Look h) told took free = refl
quiet_unlocks a b (ReadName h name) told took free = refl
quiet_unlocks a b (ReadBytes h at len) told took free = refl
quiet_unlocks a b (ReadAttr h key) told took free = refl
quiet_unlocks a b (ListNames h) told took free = refl
quiet_unlocks a b request told took free = absurd (cc free)

module _ (p : Plan) (x : Paths) (lines : Work) (k : HasWalked p x lines) where
  abbrev from : List NameId
  from = x.first.path

  abbrev walk : Work
  walk = the_walk from lines

  -- ---- what the walk did
  pub walk_untouched : IsUntouched walk
  walk_untouched = touches_nothing p.shape.n walk k.goes.only

  pub walk_unlocks : has unlocks_any walk ≡ false
  walk_unlocks = has_none p.shape.n unlocks_any quiet_unlocks walk k.goes.only

  -- ---- one line more
  module _ (line : Line) (log : List Line) where
    same_walk : the_walk from ((line, log) ∷ lines) ≡ walk
    same_walk = walk_stays from (line, log) lines k.all

    pub walked_more : AreLegs p.shape.n (first_part ((line, log) ∷ lines)) → HasWalked p x ((line, log) ∷ lines)
    walked_more legs = record {
      all = still_asked (length from) (line, log) lines k.all;
      found = subst (λ (w : Work). path_by p w ≡ At (length from) (record { gfid = x.first.object.gfid; what = File })) (sym same_walk) k.found;
      in_dir = subst (λ (w : Work). path_by p w ≡ At (length from - 1) (old_dir x)) (sym (upto_more (length from - 1) (line, log) lines (asked_before (length from) lines k.all))) k.in_dir;
      numbered = k.numbered;
      unlocked = subst (λ (w : Work). has locks_any w ≡ false) (sym same_walk) k.unlocked;
      goes = subst (λ (w : Work). GoesOn p (length from) (record { gfid = x.first.object.gfid; what = File }) w) (sym same_walk) k.goes;
      walked = subst (λ (w : Work). SkipsNothing p (command.Stat from) w) (sym same_walk) k.walked;
      legs = legs;
    }

-- ---- within the first transaction
module _ (p : Plan) (x : Paths) (lines : Work) (k : OnFirst p x lines) where
  abbrev own : List NameId
  own = x.first.path

  abbrev makes : Work
  makes = the_make own lines

  abbrev walks : Work
  walks = the_walk own lines

  -- the making and the walk are all lines
  pub whole : makes ++ walks ≡ lines
  whole = make_and_walk own lines k.first

  -- what only the making has done, all lines have
  pub made_only : (test : Line → Bool) → has test walks ≡ false → has test lines ≡ has test makes
  made_only test none = subst (λ (w : Work). has test w ≡ has test makes) whole (has_front test makes walks none)

  pub begun_only : has begins_attempt lines ≡ has begins_attempt makes
  begun_only = made_only begins_attempt (walk_untouched p x lines k.walked).unbegun

  pub unlocks_only : has unlocks_any lines ≡ has unlocks_any makes
  unlocks_only = made_only unlocks_any (walk_unlocks p x lines k.walked)

  -- a line that isn't a lock is of the making
  pub waits_unlocked : (line : Line) → locks_any line ≡ false → is_again line lines ≡ false
  waits_unlocked line none = again_by line lines k.first ∙ rw none refl

  -- so is a lock as long as none was given back
  pub waits_kept : (line : Line) → has unlocks_any makes ≡ false → is_again line lines ≡ false
  waits_kept line kept = again_by line lines k.first ∙ ap (λ (y : Bool). locks_any line && y) (unlocks_only ∙ kept) ∙ never (locks_any line)
    where
      never : (y : Bool) → (y && false) ≡ false
      never true = refl
      never false = refl

  module _ (line : Line) (log : List Line) (waits : is_again line lines ≡ false) where
    pub grows : the_make own ((line, log) ∷ lines) ≡ (line, log) ∷ makes
    grows = make_grows own (line, log) lines k.walked.all k.first waits

    pub all_first : first_part ((line, log) ∷ lines) ≡ (line, log) ∷ lines
    all_first = first_more (line, log) lines waits

    pub first_more_on : AreLegs p.shape.n ((line, log) ∷ lines) → OnFirst p x ((line, log) ∷ lines)
    first_more_on legs = record {
      walked = walked_more p x lines k.walked line log (subst (λ (w : Work). AreLegs p.shape.n w) (sym all_first) legs);
      first = still_first (line, log) lines waits;
    }
