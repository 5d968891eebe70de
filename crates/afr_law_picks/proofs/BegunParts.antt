-- A Begin line leaves the looks of a rename's parts as they were, to whichever part it belongs.
use Rattle.std.proofs.Common.{◌≡◌, ◌∙◌, ℕ, ◌-◌, nat_le, Bool, true, false, List, [], ◌∷◌, ◌++◌, refl, sym, ap, subst, length, if◌then◌else◌}
use Rattle.afr_base.specs.declared.ids.ActorId.{ActorId}
use Rattle.afr_base.specs.declared.ids.Gfid.{Gfid}
use Rattle.afr_base.specs.declared.ids.NameId.{NameId}
use Rattle.afr_lines.specs.Work.{Work}
use Rattle.afr_lines.specs.declared.line.Line.{Line}
use Rattle.afr_lines.specs.declared.line.Line.TheVariants.{Begin}
use Rattle.afr_model.specs.Parts.{after_names, first_part, is_again, names_asked, second_part, the_make, the_removal, upto_names}
use Rattle.afr_model.specs.Showing.{looked_after, looked_by}
use Rattle.afr_object.specs.declared.change.Change.{Change}
use Rattle.afr_model.proofs.Cut.Cut.{after_none, first_all, no_second, upto_all}

module _ (from : List NameId) (a : ActorId) (change : Change) (log : List Line) (lines : Work) where
  -- the lines of the making are as before, or this one is put on them
  pub make_begun : (P : Work → Type 0) → ((v : Work) → P v → P ((Begin a change, log) ∷ v)) → P (the_make from lines) → P (the_make from ((Begin a change, log) ∷ lines))
  make_begun P one k = go (is_again (Begin a change) lines) refl
    where
      late : second_part lines ≡ [] → (asked : Bool) → nat_le (length from) (names_asked lines) ≡ asked → P (if asked then (Begin a change, log) ∷ after_names (length from) lines else [])
      late none true e = one (after_names (length from) lines) (subst (λ (v : Work). P (after_names (length from) v)) (first_all lines none) k)
      late none false e = subst P (ap (after_names (length from)) (first_all lines none) ∙ after_none (length from) lines e) k

      go : (again : Bool) → is_again (Begin a change) lines ≡ again → P (after_names (length from) (if again then first_part lines else (Begin a change, log) ∷ lines))
      go true e = k
      go false e = late (no_second (Begin a change) lines e) (nat_le (length from) (names_asked lines)) refl

  module _ (g : Gfid) where
    -- in the midst of lines it shows nothing
    amid : (s u : Work) → looked_by g (s ++ (Begin a change, log) ∷ u) ≡ looked_by g (s ++ u)
    amid [] u = refl
    amid (x ∷ s) u = ap (looked_after g x.0) (amid s u)

    upto_looked : (s : Work) (k : ℕ) → looked_by g (s ++ upto_names k ((Begin a change, log) ∷ lines)) ≡ looked_by g (s ++ upto_names k lines)
    upto_looked s k = go (nat_le k (names_asked lines)) refl
      where
        go : (asked : Bool) → nat_le k (names_asked lines) ≡ asked → looked_by g (s ++ (if asked then upto_names k lines else (Begin a change, log) ∷ lines)) ≡ looked_by g (s ++ upto_names k lines)
        go true e = refl
        go false e = amid s lines ∙ ap (λ (v : Work). looked_by g (s ++ v)) (sym (upto_all k lines e))

    pub removal_looked : looked_by g (the_removal from ((Begin a change, log) ∷ lines)) ≡ looked_by g (the_removal from lines)
    removal_looked = go (is_again (Begin a change) lines) refl
      where
        go : (again : Bool) → is_again (Begin a change) lines ≡ again
            → looked_by g ((if again then (Begin a change, log) ∷ second_part lines else []) ++ upto_names (length from - 1) ((Begin a change, log) ∷ lines)) ≡ looked_by g (second_part lines ++ upto_names (length from - 1) lines)
        go true e = upto_looked (second_part lines) (length from - 1)
        go false e = upto_looked [] (length from - 1) ∙ ap (λ (v : Work). looked_by g (v ++ upto_names (length from - 1) lines)) (sym (no_second (Begin a change) lines e))
