-- A brick that the last looks of a work show to have an object has it still.
use Rattle.std.proofs.Common.{◌≡◌, ℕ, zero, suc, ◌==◌, Bool, true, false, List, [], ◌∷◌, Option, Some, None, is_some, refl, sym, ap, ◌∙◌, subst, if◌then◌else◌, ◌⊎◌, inl, inr}
use Rattle.std.specs.Prelude.{slice_index_or, slice_set}
use Rattle.std.proofs.lemmas.Bool.{eqb-true}
use Rattle.afr_base.specs.Bricks.{and_right, member}
use Rattle.afr_base.specs.declared.ids.Gfid.{Gfid}
use Rattle.afr_base.specs.declared.ids.Kind.{Kind}
use Rattle.afr_choice.specs.Looks.{no_looks, view_at}
use Rattle.afr_choice.specs.Verdict.{good_copies, is_holder}
use Rattle.afr_choice.specs.VerdictLemmas.{good_are_holders, good_below, member_holders}
use Rattle.afr_choice.specs.declared.looked.Looked.{Looked}
use Rattle.afr_law.proofs.Model.Dirty.{seen_copy}
use Rattle.afr_lines.specs.Areas.{object_of_area}
use Rattle.afr_lines.specs.Work.{Work, work}
use Rattle.afr_lines.specs.declared.answer.Told.{Told}
use Rattle.afr_lines.specs.declared.answer.Told.TheVariants as as_told
use Rattle.afr_lines.specs.declared.line.Line.{Line}
use Rattle.afr_lines.specs.declared.line.Line.TheVariants.{Ask}
use Rattle.afr_lines.specs.declared.request.Request.TheVariants.{Lock, Look}
use Rattle.afr_model.specs.Honest.{Honest, IsHonest}
use Rattle.afr_model.specs.Showing.{look_shows, looked_after, looked_by}
use Rattle.afr_model.specs.Sums.{has_object}
use Rattle.afr_model.specs.Tables.{holds}
use Rattle.afr_object.specs.Tables.{copy_at}
use Rattle.afr_object.specs.declared.entry.View.{View}
use Rattle.afr_object.specs.Object.{Object}
use Rattle.afr_plan.specs.declared.plan.Plan.{Plan}
use Rattle.afr_lines.specs.declared.lock.Domain.TheVariants.{Work as WorkDomain}
use Rattle.afr_law_tables.specs.CopyLaws.{gfid_is}
use Rattle.afr_law_tables.specs.TableLaws.{copy_stays}
use Rattle.afr_law_heard.proofs.SomeLines.{AreIn, IsBefore, copy_since, honest_before, work_in}
use Rattle.afr_law_heard.specs.Finds.{FindsSeen, FindsSource}
use Rattle.afr_law_client.proofs.Write.Goes.{nothing_shown}

-- each brick that shows a view has the object
abbrev AllHave : Plan → List Line → Gfid → Looked → Type 0
AllHave p log g looked = (b : ℕ) (view : View) → view_at b looked ≡ Some view → has_object p log g b ≡ true

none_have : (p : Plan) (log : List Line) (g : Gfid) → AllHave p log g no_looks
none_have p log g b view e = absurd (cc (sym (nothing_shown b) ∙ e))

-- a view that is shown once one place was set stands there, or was shown before
shown_set : (xs : List (Option View)) (b c : ℕ) (v : Option View) (view : View) → slice_index_or (slice_set xs b v) c None ≡ Some view → ((b ≡ c) × (v ≡ Some view)) ⊎ (slice_index_or xs c None ≡ Some view)
shown_set [] b c v view e = inr e
shown_set (x ∷ xs) zero zero v view e = inl (refl, e)
shown_set (x ∷ xs) zero (suc c) v view e = inr e
shown_set (x ∷ xs) (suc b) zero v view e = inr e
shown_set (x ∷ xs) (suc b) (suc c) v view e = go (shown_set xs b c v view e)
  where
    go : ((b ≡ c) × (v ≡ Some view)) ⊎ (slice_index_or xs c None ≡ Some view) → ((suc b ≡ suc c) × (v ≡ Some view)) ⊎ (slice_index_or xs c None ≡ Some view)
    go (inl h) = inl (ap (λ (n : ℕ). suc n) h.0, h.1)
    go (inr h) = inr h

-- after one look more each does
shown_have : (p : Plan) (log : List Line) (g : Gfid) (c : ℕ) (told : Told) (looked : Looked) → ((view : View) → told ≡ as_told.Seen view → has_object p log g c ≡ true) → AllHave p log g looked
    → AllHave p log g (look_shows c told looked)
shown_have p log g c (as_told.Seen shown) looked own was b view e = go (shown_set looked.views c b (Some shown) view e)
  where
    go : ((c ≡ b) × (Some shown ≡ Some view)) ⊎ (view_at b looked ≡ Some view) → has_object p log g b ≡ true
    go (inl h) = subst (λ (x : ℕ). has_object p log g x ≡ true) h.0 (own shown refl)
    go (inr h) = was b view h
shown_have p log g c as_told.NoObject looked own was b view e = go (shown_set looked.views c b None view e)
  where
    go : ((c ≡ b) × (None ≡ Some view)) ⊎ (view_at b looked ≡ Some view) → has_object p log g b ≡ true
    go (inl h) = absurd (cc (h.1))
    go (inr h) = was b view h
shown_have p log g c told looked own was b view e = go (shown_set looked.views c b None view e)
  where
    go : ((c ≡ b) × (None ≡ Some view)) ⊎ (view_at b looked ≡ Some view) → has_object p log g b ≡ true
    go (inl h) = absurd (cc (h.1))
    go (inr h) = was b view h

-- after one line more of the log each does
line_has : (p : Plan) (log : List Line) (line : Line) (older : List Line) → IsBefore (line ∷ older) log → (g : Gfid) (looked : Looked) → IsHonest p line older → AllHave p log g looked → AllHave p log g (looked_after g line looked)
line_has p log (Ask a b (Look h) told took) older before g looked said k = go (h.0 == g.0) refl
  where
    own : h.0 ≡ g.0 → (view : View) → told ≡ as_told.Seen view → has_object p log g b.0 ≡ true
    own same view e =
        let honest : IsHonest p (Ask a b (Look h) (as_told.Seen view) took) older = subst (λ (x : Told). IsHonest p (Ask a b (Look h) x took) older) e said in
        let there = seen_copy _ _ (copy_at h (holds p older b.0)) view took honest in
        let was_there : has_object p older g b.0 ≡ true = subst (λ (x : Gfid). has_object p older x b.0 ≡ true) (gfid_is h g same) (ap (λ (o : Option Object). is_some o) there.1) in
        copy_since p g b.0 (Ask a b (Look h) told took ∷ older) log before (copy_stays p (Ask a b (Look h) told took) older b.0 g was_there)

    go : (hit : Bool) → (h.0 == g.0) ≡ hit → AllHave p log g (if hit then look_shows b.0 told looked else looked)
    go true e = shown_have p log g b.0 told looked (own (eqb-true h.0 g.0 e)) k
    go false e = k
line_has p log (Ask a b (Lock WorkDomain area) told took) older before g looked said k = go ((object_of_area area).0 == g.0)
  where
    go : (hit : Bool) → AllHave p log g (if hit then no_looks else looked)
    go true = none_have p log g
    go false = k
line_has p log line older before g looked said k = k

-- each brick that the last looks of some lines show has the object
lines_have : (p : Plan) (g : Gfid) (log : List Line) → Honest p log → (w : Work) → AreIn log w → AllHave p log g (looked_by g w)
lines_have p g log honest [] is = none_have p log g
lines_have p g log honest (x ∷ w) is = line_has p log x.0 x.1 is.0 g (looked_by g w) (honest_before p (x.0 ∷ x.1) log is.0 honest).0 (lines_have p g log honest w is.1)

-- and so has one with a good copy by them
pub good_in : (p : Plan) (log : List Line) (w : Work) → AreIn log w → (g : Gfid) (kind : Kind) (b : ℕ) → Honest p log → member (good_copies p.shape (looked_by g w) kind) b ≡ true → has_object p log g b ≡ true
good_in p log w is g kind b honest k = go (view_at b looked) refl (and_right (member looked.reached b) (is_some (view_at b looked)) held)
  where
    looked : Looked
    looked = looked_by g w

    held : is_holder looked b ≡ true
    held = sym (member_holders looked b (good_below p.shape looked kind b k)) ∙ good_are_holders p.shape looked kind b k

    go : (v : Option View) → view_at b looked ≡ v → is_some v ≡ true → has_object p log g b ≡ true
    go None e h = absurd (cc h)
    go (Some view) e h = lines_have p g log honest w is b view e

pub finds_seen : FindsSeen
finds_seen p a log g b view honest e = lines_have p g log honest (work a log) (work_in a log) b view e

pub finds_source : FindsSource
finds_source p a log g kind b honest k = good_in p log (work a log) (work_in a log) g kind b honest k.good
