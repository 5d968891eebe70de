-- A brick that a heal reads has the object: a first look of the heal showed it there.
use Rattle.std.proofs.Common.{◌≡◌, ℕ, ◌<◌, ◌≤◌, ◌==◌, not, arith, Bool, true, false, true≢false, List, [], ◌∷◌, Option, None, Some, is_some, length, refl, sym, ap, ◌∙◌, subst, if◌then◌else◌, inl, inr}
use Rattle.std.proofs.lemmas.Bool.{eqb-true}
use Rattle.afr_base.specs.Bricks.{and_left}
use Rattle.afr_base.specs.declared.ids.ActorId.{ActorId}
use Rattle.afr_base.specs.declared.ids.Gfid.{Gfid}
use Rattle.afr_base.specs.declared.ids.Kind.{Kind}
use Rattle.afr_base.specs.declared.ids.Kind.TheVariants.{Attrs, Bytes, Names}
use Rattle.afr_law_heal.proofs.Heard.Inside.{IsInside}
use Rattle.afr_law.proofs.Discipline.ByList.{exactly_lawful}
use Rattle.afr_law.proofs.Discipline.Inner.{turn_in}
use Rattle.afr_law.proofs.Heals.Answers.{honestly}
use Rattle.afr_law.proofs.Heals.Conditions.{attrs_onward, attrs_turn, bytes_onward, bytes_turn, goes_good, list_onward, list_turn, onward_goes, onward_object}
use Rattle.afr_law.proofs.Heals.Sights.{sights_now}
use Rattle.afr_law.proofs.Heals.Views.{SeenAt, SightsIn}
use Rattle.afr_law.proofs.Model.Dirty.{seen_copy}
use Rattle.afr_law.proofs.Model.Discipline.{exactly_below}
use Rattle.afr_law.proofs.Model.Settles.{all_honest, take_within, within_before}
use Rattle.afr_law.proofs.Model.SoundLog.{LawfulBelow}
use Rattle.afr_law.specs.Beginning.{start_of}
use Rattle.afr_law.specs.Exactly.{IsLawfulExactly, name_bound}
use Rattle.afr_law.specs.ModelNext.{MayAskNext, asking}
use Rattle.afr_lines.specs.Log.{from_oldest}
use Rattle.afr_lines.specs.Places.{Within}
use Rattle.afr_lines.specs.declared.answer.Told.TheVariants.{Seen}
use Rattle.afr_lines.specs.declared.line.Line.{Line}
use Rattle.afr_lines.specs.declared.request.Request.{Request}
use Rattle.afr_lines.specs.declared.request.Request.TheVariants as request_of
use Rattle.afr_model.specs.Honest.{Honest, IsHonest, fault_in}
use Rattle.afr_model.specs.Sums.{has_object}
use Rattle.afr_model.specs.Tables.{holds}
use Rattle.afr_model_moves.proofs.ByPosition.{past_whole}
use Rattle.afr_model_moves.proofs.Followed.{register_is}
use Rattle.afr_model_moves.proofs.Places.{place_is}
use Rattle.afr_model_moves.specs.Discipline.{MayAskExactly, exact, in_force, present}
use Rattle.afr_model_moves.specs.Heal.{Gives, Goes, InHeal, IsUnlock, MayHeal}
use Rattle.afr_model_moves.specs.Honest.{Honest as HonestBy}
use Rattle.afr_model_moves.specs.Lines.{ask_by, look_at}
use Rattle.afr_model_moves.specs.Past.{opens, place}
use Rattle.afr_model_moves.specs.Positions.{by_position}
use Rattle.afr_model_moves.specs.Register.{Exact, Finish, HealPart, Opening, Piece, Reads, good, holder, unaccused}
use Rattle.afr_model_moves.specs.Rules.{is_none}
use Rattle.afr_model_moves.specs.Steps.{onward, reads_at, turn}
use Rattle.afr_object.specs.Tables.{copy_at}
use Rattle.afr_object.specs.declared.entry.View.{View}
use Rattle.afr_object.specs.Object.{Object}
use Rattle.afr_plan.specs.declared.plan.Plan.{Plan}
use Rattle.afr_law_tables.specs.Codes.{kept_by}
use Rattle.afr_law_tables.specs.TableLaws.{copy_stays}

-- ---- a look in the log
-- an object that a look of the log showed is there still
seen_has : (p : Plan) (log : List Line) → Honest p log → (l a b g : ℕ) (view : View) → from_oldest l log ≡ Some (ask_by a b (look_at g) (Seen view) true) → has_object p log (record { 0 = g }) b ≡ true
seen_has p [] honest l a b g view e = absurd (cc e)
seen_has p (line ∷ older) honest l a b g view e = go (l == length older) e (seen_has p older honest.1 l a b g view)
  where
    object : Gfid
    object = record { 0 = g }

    now : line ≡ ask_by a b (look_at g) (Seen view) true → has_object p older object b ≡ true
    now is =
        let said : IsHonest p (ask_by a b (look_at g) (Seen view) true) older = subst (λ (x : Line). IsHonest p x older) is honest.0 in
        let there = seen_copy _ _ (copy_at object (holds p older b)) view true said in
        ap (λ (o : Option Object). is_some o) there.1

    go : (here : Bool) → (if here then Some line else from_oldest l older) ≡ Some (ask_by a b (look_at g) (Seen view) true) → (from_oldest l older ≡ Some (ask_by a b (look_at g) (Seen view) true) → has_object p older object b ≡ true)
        → has_object p (line ∷ older) object b ≡ true
    go true e was = copy_stays p line older b object (now (cc e))
    go false e was = copy_stays p line older b object (was e)

-- ---- who is read
-- a read is asked at a holder
read_holder : (n : ℕ) (keeps : ℕ → Kind → Bool) (r : Exact) (s b : ℕ) (kind : Kind) (part : HealPart) → reads_at n keeps r s kind part b ≡ true → good n keeps kind r.first_views s ≡ true → holder r.first_views b ≡ true
read_holder n keeps r s b Bytes Opening h k = absurd (cc h)
read_holder n keeps r s b Bytes Piece h k = subst (λ (x : ℕ). holder r.first_views x ≡ true) (sym (eqb-true b s h)) (and_left _ (keeps s Bytes) (and_left _ (unaccused n Bytes r.first_views s) k))
read_holder n keeps r s b Bytes Finish h k = absurd (cc h)
read_holder n keeps r s b Attrs part h k = subst (λ (x : ℕ). holder r.first_views x ≡ true) (sym (eqb-true b s h)) (and_left _ (keeps s Attrs) (and_left _ (unaccused n Attrs r.first_views s) k))
read_holder n keeps r s b Names part h k = and_left _ (keeps b Names) (and_left _ (unaccused n Names r.first_views b) h)

holder_view : (views : ℕ → Option View) (b : ℕ) → holder views b ≡ true → (view : View) × (views b ≡ Some view)
holder_view views b h = go (views b) refl h
  where
    go : (v : Option View) → views b ≡ v → not (is_none v) ≡ true → (view : View) × (views b ≡ Some view)
    go None e k = absurd (cc k)
    go (Some view) e k = (view, e)

-- ---- a request in a heal
module _ (p : Plan) (log : List Line) (a : ActorId) (b : ℕ) (few : p.shape.n ≤ 5) (short : length log < 4000000) (honest : Honest p log) (lawful : IsLawfulExactly p log) (inside : IsInside p.shape.n (kept_by p) a.0 log) where
  -- the register of the actor
  abbrev R : Exact
  R = exact p.shape.n (kept_by p) (by_position log) (length log) a.0

  in_heal : R.law.heal ≡ true
  in_heal = subst (λ (r : Exact). r.law.heal ≡ true) (register_is p.shape.n (kept_by p) a.0 log) inside.heal

  is_within : place (by_position log) (length log) a.0 ≡ Within
  is_within = place_is (by_position log) a.0 log (past_whole log) ∙ inside.place

  unopened : (line : Option Line) → opens (place (by_position log) (length log) a.0) line ≡ false
  unfolding opens
  unopened line = rw is_within refl

  present_is : present p.shape.n (kept_by p) (by_position log) (length log) a.0 ≡ R
  present_is = ap (λ (first : Bool). in_force first R) (unopened (by_position log (length log)))

  below : LawfulBelow p (name_bound p) log
  below = exactly_below p log few (omega (arith, short)) honest lawful

  by_honesty : HonestBy (start_of p (name_bound p)) (fault_in p.faults) (by_position log)
  by_honesty = all_honest p (name_bound p) few log below honest (within_before p log (take_within p (name_bound p) few log below honest))

  -- what the views of the register show stands in the log
  shown_has : R.broken ≡ false → (view : View) → R.first_views b ≡ Some view → has_object p log (record { 0 = R.law.object }) b ≡ true
  shown_has whole view e =
      let moves = (exactly_lawful p.shape.n (start_of p (name_bound p)) log lawful).moves in
      let sights : SightsIn p.shape.n (by_position log) (length log) a.0 R R.law =
      subst (λ (r : Exact). r.law.heal ≡ true → r.broken ≡ false → SightsIn p.shape.n (by_position log) (length log) a.0 r r.law) present_is
      (sights_now p.shape.n (kept_by p) (by_position log) (honestly (start_of p (name_bound p)) (fault_in p.faults) (by_position log) by_honesty) moves (length log) a.0) in_heal whole in
      let seen : SeenAt (by_position log) (length log) a.0 b R.law.object = sights.origin b view e in
      seen_has p log honest seen.l a.0 b R.law.object seen.view seen.is

  -- a request that isn't an unlock is one of a heal that goes on
  may_heal_now : (request : Request) → (IsUnlock request → ⊥) → MayAskNext p a (record { 0 = b }) request log → MayHeal p.shape.n (kept_by p) R b request
  may_heal_now request other may = go (subst (λ (first : Bool). MayAskExactly p.shape.n (kept_by p) (in_force first R) b request) (unopened (Some (asking a (record { 0 = b }) request))) (may.1).1)
    where
      by_heal : InHeal p.shape.n (kept_by p) R b request → MayHeal p.shape.n (kept_by p) R b request
      by_heal (Goes m) = m
      by_heal (Gives i broken unlock) = absurd (other unlock)

      go : MayAskExactly p.shape.n (kept_by p) R b request → MayHeal p.shape.n (kept_by p) R b request
      go (inl outside) = absurd (true≢false (sym in_heal ∙ outside.0))
      go (inr m) = by_heal m

  read_has : (g : Gfid) (kind : Kind) (s : ℕ) → R.broken ≡ false → onward p.shape.n (kept_by p) R s g.0 kind ≡ true → turn p.shape.n (kept_by p) R s Reads b ≡ true → has_object p log g b ≡ true
  read_has g kind s whole on turns =
      let good_source = goes_good p.shape.n (kept_by p) R s (onward_goes p.shape.n (kept_by p) R s g.0 kind on) in
      let view = holder_view R.first_views b (read_holder p.shape.n (kept_by p) R s b R.law.kind R.part (turn_in p.shape.n (kept_by p) R s Reads b turns) good_source) in
      subst (λ (x : ℕ). has_object p log (record { 0 = x }) b ≡ true) (sym (eqb-true g.0 R.law.object (onward_object p.shape.n (kept_by p) R s g.0 kind on))) (shown_has whole view.0 view.1)

  -- so the brick of a read has the object
  pub bytes_there : (g : Gfid) (at len : ℕ) → MayAskNext p a (record { 0 = b }) (request_of.ReadBytes g at len) log → has_object p log g b ≡ true
  bytes_there g at len may =
      let m = may_heal_now (request_of.ReadBytes g at len) (λ u. u) may in
      read_has g Bytes m.source m.whole (bytes_onward p.shape.n (kept_by p) R m.source b g at len m.allowed) (bytes_turn p.shape.n (kept_by p) R m.source b g at len m.allowed)

  pub attrs_there : (g : Gfid) → MayAskNext p a (record { 0 = b }) (request_of.ReadAttrs g) log → has_object p log g b ≡ true
  attrs_there g may =
      let m = may_heal_now (request_of.ReadAttrs g) (λ u. u) may in
      read_has g Attrs m.source m.whole (attrs_onward p.shape.n (kept_by p) R m.source b g m.allowed) (attrs_turn p.shape.n (kept_by p) R m.source b g m.allowed)

  pub names_there : (g : Gfid) → MayAskNext p a (record { 0 = b }) (request_of.List g) log → has_object p log g b ≡ true
  names_there g may =
      let m = may_heal_now (request_of.List g) (λ u. u) may in
      read_has g Names m.source m.whole (list_onward p.shape.n (kept_by p) R m.source b g m.allowed) (list_turn p.shape.n (kept_by p) R m.source b g m.allowed)
