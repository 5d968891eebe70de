-- Sessions, places and links by positions are those of the list of lines.
use Rattle.std.proofs.Common.{◌≡◌, ℕ, Bool, true, false, ◌&&◌, ◌||◌, not, refl, sym, ◌∙◌, arith, List, [], ◌∷◌, length}
use Rattle.std.specs.Prelude.{Some, ◌==◌, if◌then◌else◌}
use Rattle.afr_base.specs.Bricks.{member, below}
use Rattle.afr_base.specs.SetLemmas.{member_added, member_removed}
use Rattle.afr_lines.specs.declared.answer.Told.{Told}
use Rattle.afr_lines.specs.declared.answer.Told.TheVariants.{NotConnected}
use Rattle.afr_lines.specs.declared.line.Event.TheVariants as event
use Rattle.afr_lines.specs.declared.line.Line.{Line}
use Rattle.afr_lines.specs.declared.line.Line.TheVariants.{Ask, Begin, HealBegin, End, HealEnd}
use Rattle.afr_lines.specs.declared.line.Line.TheVariants as line_of
use Rattle.afr_plan.specs.declared.plan.Plan.{Plan}
use Rattle.afr_model.specs.Report.{started_bricks}
use Rattle.afr_lines.specs.Places.{place_of}
use Rattle.afr_model.specs.Sessions.{is_linked, opens_with, ends_session, is_joined}
use Rattle.afr_model.specs.Sessions as model
use Rattle.afr_model_moves.specs.Past.{Log, started, started_after, linked, linked_after, opening, joined, ends}
use Rattle.afr_model_moves.proofs.ByPosition.{IsPast}
use Rattle.afr_model_moves.proofs.Places.{of_same, opens_same, place_is}

pub ends_same : (a b : ℕ) (line : Line) → ends a b (Some line) ≡ ends_session a b line
unfolding ends
ends_same a b (Ask x y request told took) = go told
  where
    none : (x y t : Bool) → (x && y && t && false) ≡ false
    none x y t = grind arith

    all : (x y t : Bool) → (x && y && t && true) ≡ (x && y && t)
    all x y t = grind arith

    go : (told : Told) → ends a b (Some (Ask x y request told took)) ≡ ends_session a b (Ask x y request told took)
    go NotConnected = all (x.0 == a) (y.0 == b) took
    go _ = none (x.0 == a) (y.0 == b) took
ends_same a b (line_of.Event (event.Stop y)) = refl
ends_same a b (line_of.Event (event.Start y)) = refl
ends_same a b (line_of.Event (event.Cut x y)) = refl
ends_same a b (line_of.Event (event.Join x y)) = refl
ends_same a b (line_of.Event (event.Kill x)) = refl
ends_same a b (Begin x change) = refl
ends_same a b (HealBegin x g kind) = refl
ends_same a b (End x reply) = refl
ends_same a b (HealEnd x g kind reply) = refl

module _ (L : Log) where
  linked_one : (a b : ℕ) (line : Line) (was : Bool) → linked_after was a b (Some line) ≡ model.linked_by a b line was
  linked_one a b (line_of.Event (event.Stop y)) was = refl
  linked_one a b (line_of.Event (event.Start y)) was = refl
  linked_one a b (line_of.Event (event.Cut x y)) was = refl
  linked_one a b (line_of.Event (event.Join x y)) was = refl
  linked_one a b (line_of.Event (event.Kill x)) was = refl
  linked_one a b (Ask x y request told took) was = refl
  linked_one a b (Begin x change) was = refl
  linked_one a b (HealBegin x g kind) was = refl
  linked_one a b (End x reply) was = refl
  linked_one a b (HealEnd x g kind reply) was = refl

  pub linked_is : (a b : ℕ) (older : List Line) → IsPast L older → linked L (length older) a b ≡ is_linked a b older
  unfolding linked
  linked_is a b [] h = refl
  linked_is a b (line ∷ older) h = (λ i. linked_after (linked_is a b older h.1 i) a b (h.0 i)) ∙ linked_one a b line (is_linked a b older)

  started_one : (b : ℕ) (line : Line) (s : List ℕ) → started_after (member s b) b (Some line) ≡ member (Rattle.afr_model.specs.Report.started_by line s) b
  started_one b (line_of.Event (event.Stop y)) s = rw (member_removed y.0 s b) (go (y.0 == b))
    where
      go : (x : Bool) → (if x then false else member s b) ≡ (not x && member s b)
      go true = refl
      go false = refl
  started_one b (line_of.Event (event.Start y)) s = rw (member_added y.0 s b) (go (y.0 == b))
    where
      go : (x : Bool) → (if x then true else member s b) ≡ (x || member s b)
      go true = refl
      go false = refl
  started_one b (line_of.Event (event.Cut x y)) s = refl
  started_one b (line_of.Event (event.Join x y)) s = refl
  started_one b (line_of.Event (event.Kill x)) s = refl
  started_one b (Ask x y request told took) s = refl
  started_one b (Begin x change) s = refl
  started_one b (HealBegin x g kind) s = refl
  started_one b (End x reply) s = refl
  started_one b (HealEnd x g kind reply) s = refl

  pub started_is : (n b : ℕ) → member (below n) b ≡ true → (older : List Line) → IsPast L older → started L (length older) b ≡ member (started_bricks n older) b
  unfolding started
  started_is n b low [] h = sym low
  started_is n b low (line ∷ older) h = (λ i. started_after (started_is n b low older h.1 i) b (h.0 i)) ∙ started_one b line (started_bricks n older)

  pub opening_is : (p : Plan) (a b : ℕ) → member (below p.shape.n) b ≡ true → (line : Line) (older : List Line) → L (length older) ≡ Some line → IsPast L older → opening L (length older) a b ≡ opens_with p a b line older
  unfolding opening
  opening_is p a b low line older is h =
      rw (is, of_same a line, place_is L a older h, opens_same (place_of a older) line, started_is p.shape.n b low older h, linked_is a b older h) refl

  pub joined_is : (p : Plan) (a b : ℕ) → member (below p.shape.n) b ≡ true → (older : List Line) → IsPast L older → joined L (length older) a b ≡ is_joined p a b older
  unfolding joined
  joined_is p a b low [] h = refl
  joined_is p a b low (line ∷ older) h = rw (joined_is p a b low older h.1, opening_is p a b low line older h.0 h.1, h.0, ends_same a b line) refl
