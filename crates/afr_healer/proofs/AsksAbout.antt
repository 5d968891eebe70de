-- The requests of a heal are about its object, and so is the area that it locks.
use Rattle.std.proofs.Common.{◌≡◌, ℕ, nat_lt, Bool, true, false, List, Option, None, Some, refl, sym, ap, subst, if◌then◌else◌}
use Rattle.afr_base.specs.declared.ids.ActorId.{ActorId}
use Rattle.afr_base.specs.declared.ids.BrickId.{BrickId}
use Rattle.afr_base.specs.declared.ids.Gfid.{Gfid}
use Rattle.afr_base.specs.declared.ids.Kind.{Kind}
use Rattle.afr_base.specs.declared.ids.Kind.TheVariants.{Attrs, Bytes, Names}
use Rattle.afr_base.specs.declared.ids.Shape.{Shape}
use Rattle.afr_base.specs.declared.ids.What.{What}
use Rattle.afr_discipline.specs.Notes.{anew, dropped, named, noted_ask, noted_law, released, taken, with_held}
use Rattle.afr_discipline.specs.Notes as notes
use Rattle.afr_base.specs.Bricks.{added}
use Rattle.afr_discipline.specs.Turns.{find, turn_of}
use Rattle.afr_discipline.specs.declared.register.Register.{Register}
use Rattle.afr_heal.specs.Engine.{Ask as Asks, Begins, Ends, NextOfHeal, after_looks, broken_next, has_part, lock_next, next_of, or_else, part_or_end, step_or, whole_next}
use Rattle.afr_heal.specs.Requests.{area_now, area_or, read_in, repair_in, request_in}
use Rattle.afr_law_heal.specs.HealLaws.{SettlesSeen}
use Rattle.afr_lines.specs.Areas.{object_of_area}
use Rattle.afr_lines.specs.Work.{Work}
use Rattle.afr_lines.specs.declared.answer.Told.{Told}
use Rattle.afr_lines.specs.declared.line.Line.{Line}
use Rattle.afr_lines.specs.declared.line.Line.TheVariants.{Ask}
use Rattle.afr_lines.specs.declared.request.Area.{Area}
use Rattle.afr_lines.specs.declared.request.Request.{Request}
use Rattle.afr_lines.specs.declared.request.Request.TheVariants as request
use Rattle.afr_model.specs.Blamed.{Blames}
use Rattle.afr_model.specs.HealReplies.{IsHealing, IsSettling, refuses_index}
use Rattle.afr_model.specs.Healing.{heal_by, is_border}
use Rattle.afr_model.specs.Rounds.{IsOfHeal, KeepsToIndexed, listed_after, object_healed}
use Rattle.afr_model_moves.specs.Note.{is_done, is_granted}
use Rattle.afr_model_moves.specs.Past.{is_gone}
use Rattle.afr_model_moves.specs.Register.{Exact, Finish, HealLocks, HealPart, HealPres, HealUnlocks, Looks, Mends, Opening, Piece, Reads, Settles, Step, Unlocks, Untouched, WorkLocks, len_of, piece_area, whole_area}
use Rattle.afr_model_moves.specs.Register as step_of
use Rattle.afr_model_moves.specs.Rules.{heal_area, is_area}
use Rattle.afr_model_moves.specs.Steps.{is_lowest}
use Rattle.afr_object.specs.Repairs.{repaired}
use Rattle.afr_plan.specs.declared.plan.Plan.{Plan}
use Rattle.afr_lines.specs.declared.lock.Domain.TheVariants.{Heal, Work as WorkDomain}
use Rattle.afr_healer.specs.Acting.{met_after}
use Rattle.afr_healer.specs.Keeping.{IsOnObject}

-- a heal's request is about its object, and a settling is of its kind; others are none of a heal
abbrev pub AsksAbout : Gfid → Kind → Request → Type 0
AsksAbout g kind (request.Lock domain area) = object_of_area area ≡ g
AsksAbout g kind (request.Unlock domain area) = object_of_area area ≡ g
AsksAbout g kind (request.Look h) = h ≡ g
AsksAbout g kind (request.ReadBytes h at len) = h ≡ g
AsksAbout g kind (request.List h) = h ≡ g
AsksAbout g kind (request.ReadAttrs h) = h ≡ g
AsksAbout g kind (request.Pre h what) = h ≡ g
AsksAbout g kind (request.Mend repair) = repaired repair ≡ g
AsksAbout g kind (request.Settle h what less) = (h ≡ g) × (what ≡ kind)
AsksAbout g kind other = ⊥

-- ---- what the engine asks
pub record About (g : Gfid) (kind : Kind) (line : NextOfHeal) : Type 0 where
  pub asks : (b : ℕ) (asked : Request) → line ≡ Asks b asked → AsksAbout g kind asked

-- the area that is there is on the object
abbrev pub IsOn : Gfid → Option Area → Type 0
IsOn g there = (area : Area) → there ≡ Some area → object_of_area area ≡ g

or_about : (g : Gfid) (kind : Kind) (request : ℕ → Request) (at : Option ℕ) (rest : NextOfHeal) → ((b : ℕ) → AsksAbout g kind (request b)) → About g kind rest → About g kind (or_else request at rest)
or_about g kind request None rest k more = more
or_about g kind request (Some b) rest k more = record { asks = λ c asked e. subst (AsksAbout g kind) (same e) (k b) }
  where
    same : {c : ℕ} {asked : Request} → Asks b (request b) ≡ Asks c asked → request b ≡ asked
    same e = cc e

begins_about : (g : Gfid) (kind : Kind) → About g kind Begins
begins_about g kind = record { asks = λ b asked e. absurd (cc e) }

ends_about : (g : Gfid) (kind : Kind) → About g kind Ends
ends_about g kind = record { asks = λ b asked e. absurd (cc e) }

whole_on : (g : Gfid) (kind : Kind) → object_of_area (whole_area g.0 kind) ≡ g
whole_on g Bytes = refl
whole_on g Attrs = refl
whole_on g Names = refl

now_on : (g : Gfid) (kind : Kind) (there : Option Area) → IsOn g there → object_of_area (area_or there (whole_area g.0 kind)) ≡ g
now_on g kind None on = whole_on g kind
now_on g kind (Some area) on = on area refl

part_on : (g : Gfid) (upto : ℕ) (more : Bool) → object_of_area (if more then piece_area g.0 upto else whole_area g.0 Bytes) ≡ g
part_on g upto true = refl
part_on g upto false = refl

reads_on : (r : Exact) (g : Gfid) (kind of : Kind) → AsksAbout g kind (read_in r g of)
reads_on r g kind Bytes = refl
reads_on r g kind Attrs = refl
reads_on r g kind Names = refl

repairs_on : (r : Exact) (s : ℕ) (g : Gfid) (kind : Kind) (part : HealPart) → repaired (repair_in r s g kind part) ≡ g
repairs_on r s g Bytes Opening = refl
repairs_on r s g Bytes Piece = refl
repairs_on r s g Bytes Finish = refl
repairs_on r s g Attrs part = refl
repairs_on r s g Names part = refl

module _ (n : ℕ) (keeps : ℕ → Kind → Bool) (r : Exact) (s : ℕ) (g : Gfid) (kind : Kind) (on : IsOn g r.law.area) where
  at_step : (step : Step) (rest : NextOfHeal) → ((b : ℕ) → AsksAbout g kind (request_in n keeps r s g kind step b)) → About g kind rest → About g kind (step_or n keeps r s g kind step rest)
  at_step step rest k more = or_about g kind (request_in n keeps r s g kind step) (turn_of n keeps r s step) rest k more

  area_on : object_of_area (area_now r g kind) ≡ g
  area_on = now_on g kind r.law.area on

  part_end : (more : Bool) → About g kind (part_or_end n keeps r s g kind more)
  part_end true = or_about g kind (lock_next r s g) (find n (is_lowest r.first_reached (λ x. false))) Ends (λ b. part_on g r.upto (nat_lt r.upto (len_of (r.first_views s)))) (ends_about g kind)
  part_end false = at_step HealUnlocks Ends (λ b. refl) (ends_about g kind)

  after : About g kind (after_looks n keeps r s g kind)
  after =
      let unlocks = at_step Unlocks _ (λ b. area_on) (part_end (has_part kind r.part)) in
      let settles = at_step Settles _ (λ b. (refl, refl)) unlocks in
      let mends = at_step Mends _ (λ b. repairs_on r s g kind r.part) settles in
      let pres = at_step HealPres _ (λ b. refl) mends in
      at_step Reads _ (λ b. reads_on r g kind kind) pres

  whole : (step : Step) → About g kind (whole_next n keeps r s g kind step)
  whole HealLocks = at_step HealLocks _ (λ b. refl) (at_step WorkLocks Ends (λ b. area_on) (ends_about g kind))
  whole WorkLocks = at_step WorkLocks Begins (λ b. area_on) (begins_about g kind)
  whole Untouched = or_about g kind (λ b. request.Lock Heal (heal_area g.0)) (Some 0) Ends (λ b. refl) (ends_about g kind)
  whole step_of.Open = at_step Looks _ (λ b. refl) after
  whole step_of.Pres = at_step Looks _ (λ b. refl) after
  whole step_of.Applies = at_step Looks _ (λ b. refl) after
  whole step_of.Posts = at_step Looks _ (λ b. refl) after
  whole Looks = at_step Looks _ (λ b. refl) after
  whole Reads = at_step Looks _ (λ b. refl) after
  whole HealPres = at_step Looks _ (λ b. refl) after
  whole Mends = at_step Looks _ (λ b. refl) after
  whole Settles = at_step Looks _ (λ b. refl) after
  whole Unlocks = at_step Looks _ (λ b. refl) after
  whole HealUnlocks = at_step Looks _ (λ b. refl) after

  broken : About g kind (broken_next n r g kind)
  broken =
      or_about g kind (λ b. request.Unlock WorkDomain (area_now r g kind)) (find n r.law.held) _ (λ b. area_on)
      (or_about g kind (λ b. request.Unlock Heal (heal_area g.0)) (find n r.law.healing) Ends (λ b. refl) (ends_about g kind))

  by_broken : (c : Bool) → About g kind (if c then broken_next n r g kind else whole_next n keeps r s g kind r.step)
  by_broken true = broken
  by_broken false = whole r.step

  -- each request of the engine is about the object
  pub next_about : About g kind (next_of n keeps r s g kind)
  next_about = by_broken r.broken

-- ---- the area after a request
if_on : (g : Gfid) (c : Bool) (x y : Register) → IsOn g x.area → IsOn g y.area → IsOn g (if c then x else y).area
if_on g true x y k l = k
if_on g false x y k l = l

some_same : (x y : Area) → Some x ≡ Some y → x ≡ y
some_same x y e = cc e

some_on : (g : Gfid) (area : Area) → object_of_area area ≡ g → IsOn g (Some area)
some_on g area e other is = subst (λ (x : Area). object_of_area x ≡ g) (some_same area other is) e

named_on : (g : Gfid) (r : Register) (area : Area) → IsOn g r.area → object_of_area area ≡ g → IsOn g (named r area).area
named_on g r area on e = if_on g (notes.is_working r) (record r { second = notes.second_in r area }) (anew r area) on (some_on g area e)

taken_on : (g : Gfid) (r : Register) (area : Area) (b : ℕ) (c : Bool) → IsOn g r.area → object_of_area area ≡ g → IsOn g (if c then record r { second = Some area; second_held = added b r.second_held } else with_held (named r area) b).area
taken_on g r area b true on e = on
taken_on g r area b false on e = named_on g r area on e

law_on : (g : Gfid) (kind : Kind) (r : Register) (b : ℕ) (asked : Request) (told : Told) → IsOn g r.area → AsksAbout g kind asked → IsOn g (noted_law r b asked told).area
law_on g kind r b (request.Lock WorkDomain area) told on about = if_on g (is_granted told) (taken r area b) (named r area) (taken_on g r area b _ on about) (named_on g r area on about)
law_on g kind r b (request.Lock Heal area) told on about = on
law_on g kind r b (request.Unlock WorkDomain area) told on about = if_on g (is_done told) (released r area b) r (if_on g (is_area r.area area) _ _ on on) on
law_on g kind r b (request.Unlock Heal area) told on about = if_on g (is_done told) _ r on on
law_on g kind r b (request.Look h) told on about = on
law_on g kind r b (request.ReadBytes h at len) told on about = on
law_on g kind r b (request.ReadName h name) told on about = on
law_on g kind r b (request.List h) told on about = on
law_on g kind r b (request.ReadAttr h key) told on about = on
law_on g kind r b (request.ReadAttrs h) told on about = on
law_on g kind r b request.Index told on about = on
law_on g kind r b (request.Pre h what) told on about = on
law_on g kind r b (request.Apply attempt) told on about = on
law_on g kind r b (request.Post attempt h what missed) told on about = on
law_on g kind r b (request.Mend repair) told on about = on
law_on g kind r b (request.Settle h what less) told on about = on

dropped_on : (g : Gfid) (gone : Bool) (b : ℕ) (r : Register) → IsOn g r.area → IsOn g (dropped gone b r).area
dropped_on g true b r on = on
dropped_on g false b r on = on

-- a request about the object leaves the area on it
pub noted_on : (g : Gfid) (kind : Kind) (r : Register) (t b : ℕ) (asked : Request) (told : Told) → IsOnObject g r → AsksAbout g kind asked → IsOnObject g (noted_ask r t b asked told)
noted_on g kind r t b asked told on about = dropped_on g (is_gone told) b (noted_law r b asked told) (law_on g kind r b asked told on about)

-- ---- what a line of a heal's request is
-- no border of a heal, no list, no post-op; it keeps to the round, and a settling takes back what its heal's lines show
pub record IsPlain (p : Plan) (a : ActorId) (b : BrickId) (asked : Request) (told : Told) (took : Bool) (log : List Line) (g : Gfid) (kind : Kind) : Type 0 where
  pub border : is_border (Ask a b asked told took) ≡ false
  pub listed : (was : List (Gfid × What)) → listed_after p (Ask a b asked told took) log was ≡ was
  pub admits : refuses_index (Ask a b asked told took) ≡ false
  pub met : met_after asked ≡ true
  pub blames : Blames p (Ask a b asked told took) log
  pub keeps : (k : BrickId) (list : List (Gfid × What)) (w : Work) → IsOfHeal list asked w → KeepsToIndexed k list (Ask a b asked told took) w
  pub healed : object_healed asked ≡ Some g
  pub settles : (shape : Shape) (w : Work) → SettlesSeen shape kind b.0 asked (heal_by w) → IsHealing shape (Ask a b asked told took) w

pub plain : (p : Plan) (a : ActorId) (b : BrickId) (asked : Request) (told : Told) (took : Bool) (log : List Line) (g : Gfid) (kind : Kind) → AsksAbout g kind asked → IsPlain p a b asked told took log g kind
plain p a b (request.Lock domain area) told took log g kind about = record {
  border = refl;
  listed = λ was. refl;
  admits = refl;
  met = refl;
  blames = tt;
  keeps = λ k list w of. of;
  healed = ap Some about;
  settles = λ shape w s. tt;
}
plain p a b (request.Unlock domain area) told took log g kind about = record {
  border = refl;
  listed = λ was. refl;
  admits = refl;
  met = refl;
  blames = tt;
  keeps = λ k list w of. of;
  healed = ap Some about;
  settles = λ shape w s. tt;
}
plain p a b (request.Look h) told took log g kind about = record {
  border = refl;
  listed = λ was. refl;
  admits = refl;
  met = refl;
  blames = tt;
  keeps = λ k list w of. of;
  healed = ap Some about;
  settles = λ shape w s. tt;
}
plain p a b (request.ReadBytes h at len) told took log g kind about = record {
  border = refl;
  listed = λ was. refl;
  admits = refl;
  met = refl;
  blames = tt;
  keeps = λ k list w of. of;
  healed = ap Some about;
  settles = λ shape w s. tt;
}
plain p a b (request.List h) told took log g kind about = record {
  border = refl;
  listed = λ was. refl;
  admits = refl;
  met = refl;
  blames = tt;
  keeps = λ k list w of. of;
  healed = ap Some about;
  settles = λ shape w s. tt;
}
plain p a b (request.ReadAttrs h) told took log g kind about = record {
  border = refl;
  listed = λ was. refl;
  admits = refl;
  met = refl;
  blames = tt;
  keeps = λ k list w of. of;
  healed = ap Some about;
  settles = λ shape w s. tt;
}
plain p a b (request.Pre h what) told took log g kind about = record {
  border = refl;
  listed = λ was. refl;
  admits = refl;
  met = refl;
  blames = tt;
  keeps = λ k list w of. of;
  healed = ap Some about;
  settles = λ shape w s. tt;
}
plain p a b (request.Mend repair) told took log g kind about = record {
  border = refl;
  listed = λ was. refl;
  admits = refl;
  met = refl;
  blames = tt;
  keeps = λ k list w of. of;
  healed = ap Some about;
  settles = λ shape w s. tt;
}
plain p a b (request.Settle h what less) told took log g kind about = record {
  border = refl;
  listed = λ was. refl;
  admits = refl;
  met = refl;
  blames = tt;
  keeps = λ k list w of. of;
  healed = ap Some about.0;
  settles = λ shape w s. subst (λ (of : Kind). IsSettling shape of less b.0 (heal_by w)) (sym about.1) s;
}
plain p a b (request.ReadName h name) told took log g kind about = absurd about
plain p a b (request.ReadAttr h key) told took log g kind about = absurd about
plain p a b request.Index told took log g kind about = absurd about
plain p a b (request.Apply attempt) told took log g kind about = absurd about
plain p a b (request.Post attempt h what missed) told took log g kind about = absurd about
