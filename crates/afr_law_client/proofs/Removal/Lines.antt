-- What a line of a removal leaves of its path, of the locks and looks at its directory, and of what else was locked and looked at.
use Rattle.std.proofs.Common.{◌≡◌, ℕ, ◌-◌, ◌==◌, ◌&&◌, Bool, true, false, List, ◌∷◌, Option, Some, None, length, refl, sym, ap, ◌∙◌, subst}
use Rattle.std.proofs.Math.Bool.{and-false}
use Rattle.afr_base.specs.Bricks.{member}
use Rattle.afr_base.specs.declared.ids.ActorId.{ActorId}
use Rattle.afr_base.specs.declared.ids.BrickId.{BrickId}
use Rattle.afr_base.specs.declared.ids.Gfid.{Gfid}
use Rattle.afr_base.specs.declared.ids.NameId.{NameId}
use Rattle.afr_choice.specs.declared.looked.Looked.{Looked}
use Rattle.afr_discipline.specs.declared.register.Register.{Register}
use Rattle.afr_lines.specs.Areas.{area_for}
use Rattle.afr_lines.specs.Overlap.{same_area}
use Rattle.afr_lines.specs.Work.{Work}
use Rattle.afr_lines.specs.declared.answer.Told.{Told}
use Rattle.afr_lines.specs.declared.line.Line.{Line}
use Rattle.afr_lines.specs.declared.line.Line.TheVariants.{Ask, Begin}
use Rattle.afr_lines.specs.declared.request.Area.{Area}
use Rattle.afr_lines.specs.declared.request.Area.TheVariants.{Range, Name}
use Rattle.afr_lines.specs.declared.request.Request.{Request}
use Rattle.afr_lines.specs.declared.request.Request.TheVariants as request
use Rattle.afr_object.specs.Tables.{object_of}
use Rattle.afr_object.specs.declared.change.Change.{Change}
use Rattle.afr_lines.specs.declared.lock.Domain.TheVariants.{Work as WorkDomain}
use Rattle.afr_plan.specs.declared.plan.Plan.{Plan}
use Rattle.afr_model.specs.Showing.{Path, At, among, has, locks, looking, path_after}
use Rattle.afr_model.specs.Skipped.{IsLooked, is_whole}
use Rattle.afr_client_entry.specs.Removals.Sound.{IsRemoval}
use Rattle.afr_client_entry.proofs.Removals.Facts.{apart}
use Rattle.afr_client_transaction.proofs.Parts.{no_or}
use Rattle.afr_law_client.specs.Fits.{AreExcused, IsCalm}
use Rattle.afr_law_client.specs.Tells.{lookups_allow}
use Rattle.afr_law_client.proofs.Leaves.{Leaves, LeavesAll}
use Rattle.afr_law_client.proofs.Small.{same_gfid}
use Rattle.afr_law_client.specs.Removal.RemovalTelling.{AreSets, HasLed, RemovalGoes, dir_at}
use Rattle.afr_law_client.proofs.Entry.Names.{upto_stays}

-- ---- the path
module _ (p : Plan) (path : List NameId) (dir child : Gfid) (older : List Line) (w : Work) (k : HasLed p path dir child w) where
  pub led_ask : (a : ActorId) (b : BrickId) (r : Request) (told : Told) (took : Bool) → (path_after p (Ask a b r told took) older (At (length path) (dir_at child)) ≡ At (length path) (dir_at child)) → HasLed p path dir child ((Ask a b r told took, older) ∷ w)
  led_ask a b r told took stays = record {
    place = upto_stays (length path - 1) p w (Ask a b r told took) older (dir_at dir) k.place;
    leads = ap (λ (x : Path). path_after p (Ask a b r told took) older x) k.leads ∙ stays;
  }

  pub led_begin : (a : ActorId) (c : Change) → HasLed p path dir child ((Begin a c, older) ∷ w)
  led_begin a c = record { place = upto_stays (length path - 1) p w (Begin a c) older (dir_at dir) k.place; leads = k.leads }

-- ---- objects that were looked at
module _ (n : ℕ) (w : Work) (k : IsLooked n w) (g : Gfid) (a : ActorId) (b : BrickId) (told : Told) (took : Bool) (older : List Line) where
  pub looked_lock : IsLooked n ((Ask a b (request.Lock WorkDomain (Name g None)) told took, older) ∷ w)
  looked_lock h seen free c l = let parts = no_or (g.0 == h.0) (has (locks h) w) free in rw parts.0 (k h seen parts.1 c l)

  pub looked_look : has (locks g) w ≡ true → IsLooked n ((Ask a b (request.Look g) told took, older) ∷ w)
  looked_look locked h seen free c l = go (g.0 == h.0) refl
    where
      go : (f : Bool) → (g.0 == h.0) ≡ f → member (among (looking h) ((Ask a b (request.Look g) told took, older) ∷ w)) c ≡ true
      go true e = let here : has (locks h) w ≡ true = subst (λ (x : Gfid). has (locks x) w ≡ true) (same_gfid g h e) locked in absurd (cc (here, free))
      go false e = rw e (k h (rw e at seen) free c l)

-- ---- areas that were locked
whole_apart : (area : Area) (g : Gfid) → is_whole area ≡ false → same_area area (Name g None) ≡ false
whole_apart (Range h from to) g e = refl
whole_apart (Name h None) g e = absurd (cc e)
whole_apart (Name h (Some name)) g e = and-false (h.0 == g.0)

-- ---- all of it
-- a list, and the phases of the attempt
abbrev pub IsPlain : Request → Type 0
IsPlain (request.List h) = Unit {0}
IsPlain (request.Pre h kind) = Unit {0}
IsPlain (request.Apply attempt) = Unit {0}
IsPlain (request.Post attempt h kind missed) = Unit {0}
IsPlain asked = ⊥

module _ (p : Plan) (path : List NameId) (change : Change) (r q : Register) (g : Gfid) (a : ActorId) (b : BrickId) (told : Told) (took : Bool) (older : List Line) (w : Work) (k : RemovalGoes p path change r g w) where
  pub goes_lock : IsRemoval change → LeavesAll q r → AreExcused ((Ask a b (request.Lock WorkDomain (Name g None)) told took, older) ∷ w) → IsCalm ((Ask a b (request.Lock WorkDomain (Name g None)) told took, older) ∷ w)
      → RemovalGoes p path change q g ((Ask a b (request.Lock WorkDomain (Name g None)) told took, older) ∷ w)
  goes_lock removes left excused calm = record {
    shape = left.shape_is ∙ k.shape;
    words = k.words;
    led = led_ask p path (object_of change) g older w k.led a b (request.Lock WorkDomain (Name g None)) told took refl;
    locked = rw (k.words.apart, sep) k.locked;
    looks = left.looked_is ∙ rw k.words.apart k.looks;
    allows = subst (λ (x : Looked). lookups_allow p.shape change x ≡ true) (sym left.looked_is) k.allows;
    sets = record {
      prepared = left.pre_is ∙ k.sets.prepared;
      applied = left.done_is ∙ k.sets.applied;
      posted = left.post_is ∙ k.sets.posted;
      number = left.begun_is ∙ k.sets.number;
    };
    looked = looked_lock p.shape.n w k.looked g a b told took older;
    alone = λ area part other. rw (whole_apart area g part) (k.alone area part other);
    excused = excused;
    calm = calm;
  }
    where
      sep : same_area (area_for change) (Name g None) ≡ false
      sep = apart change removes (Some (area_for change)) g refl

  pub goes_look : LeavesAll q r → has (locks g) w ≡ true → AreExcused ((Ask a b (request.Look g) told took, older) ∷ w) → IsCalm ((Ask a b (request.Look g) told took, older) ∷ w) → RemovalGoes p path change q g ((Ask a b (request.Look g) told took, older) ∷ w)
  goes_look left locked excused calm = record {
    shape = left.shape_is ∙ k.shape;
    words = k.words;
    led = led_ask p path (object_of change) g older w k.led a b (request.Look g) told took refl;
    locked = rw k.words.apart k.locked;
    looks = left.looked_is ∙ rw k.words.apart k.looks;
    allows = subst (λ (x : Looked). lookups_allow p.shape change x ≡ true) (sym left.looked_is) k.allows;
    sets = record {
      prepared = left.pre_is ∙ k.sets.prepared;
      applied = left.done_is ∙ k.sets.applied;
      posted = left.post_is ∙ k.sets.posted;
      number = left.begun_is ∙ k.sets.number;
    };
    looked = looked_look p.shape.n w k.looked g a b told took older locked;
    alone = k.alone;
    excused = excused;
    calm = calm;
  }

  module _ (begun : Option ℕ) (pre done post : List ℕ) (left : Leaves q r.shape r.looked begun pre done post) where
    pub goes_plain : (asked : Request) → IsPlain asked → AreSets q ((Ask a b asked told took, older) ∷ w) → AreExcused ((Ask a b asked told took, older) ∷ w) → IsCalm ((Ask a b asked told took, older) ∷ w)
        → RemovalGoes p path change q g ((Ask a b asked told took, older) ∷ w)
    goes_plain (request.List h) is sets excused calm = record {
      shape = left.shape_is ∙ k.shape;
      words = k.words;
      led = led_ask p path (object_of change) g older w k.led a b (request.List h) told took refl;
      locked = k.locked;
      looks = left.looked_is ∙ k.looks;
      allows = subst (λ (x : Looked). lookups_allow p.shape change x ≡ true) (sym left.looked_is) k.allows;
      sets = sets;
      looked = k.looked;
      alone = k.alone;
      excused = excused;
      calm = calm;
    }
    goes_plain (request.Pre h kind) is sets excused calm = record {
      shape = left.shape_is ∙ k.shape;
      words = k.words;
      led = led_ask p path (object_of change) g older w k.led a b (request.Pre h kind) told took refl;
      locked = k.locked;
      looks = left.looked_is ∙ k.looks;
      allows = subst (λ (x : Looked). lookups_allow p.shape change x ≡ true) (sym left.looked_is) k.allows;
      sets = sets;
      looked = k.looked;
      alone = k.alone;
      excused = excused;
      calm = calm;
    }
    goes_plain (request.Apply attempt) is sets excused calm = record {
      shape = left.shape_is ∙ k.shape;
      words = k.words;
      led = led_ask p path (object_of change) g older w k.led a b (request.Apply attempt) told took refl;
      locked = k.locked;
      looks = left.looked_is ∙ k.looks;
      allows = subst (λ (x : Looked). lookups_allow p.shape change x ≡ true) (sym left.looked_is) k.allows;
      sets = sets;
      looked = k.looked;
      alone = k.alone;
      excused = excused;
      calm = calm;
    }
    goes_plain (request.Post attempt h kind missed) is sets excused calm = record {
      shape = left.shape_is ∙ k.shape;
      words = k.words;
      led = led_ask p path (object_of change) g older w k.led a b (request.Post attempt h kind missed) told took refl;
      locked = k.locked;
      looks = left.looked_is ∙ k.looks;
      allows = subst (λ (x : Looked). lookups_allow p.shape change x ≡ true) (sym left.looked_is) k.allows;
      sets = sets;
      looked = k.looked;
      alone = k.alone;
      excused = excused;
      calm = calm;
    }
    goes_plain asked is sets excused calm = absurd is

    pub goes_begin : (c : Change) → AreSets q ((Begin a c, older) ∷ w) → AreExcused ((Begin a c, older) ∷ w) → IsCalm ((Begin a c, older) ∷ w) → RemovalGoes p path change q g ((Begin a c, older) ∷ w)
    goes_begin c sets excused calm = record {
      shape = left.shape_is ∙ k.shape;
      words = k.words;
      led = led_begin p path (object_of change) g older w k.led a c;
      locked = k.locked;
      looks = left.looked_is ∙ k.looks;
      allows = subst (λ (x : Looked). lookups_allow p.shape change x ≡ true) (sym left.looked_is) k.allows;
      sets = sets;
      looked = k.looked;
      alone = k.alone;
      excused = excused;
      calm = calm;
    }
