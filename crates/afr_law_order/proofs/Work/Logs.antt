-- In a log each client asks for its Work locks in rising order.
use Rattle.std.proofs.Common.{◌≡◌, ℕ, suc, ◌+◌, ◌-◌, ◌<◌, ◌≤◌, ◌==◌, ◌++◌, Bool, true, false, inl, inr, refl, sym, ◌∙◌, subst, ap, arith, List, [], ◌∷◌, Some, length, length-append}
use Rattle.std.specs.Prelude.{if◌then◌else◌, slice_get}
use Rattle.std.proofs.lemmas.Bool.{eqb-true}
use Rattle.afr_base.specs.declared.ids.Gfid.{Gfid}
use Rattle.afr_base.specs.declared.ids.NameId.{NameId}
use Rattle.afr_law_names.proofs.Descent.Paths.{After, Nothing, Reads, Silence, Stays, after_is, after_off}
use Rattle.afr_law_names.specs.Descent.Descent.{IsOfPlan, PathsLeadDown, has_one_path}
use Rattle.afr_discipline.specs.Stands.{Stands}
use Rattle.afr_discipline.specs.declared.register.Register.{Register}
use Rattle.afr_client_entry.specs.declared.stage.EntryStage.TheVariants as entering
use Rattle.afr_client_entry.specs.declared.stage.EntryStage.{EntryStage}
use Rattle.afr_law_client.specs.Entry.EntryTelling.{TellsIn, command_of}
use Rattle.afr_lines.specs.Places.{Place, opens, place_of}
use Rattle.afr_lines.specs.Work.{Work as Lines, ended, work}
use Rattle.afr_lines.specs.declared.line.Line.TheVariants.{Ask}
use Rattle.afr_lines.specs.declared.line.Line.{Line}
use Rattle.afr_lines.specs.declared.request.Area.{Area}
use Rattle.afr_lines.specs.declared.request.Request.TheVariants.{Lock}
use Rattle.afr_model.specs.Actors.{script_of}
use Rattle.afr_model.specs.Showing.{At, NoName, Path, Untold, path_after, path_by}
use Rattle.afr_model.specs.Standing.{kept_at, path_upto}
use Rattle.afr_model_moves.specs.Discipline.{in_force}
use Rattle.afr_model_moves.specs.Followed.{register_by}
use Rattle.afr_model_moves.specs.Register.{Exact, untouched}
use Rattle.afr_object.specs.Tables.{object_of}
use Rattle.afr_object.specs.declared.entry.Entry.{Entry}
use Rattle.afr_plan.specs.declared.command.Command.{Command}
use Rattle.afr_plan.specs.declared.plan.Plan.{Plan}
use Rattle.afr_lines.specs.declared.lock.Domain.TheVariants.{Work as WorkDomain}
use Rattle.afr_client_entry.specs.Removals.Removal.{Removing}
use Rattle.afr_client_entry.specs.declared.removing.stage.RemovalStage.TheVariants as removes
use Rattle.afr_client_entry.specs.declared.removing.stage.RemovalStage.{RemovalStage}
use Rattle.afr_law_client.specs.Removal.RemovalTelling.{During, HasLed, dir_at}
use Rattle.afr_law_tables.specs.Codes.{kept_by}
use Rattle.afr_law_bound.specs.Waiting as waiting
use Rattle.afr_law_bound.specs.Waiting.{Holds, RisesTo}
use Rattle.afr_law_order.proofs.Work.Above.{work_above}
use Rattle.afr_law_order.specs.Work.Logs.{ClientRises, IsNotedAt, TellsLeadDown}
use Rattle.afr_law_order.specs.Work.Rising.{First, LeadsDownAt, Locks, Second}
use Rattle.afr_client.specs.Work.{register_of}
use Rattle.afr_law_heard.proofs.Works.WorkTold.{entry_one, one_of}
use Rattle.afr_client.specs.declared.work.WorkMachine.TheVariants.{Entry as EntryWork, Idle, Lookup, Rename, Write}

-- ---- a removal's two locks
-- what the whole path has led to after no more than k names, its first k names have led to
module _ (p : Plan) (line : Line) (older : List Line) (k j i : ℕ) (o q : Entry) (low : j ≤ k) where
  -- a line has led it there from no further on
  not_past : (path : Path) → After p line older i q path → path ≡ At j o → i ≤ k
  not_past path Stays h = (let same : i ≡ j = cc h in omega (arith, same, low))
  not_past path (Reads a b g name took entry is there) h = (let same : i + 1 ≡ j = cc h in omega (arith, same, low))
  not_past path Nothing h = absurd (cc h)
  not_past path Silence h = absurd (cc h)

  -- so the line leads the first k names there
  moved : (path : Path) → After p line older i q path → path ≡ At j o → (here : Bool) → (i == k) ≡ here → (if here then At i q else path) ≡ At j o
  moved path Stays h true e = h
  moved path Stays h false e = h
  moved path (Reads a b g name took entry is there) h false e = h
  moved path (Reads a b g name took entry is there) h true e = (let same : i + 1 ≡ j = cc h in let at : i ≡ k = eqb-true i k e in absurd (omega (arith, same, at, low)))
  moved path Nothing h here e = absurd (cc h)
  moved path Silence h here e = absurd (cc h)

upto_whole : (p : Plan) (k : ℕ) (w : Lines) (j : ℕ) (o : Entry) → path_by p w ≡ At j o → j ≤ k → path_upto k p w ≡ At j o
upto_whole p k [] j o e low = e
upto_whole p k (x ∷ w) j o e low = go (path_by p w) refl e (λ i q is less. upto_whole p k w i q is less)
  where
    go : (u : Path) → path_by p w ≡ u → path_after p x.0 x.1 u ≡ At j o → ((i : ℕ) (q : Entry) → path_by p w ≡ At i q → i ≤ k → path_upto k p w ≡ At i q) → kept_at k (path_upto k p w) (path_after p x.0 x.1 (path_upto k p w)) ≡ At j o
    go (At i q) is h before = (
        let after = after_is p x.0 x.1 i q in
        let same : path_upto k p w ≡ At i q = before i q is (not_past p x.0 x.1 k j i o q low (path_after p x.0 x.1 (At i q)) after h) in
        subst (λ (u : Path). kept_at k u (path_after p x.0 x.1 u) ≡ At j o) (sym same) (moved p x.0 x.1 k j i o q low (path_after p x.0 x.1 (At i q)) after h (i == k) refl)
        )
    go NoName is h before = absurd (after_off p x.0 x.1 NoName (λ i q f. cc f) j o h)
    go Untold is h before = absurd (after_off p x.0 x.1 Untold (λ i q f. cc f) j o h)

-- where its path has led, whatever its stage
led_of : (p : Plan) (path : List NameId) (m : Removing) (w : Lines) (stage : RemovalStage) → During stage p path m w → HasLed p path (object_of m.change) m.child.gfid w
led_of p path m w removes.Locking d = d.0.led
led_of p path m w removes.Looking d = d.0.led
led_of p path m w removes.Listing d = d.0.led
led_of p path m w removes.Beginning d = d.0.led
led_of p path m w removes.Preparing d = d.0.led
led_of p path m w removes.Applying d = d.0.led
led_of p path m w removes.Posting d = d.0.led
led_of p path m w (removes.Closing why) d = d.led

-- the directory that is removed has the greater number
removal_down : PathsLeadDown → (p : Plan) (log : List Line) (a : ℕ) (c : Command) → IsOfPlan p log → a ≤ 16 → slice_get (script_of p a) (ended a log) ≡ Some c → has_one_path c ≡ true
    → (path : List NameId) (dir child : Gfid) → 0 < length path → HasLed p path dir child (work a log) → dir.0 < child.0
removal_down paths p log a c f client present one path dir child some led =
    let whole : suc (length path - 1) ≡ length path = omega (arith, some) in
    let here : path_by p (work a log) ≡ At (suc (length path - 1)) (dir_at child) = led.leads ∙ sym (ap (λ (k : ℕ). At k (dir_at child)) whole) in
    let last = upto_whole p (suc (length path - 1)) (work a log) (suc (length path - 1)) (dir_at child) here (omega arith) in
    paths p log f a (length path - 1) c (dir_at dir) (dir_at child) client present one led.place last refl

pub tells_down : PathsLeadDown → TellsLeadDown
tells_down paths p log command Idle a f client present tells = tt
tells_down paths p log command (Lookup m) a f client present tells = tt
tells_down paths p log command (Write m) a f client present tells = tt
tells_down paths p log command (Rename m) a f client present tells = tt
tells_down paths p log command (EntryWork m) a f client present tells = go m.stage tells.stage
  where
    go : (stage : EntryStage) → TellsIn p command m.job stage m.walk (work a log) → LeadsDownAt stage
    go entering.Walking k = tt
    go (entering.Changing t found) k = tt
    go (entering.Removes y) k = (
        let some : 0 < length (m.walk.path ++ k.name ∷ []) = rw (length-append m.walk.path (k.name ∷ [])) (omega arith) in
        removal_down paths p log a command f client present (one_of command (command_of m.job m.walk.path) tells.named (entry_one m.job m.walk.path)) (m.walk.path ++ k.name ∷ []) (object_of y.change) y.child.gfid some (led_of p (m.walk.path ++ k.name ∷ []) y (work a log) y.stage k.tells)
        )
    go (entering.Ending said) k = tt

-- ---- a client
-- no lock is held before the first line of a work
none_held : (n : ℕ) (b : ℕ) (area : Area) → RisesTo n untouched.law b area
none_held n b area c mine low (waiting.First is held) = absurd (cc is)
none_held n b area c mine low (waiting.Second is held) = absurd (cc is)

-- what its lines show that a client holds, its work's register shows
by_register : (r : Register) (x : Exact) → Stands r x → (c : ℕ) (mine : Area) → Holds x.law c mine → Locks r c mine
by_register r x s c mine (waiting.First is held) = First (sym s.area ∙ is) (ap (λ (f : ℕ → Bool). f c) (sym s.held) ∙ held)
by_register r x s c mine (waiting.Second is held) = Second (sym s.second ∙ is) (ap (λ (f : ℕ → Bool). f c) (sym s.second_held) ∙ held)

pub client_rises : PathsLeadDown → ClientRises
client_rises paths p log command w a b area at f client present k tells noted q is told took = go noted
  where
    go : IsNotedAt p a.0 log (register_of w) → RisesTo p.shape.n (in_force (opens (place_of a.0 log) (Ask a b (Lock WorkDomain area) told took)) (register_by p.shape.n (kept_by p) a.0 log)).law b.0 area
    go (inl h) = subst (λ (place : Place). RisesTo p.shape.n (in_force (opens place (Ask a b (Lock WorkDomain area) told took)) (register_by p.shape.n (kept_by p) a.0 log)).law b.0 area) (sym h.0)
        (λ c mine low held. work_above w k q (tells_down paths p log command w a.0 f client present tells) at b area is c mine (by_register (register_of w) (register_by p.shape.n (kept_by p) a.0 log) h.1.stands c mine held))
    go (inr h) = subst (λ (place : Place). RisesTo p.shape.n (in_force (opens place (Ask a b (Lock WorkDomain area) told took)) (register_by p.shape.n (kept_by p) a.0 log)).law b.0 area) (sym h.0) (none_held p.shape.n b.0 area)
