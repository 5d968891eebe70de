-- What a line keeps to, by where its work stands.
use Rattle.std.proofs.Common.{◌≡◌, ◌↔◌, ◌∙◌, ℕ, ◌&&◌, Bool, true, false, List, Some, None, slice_get, refl, sym, ap, subst, if◌then◌else◌}
use Rattle.std.proofs.lemmas.Option.{same_Some}
use Rattle.afr_base.specs.declared.ids.Gfid.{Gfid}
use Rattle.afr_base.specs.declared.ids.NameId.{NameId}
use Rattle.afr_lines.specs.Log.{change_of}
use Rattle.afr_lines.specs.Work.{Work}
use Rattle.afr_lines.specs.declared.line.Line.{Line}
use Rattle.afr_lines.specs.declared.line.Line.TheVariants.{Ask, Begin, HealBegin, HealEnd}
use Rattle.afr_lines.specs.declared.request.Request.TheVariants.{ReadName}
use Rattle.afr_model.specs.Commands.{change_named, is_on_name, path_of, steps_of}
use Rattle.afr_model.specs.Keeping.{IsNextName, KeepsTo, Names}
use Rattle.afr_model.specs.Showing.{At, NoName, Path, Untold, begins_attempt, has, path_by}
use Rattle.afr_model.specs.Standing.{path_upto, place_by}
use Rattle.afr_object.specs.declared.change.Change.{Change}
use Rattle.afr_object.specs.declared.entry.Entry.{Entry}
use Rattle.afr_plan.specs.declared.command.Command.{Command}
use Rattle.afr_plan.specs.declared.plan.Plan.{Plan}
use Rattle.afr_trace_follow.specs.Keeping.{IsNamedAt, IsNextOf, KeepsBy}
use Rattle.afr_trace_follow.specs.Seen.{path_seen}
use Rattle.afr_trace_follow.specs.Stands.{IsAt}
use Rattle.afr_trace_follow.specs.declared.stand.Stand.{Stand}

-- ---- tests
-- a test of one fact tests another that is the same
pub as_well : (r : Bool) (P Q : Type 0) → (P → Q) × (Q → P) → ((r ≡ true) ↔ P) → ((r ≡ true) ↔ Q)
as_well r P Q h e = (λ yes. h.0 (e.0 yes), λ q. e.1 (h.1 q))

-- a test of nothing else
pub never : (r : Bool) (P : Type 0) → r ≡ false → (P → ⊥) → ((r ≡ true) ↔ P)
never r P e h = (λ k. absurd (cc (sym e ∙ k)), λ p. absurd (h p))

-- both tests pass where both facts hold
pub both : (r s t : Bool) (P Q : Type 0) → r ≡ (s && t) → ((s ≡ true) ↔ P) → ((t ≡ true) ↔ Q) → ((r ≡ true) ↔ (P × Q))
both r s t P Q e hs ht = (λ yes. go s t hs ht (sym e ∙ yes), λ h. e ∙ back (hs.1 h.0) (ht.1 h.1))
  where
    go : (s t : Bool) → ((s ≡ true) ↔ P) → ((t ≡ true) ↔ Q) → (s && t) ≡ true → P × Q
    go true true ks kt h = (ks.0 refl, kt.0 refl)
    go true false ks kt h = absurd (cc h)
    go false t ks kt h = absurd (cc h)

    back : s ≡ true → t ≡ true → (s && t) ≡ true
    back h k = rw (h, k) refl

-- the same of something that is there
pub some_as_well : {A : Type 0} (x y : A) → (x ≡ y → Some x ≡ Some y) × (Some x ≡ Some y → x ≡ y)
some_as_well x y = (λ e. ap Some e, λ e. same_Some x y e)

-- ---- where a path stands
at_parts : (read n : ℕ) (object o : Entry) → At read object ≡ At n o → (read ≡ n) × (object ≡ o)
at_parts read n object o e = (cc, cc)

pub next_here : (read : ℕ) (object : Entry) (names : List NameId) (g : Gfid) (name : NameId)
    → ((object.gfid ≡ g) × (slice_get names read ≡ Some name) → IsNextOf (At read object) names g name) × (IsNextOf (At read object) names g name → (object.gfid ≡ g) × (slice_get names read ≡ Some name))
next_here read object names g name = (
  λ k. record { read = read; object = object; stands = refl; asked = k.0; next = k.1 },
  λ k.
      let s = at_parts read k.read object k.object k.stands in
      (ap (λ (e : Entry). e.gfid) s.1 ∙ k.asked, ap (λ (n : ℕ). slice_get names n) s.0 ∙ k.next),
)

pub no_next : (path : Path) (names : List NameId) (g : Gfid) (name : NameId) → ((read : ℕ) (object : Entry) → path ≡ At read object → ⊥) → IsNextOf path names g name → ⊥
no_next path names g name nowhere k = nowhere k.read k.object k.stands

pub named_here : (read : ℕ) (object : Entry) (c : Command) (at : ℕ) (change : Change)
    → ((read ≡ steps_of c) × (change_named object.gfid at c ≡ Some change) → IsNamedAt (At read object) c at change) × (IsNamedAt (At read object) c at change → (read ≡ steps_of c) × (change_named object.gfid at c ≡ Some change))
named_here read object c at change = (
  λ k. record { object = object; led = ap (λ (n : ℕ). At n object) k.0; named = k.1 },
  λ k.
      let s = at_parts read (steps_of c) object k.object k.led in
      (s.0, ap (λ (e : Entry). change_named e.gfid at c) s.1 ∙ k.named),
)

pub no_named : (path : Path) (c : Command) (at : ℕ) (change : Change) → ((read : ℕ) (object : Entry) → path ≡ At read object → ⊥) → IsNamedAt path c at change → ⊥
no_named path c at change nowhere k = nowhere (steps_of c) k.object k.led

-- a path that has led nowhere
pub no_name_there : (read : ℕ) (object : Entry) → NoName ≡ At read object → ⊥
no_name_there read object e = absurd (cc e)

pub untold_there : (read : ℕ) (object : Entry) → Untold ≡ At read object → ⊥
untold_there read object e = absurd (cc e)

-- ---- one path
-- the name is the next one, by the same path and names
next_name : (p : Plan) (c : Command) (g : Gfid) (name : NameId) (w : Work) (path : Path) (names : List NameId) → path ≡ path_by p w → names ≡ path_of c
    → (IsNextOf path names g name → IsNextName p c g name w) × (IsNextName p c g name w → IsNextOf path names g name)
next_name p c g name w path names hp hn = (
  λ k. record { read = k.read; object = k.object; stands = sym hp ∙ k.stands; asked = k.asked; next = ap (λ (l : List NameId). slice_get l k.read) (sym hn) ∙ k.next },
  λ k. record { read = k.read; object = k.object; stands = hp ∙ k.stands; asked = k.asked; next = ap (λ (l : List NameId). slice_get l k.read) hn ∙ k.next },
)

-- what begins is what the words name, by the same place
pub named_is : (p : Plan) (c : Command) (w : Work) (at n : ℕ) (change : Change) (begun : Bool) (place : Path) → begun ≡ has begins_attempt w → place ≡ place_by p c w → n ≡ at
    → ((begun ≡ false) × IsNamedAt place c n change → (has begins_attempt w ≡ false) × Names p c w at change) × ((has begins_attempt w ≡ false) × Names p c w at change → (begun ≡ false) × IsNamedAt place c n change)
named_is p c w at n change begun place hb hl hn = (
  λ k. (sym hb ∙ k.0, record { object = k.1.object; led = sym hl ∙ k.1.led; named = ap (λ (m : ℕ). change_named k.1.object.gfid m c) (sym hn) ∙ k.1.named }),
  λ k. (hb ∙ k.0, record { object = k.1.object; led = hl ∙ k.1.led; named = ap (λ (m : ℕ). change_named k.1.object.gfid m c) hn ∙ k.1.named }),
)

-- a line keeps to the command, by where its work stands
pub keeps_is : (p : Plan) (c : Command) (line : Line) (at : ℕ) (w : Work) (path : Path) (names : List NameId) (begins : Bool) → path ≡ path_by p w → names ≡ path_of c
    → ((change : Change) → change_of line ≡ Some change → ((begins ≡ true) ↔ ((has begins_attempt w ≡ false) × Names p c w at change)))
    → (KeepsBy path names begins line → KeepsTo p c line at w) × (KeepsTo p c line at w → KeepsBy path names begins line)
keeps_is p c (Ask a b (ReadName g name) told took) at w path names begins hp hn hb = next_name p c g name w path names hp hn
keeps_is p c (Begin a change) at w path names begins hp hn hb = ((hb change refl).0, (hb change refl).1)
keeps_is p c (HealBegin a g kind) at w path names begins hp hn hb = (λ k. k, λ k. k)
keeps_is p c (HealEnd a g kind reply) at w path names begins hp hn hb = (λ k. k, λ k. k)
keeps_is p c line at w path names begins hp hn hb = (λ k. tt, λ k. tt)

-- the place of a command, by where its work stands
pub place_path : (p : Plan) (c : Command) (w : Work) (s : Stand) → IsAt p (steps_of c) w s → is_on_name c ≡ false → path_seen s.path ≡ place_by p c w
place_path p c w s v e = v.path ∙ sym (ap (λ (t : Bool). if t then path_upto (steps_of c) p w else path_by p w) e)

pub place_name : (p : Plan) (c : Command) (w : Work) (s : Stand) → IsAt p (steps_of c) w s → is_on_name c ≡ true → path_seen s.place ≡ place_by p c w
place_name p c w s v e = v.place ∙ sym (ap (λ (t : Bool). if t then path_upto (steps_of c) p w else path_by p w) e)

-- ---- what a line begins
-- a test of the change that a line begins is one of any change that it begins
pub of_change : (line : Line) (P : Change → Type 0) (begun : Change) (r : Bool) → Some begun ≡ change_of line → ((r ≡ true) ↔ P begun) → (change : Change) → change_of line ≡ Some change → ((r ≡ true) ↔ P change)
of_change line P begun r h k change e = subst (λ (x : Change). (r ≡ true) ↔ P x) (same_Some begun change (h ∙ e)) k

pub no_begin : (line : Line) (P : Type 0) (r : Bool) → None ≡ change_of line → (change : Change) → change_of line ≡ Some change → ((r ≡ true) ↔ P)
no_begin line P r h change e =
    let no : None ≡ Some change = h ∙ e in
    absurd (cc no)
